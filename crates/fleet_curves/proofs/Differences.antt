-- The differences of raised curves.
use Rattle.fleet_curves.proofs.Prelude.{◌≡◌, ℕ, zero, suc, ◌^◌, ◌<◌, ◌≤◌, ℤ, pos, ◌-ℤ◌, arith, refl, ◌∙◌, ap, List, [], ◌∷◌, length, get_or, All, lit<, ints, All-from_get_or, at, Bez, IsBelow, controls, eight, at-eight, controls_below}

below_less : (x y : ℤ) → IsBelow (2 ^ 28) x → IsBelow (2 ^ 28) y → IsBelow (2 ^ 30) (x -ℤ y)
below_less x y first second = (omega (arith, ints), omega (arith, ints))

pub less_small : (second first : List (Bez 8)) (axis : ℕ) →
    All (λ (curve : Bez 8). All (IsBelow (2 ^ 28)) curve.b) second → All (λ (curve : Bez 8). All (IsBelow (2 ^ 28)) curve.b) first →
    All (IsBelow (2 ^ 30)) (eight (λ k. at (controls second axis) k -ℤ at (controls first axis) k))
less_small second first axis second_small first_small =
    All-from_get_or (IsBelow (2 ^ 30)) (eight (λ k. at (controls second axis) k -ℤ at (controls first axis) k)) (pos 0)
    (λ k inside. rw (at-eight (λ k. at (controls second axis) k -ℤ at (controls first axis) k) k (omega arith))
    (below_less (at (controls second axis) k) (at (controls first axis) k) (controls_below (2 ^ 28) second axis k (lit< tt) second_small) (controls_below (2 ^ 28) first axis k (lit< tt) first_small)))

-- lists of three and of seven numbers
pub list_of_three : (xs : List ℤ) → length xs ≡ 3 → xs ≡ at xs 0 ∷ at xs 1 ∷ at xs 2 ∷ []
list_of_three [] e = absurd (omega arith)
list_of_three (x ∷ []) e = absurd (omega arith)
list_of_three (x ∷ y ∷ []) e = absurd (omega arith)
list_of_three (x ∷ y ∷ z ∷ []) e = refl
list_of_three (x ∷ y ∷ z ∷ v ∷ xs) e = absurd (omega arith)

pub list_of_seven : (xs : List ℤ) → length xs ≡ 7 → xs ≡ at xs 0 ∷ at xs 1 ∷ at xs 2 ∷ at xs 3 ∷ at xs 4 ∷ at xs 5 ∷ at xs 6 ∷ []
list_of_seven [] e = absurd (omega arith)
list_of_seven (a ∷ []) e = absurd (omega arith)
list_of_seven (a ∷ b ∷ []) e = absurd (omega arith)
list_of_seven (a ∷ b ∷ c ∷ []) e = absurd (omega arith)
list_of_seven (a ∷ b ∷ c ∷ d ∷ []) e = absurd (omega arith)
list_of_seven (a ∷ b ∷ c ∷ d ∷ x ∷ []) e = absurd (omega arith)
list_of_seven (a ∷ b ∷ c ∷ d ∷ x ∷ y ∷ []) e = absurd (omega arith)
list_of_seven (a ∷ b ∷ c ∷ d ∷ x ∷ y ∷ z ∷ []) e = refl
list_of_seven (a ∷ b ∷ c ∷ d ∷ x ∷ y ∷ z ∷ v ∷ xs) e = absurd (omega arith)

pub eight_all : (P : ℤ → Type 0) (a b c d x y z v : ℤ) → P a → P b → P c → P d → P x → P y → P z → P v → All P (a ∷ b ∷ c ∷ d ∷ x ∷ y ∷ z ∷ v ∷ [])
eight_all P a b c d x y z v pa pb pc pd px py pz pv zero e inside = pa
eight_all P a b c d x y z v pa pb pc pd px py pz pv (suc zero) e inside = pb
eight_all P a b c d x y z v pa pb pc pd px py pz pv (suc (suc zero)) e inside = pc
eight_all P a b c d x y z v pa pb pc pd px py pz pv (suc (suc (suc zero))) e inside = pd
eight_all P a b c d x y z v pa pb pc pd px py pz pv (suc (suc (suc (suc zero)))) e inside = px
eight_all P a b c d x y z v pa pb pc pd px py pz pv (suc (suc (suc (suc (suc zero))))) e inside = py
eight_all P a b c d x y z v pa pb pc pd px py pz pv (suc (suc (suc (suc (suc (suc zero)))))) e inside = pz
eight_all P a b c d x y z v pa pb pc pd px py pz pv (suc (suc (suc (suc (suc (suc (suc zero))))))) e inside = pv
eight_all P a b c d x y z v pa pb pc pd px py pz pv (suc (suc (suc (suc (suc (suc (suc (suc k)))))))) e inside = absurd (omega arith)

pub same_four : {a b c d x y z v : ℤ} → a ≡ x → b ≡ y → c ≡ z → d ≡ v → ◌≡◌ {A = List ℤ} (a ∷ b ∷ c ∷ d ∷ []) (x ∷ y ∷ z ∷ v ∷ [])
same_four {a} {b} {c} {d} {x} {y} {z} {v} p q r s = cc

pub same_two : {a b x y : ℤ} → a ≡ x → b ≡ y → ◌≡◌ {A = List ℤ} (a ∷ b ∷ []) (x ∷ y ∷ [])
same_two {a} {b} {x} {y} p q = cc

pub same_eight_numbers : {a b c d e f g h k l m n o p q r : ℤ} → a ≡ k → b ≡ l → c ≡ m → d ≡ n → e ≡ o → f ≡ p → g ≡ q → h ≡ r →
    ◌≡◌ {A = List ℤ} (a ∷ b ∷ c ∷ d ∷ e ∷ f ∷ g ∷ h ∷ []) (k ∷ l ∷ m ∷ n ∷ o ∷ p ∷ q ∷ r ∷ [])
same_eight_numbers {a} {b} {c} {d} {e} {f} {g} {h} {k} {l} {m} {n} {o} {p} {q} {r} e1 e2 e3 e4 e5 e6 e7 e8 = cc

pub same_default : {X : Type 0} (xs : List X) (i : ℕ) (d e : X) → i < length xs → get_or xs i d ≡ get_or xs i e
same_default [] i d e inside = absurd (omega arith)
same_default (x ∷ xs) zero d e inside = refl
same_default (x ∷ xs) (suc i) d e inside = same_default xs i d e (omega arith)

pub same_curves : (a b c : Bez 8) (x y z : List ℤ) → a.b ≡ x → b.b ≡ y → c.b ≡ z →
    ◌≡◌ {A = List (Bez 8)} (a ∷ b ∷ c ∷ []) (record { b = x } ∷ record { b = y } ∷ record { b = z } ∷ [])
same_curves a b c x y z p q r =
    ap (λ (v : List ℤ). record { b = v } ∷ b ∷ c ∷ []) p ∙ ap (λ (v : List ℤ). record { b = x } ∷ record { b = v } ∷ c ∷ []) q
    ∙ ap (λ (v : List ℤ). record { b = x } ∷ record { b = y } ∷ record { b = v } ∷ []) r

pub three_axes : (P : ℕ → Type 0) → P 0 → P 1 → P 2 → (axis : ℕ) → axis ≤ 2 → P axis
three_axes P x y z zero near = x
three_axes P x y z (suc zero) near = y
three_axes P x y z (suc (suc zero)) near = z
three_axes P x y z (suc (suc (suc k))) near = absurd (omega arith)
