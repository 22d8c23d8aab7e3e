-- The first control value below a number.
use Rattle.sep_parts.proofs.Prelude.{common_steps, ◌≡◌, ℕ, zero, suc, ◌+◌, ◌^◌, ◌≤◌, ◌<◌, ℤ, pos, ◌≤ℤ◌, Bool, true, false, cond, not, int_le, int_lt, nat_lt, arith, refl, ap, List, [], ◌∷◌, length, get_or, Option, Some, None, IsTrue, ◌↔◌, list_all, position, position_or_len, ints, All-from_get_or, nat_tests, at, IsBelow, eight, at-eight, same_eight, first_low}
use Rattle.std.proofs.lemmas.List.Sums.{AllPass-from_list_all, list_all-from_AllPass, position_or_len_is}
use Rattle.std.proofs.lemmas.List.Quantifiers.{position-Some}

-- where no place is found, no element passes
pub none_passes : {X : Type 0} (p : X → Bool) (xs : List X) (k : ℕ) (d : X) → k < length xs → length xs ≤ position_or_len p xs → p (get_or xs k d) ≡ false
none_passes p [] k d inside far = absurd (omega arith)
none_passes p (x ∷ xs) zero d inside far = grind (arith, common_steps, cond, not)
none_passes p (x ∷ xs) (suc k) d inside far = none_passes p xs k d (omega arith) (later (p x) far)
  where
    later : (b : Bool) → length (x ∷ xs) ≤ cond (not b) (1 + position_or_len p xs) 0 → length xs ≤ position_or_len p xs
    later true far = absurd (omega arith)
    later false far = omega arith

beyond : (m n i : ℕ) → cond (nat_lt m n) (Some i) None ≡ (let none : Option ℕ = None in none) → n ≤ m
beyond m n i e = grind (arith, common_steps, nat_lt, cond, nat_tests)

pub first_low-values : (f : ℕ → ℤ) (least : ℤ) → first_low f least ≡ None → (k : ℕ) → k ≤ 7 → least ≤ℤ f k
unfolding first_low
first_low-values f least none k small =
    let p : ℤ → Bool = λ v. int_lt v least in
    let fails : int_lt (at (eight f) k) least ≡ false = none_passes p (eight f) k (pos 0) (omega arith) (beyond (position_or_len p (eight f)) 8 (position_or_len p (eight f)) none) in
    omega (arith, ints, fails, at-eight f k small)

not_below : (x y z : ℤ) → y ≡ x → z ≤ℤ x → int_lt y z ≡ false
not_below x y z e above = grind (arith, common_steps, ints, int_lt)

pub first_low-none : (f : ℕ → ℤ) (least : ℤ) → ((k : ℕ) → k ≤ 7 → least ≤ℤ f k) → first_low f least ≡ None
unfolding first_low
first_low-none f least above = grind (arith, common_steps, int_lt, position_or_len_is, pos, not_below, at-eight, cond, nat_lt)

-- eight values are all at least a number exactly where each of them is
pub all_above : (b : List ℤ) (least : ℤ) → length b ≡ 8 → IsTrue (list_all (λ v. int_le least v) b) ↔ ((k : ℕ) → k ≤ 7 → least ≤ℤ at b k)
all_above b least eight_long = (
  λ all k small. let here : int_le least (at b k) ≡ true = AllPass-from_list_all (λ v. int_le least v) b all k (pos 0) (omega (arith, eight_long)) in omega (arith, ints, here),
  λ above. list_all-from_AllPass (λ v. int_le least v) b (All-from_get_or (λ v. int_le least v ≡ true) b (pos 0) (λ k inside. at_least (at b k) (above k (omega (arith, eight_long))))),
)
  where
    at_least : (v : ℤ) → least ≤ℤ v → int_le least v ≡ true
    at_least v more = go (int_le least v) refl
      where
        go : (b : Bool) → int_le least v ≡ b → b ≡ true
        go true e = refl
        go false e = absurd (omega (arith, ints, e, more))

pub first_low-small : (f : ℕ → ℤ) (least : ℤ) (k : ℕ) → first_low f least ≡ Some k → k < 8
unfolding first_low
first_low-small f least k e = (position-Some (λ v. int_lt v least) (eight f) k (pos 0) e).0

pub first_low-same : (f g : ℕ → ℤ) (least : ℤ) → ((k : ℕ) → k ≤ 7 → f k ≡ g k) → first_low f least ≡ first_low g least
unfolding first_low
first_low-same f g least same = ap (λ xs. position (λ v. int_lt v least) xs) (same_eight f g (λ k small. same k (omega arith)))

pub wider : (x : ℤ) → IsBelow (2 ^ 86) x → IsBelow (2 ^ 100) x
wider x small = (omega (arith, ints), omega (arith, ints))

pub wide_enough : (x : ℤ) → IsBelow (2 ^ 86) x → IsBelow (2 ^ 118) x
wide_enough x small = (omega (arith, ints), omega (arith, ints))

-- A question asked at eight places, of which a yes says that a value is at least a number and a no that it isn't: all are
-- answered with yes exactly where each value is.
pub each_place : (f : ℕ → ℤ) (least : ℤ) (b : Bool) (Yes No : ℕ → Type 0)
    → ((k : ℕ) → k ≤ 7 → Yes k → least ≤ℤ f k)
    → ((k : ℕ) → k ≤ 7 → No k → least ≤ℤ f k → false ≡ true)
    → (IsTrue b → (k : ℕ) → k ≤ 7 → Yes k)
    → (b ≡ false → (k : ℕ) × (k ≤ 7) × No k)
    → IsTrue b ↔ ((k : ℕ) → k ≤ 7 → least ≤ℤ f k)
each_place f least b Yes No on_yes on_no all one = (λ ok k small. on_yes k small (all ok k small), λ above. go b refl above)
  where
    go : (r : Bool) → b ≡ r → ((k : ℕ) → k ≤ 7 → least ≤ℤ f k) → IsTrue b
    go true is above = is
    go false is above = let low : (k : ℕ) × (k ≤ 7) × No k = one is in absurd (cc (on_no low.0 low.1 low.2 (above low.0 low.1)))
