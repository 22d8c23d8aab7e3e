-- The laws of curves, over lists.
use Rattle.bezier_core.proofs.Prelude.{◌≡◌, ℕ, suc, ◌≤◌, ◌-◌, ℤ, pos, ◌+ℤ◌, ◌*ℤ◌, ◌≤ℤ◌, arith, refl, ◌∙◌, List, [], ◌∷◌, length, All, common_steps, All-get_or, power, linear, at, bern, bernstein, bernstein-at_least, bernstein-same, bernstein-add, bernstein-scale, bernstein-mix, eight, raised, raised_value}
use Rattle.bezier_core.proofs.RaisedLemmas.{bernstein-raised}

-- an entry of the eight values of f
pub at-eight : (f : ℕ → ℤ) (k : ℕ) → k ≤ 7 → at (eight f) k ≡ f k
at-eight f (suc (suc (suc (suc (suc (suc (suc (suc k)))))))) within = absurd (omega arith)
at-eight f k within = refl

-- the raised control values of a curve that stays at one value
pub raised-level : (b : List ℤ) → length b ≡ 1 → raised b ≡ eight (λ k. pos 5040 *ℤ at b 0)
unfolding raised_value
raised-level (x ∷ []) one = grind (arith, common_steps, linear)
raised-level xs one = absurd (omega arith)

pub bern-eight : (f : ℕ → ℤ) (a c : ℤ) → bern (eight f) a c ≡ bernstein 7 f a c
bern-eight f a c = bernstein-same 7 (at (eight f)) f a c (λ k within. at-eight f k within)

pub hull : (b : List ℤ) (low a c : ℤ) → length b ≡ 8 → pos 0 ≤ℤ a → a ≤ℤ c → All (λ v. low ≤ℤ v) b → (low *ℤ power c 7) ≤ℤ bern b a c
hull b low a c len positive within above =
    rw len (bernstein-at_least 7 (at b) low a c positive within (λ k small. All-get_or (λ v. low ≤ℤ v) b k (pos 0) (omega arith) above))

pub linear_sum : (f g h : ℕ → ℤ) (u v w a c : ℤ) →
    bernstein 7 (λ k. u *ℤ f k +ℤ v *ℤ g k +ℤ w *ℤ h k) a c ≡ u *ℤ bernstein 7 f a c +ℤ v *ℤ bernstein 7 g a c +ℤ w *ℤ bernstein 7 h a c
linear_sum f g h u v w a c =
    bernstein-add 7 (λ k. u *ℤ f k +ℤ v *ℤ g k) (λ k. w *ℤ h k) a c
    ∙ join (bernstein-mix 7 u v f g a c) (bernstein-scale 7 w h a c)
  where
    join : {x y z w : ℤ} → x ≡ y → z ≡ w → x +ℤ z ≡ y +ℤ w
    join {x} {y} {z} {w} p q = cc

pub raise : (b : List ℤ) (n : ℕ) (a c : ℤ) → length b ≡ n → 1 ≤ n → n ≤ 8 → bern (raised b) a c ≡ pos 5040 *ℤ (power c (8 - n) *ℤ bern b a c)
raise b n a c len some few =
    let e : 8 - n ≡ 7 - (length b - 1) = omega arith in
    rw e (bern-eight (raised_value (length b - 1) (at b)) a c ∙ bernstein-raised (length b - 1) (at b) a c (omega arith))
