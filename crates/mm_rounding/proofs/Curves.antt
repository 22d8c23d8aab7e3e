-- A curve and the curve of its rounded control values are within half a millimetre: the hull property of their difference.
use Rattle.mm_rounding.proofs.Prelude.{◌≡◌, ℕ, zero, suc, ◌+◌, ◌-◌, ◌<◌, ◌≤◌, ℤ, pos, neg_ℤ, ◌+ℤ◌, ◌-ℤ◌, ◌*ℤ◌, ◌≤ℤ◌, List, [], ◌∷◌, map, length, get_or-map, length-map, arith, sym, ap, ◌∙◌, subst, ints, at, bern, bernstein, IsNear, bernstein-mix, bernstein-at_least, bernstein-same, bernstein-zero, bernstein-suc, cong_add, millimetres, position}
use Rattle.whole_numbers.specs.Sums.{power}
use Rattle.whole_numbers.proofs.RingLemmas.{ring, linear, le_mul_ℤ, mul_assoc_ℤ, mul_left_comm_ℤ, mul_comm_ℤ, mul_add_ℤ, zero_mul_ℤ}
use Rattle.whole_numbers.proofs.SumLemmas.{power-add}
use Rattle.mm_rounding.proofs.Millimetres.{millimetres_near}

-- a power of a number that is not negative
power_positive : (c : ℤ) (k : ℕ) → pos 0 ≤ℤ c → pos 0 ≤ℤ power c k
power_positive c zero positive = omega (arith, ints)
power_positive c (suc k) positive =
    omega (arith, linear, le_mul_ℤ c (pos 0) (power c k) positive (power_positive c k positive), mul_comm_ℤ c (pos 0), zero_mul_ℤ c)

-- two powers whose exponents sum to seven
seventh : (c : ℤ) (n : ℕ) → 1 ≤ n → n ≤ 8 → power c (8 - n) *ℤ power c (n - 1) ≡ power c 7
seventh c n some few =
    let e : (8 - n) + (n - 1) ≡ 7 = omega arith in
    sym (power-add c (8 - n) (n - 1)) ∙ ap (power c) e

-- Where values differ by 500 at most in one direction, so do their sums, scaled.
half : (n : ℕ) (x y : ℤ) (f g : ℕ → ℤ) (a c p : ℤ) → pos 0 ≤ℤ a → a ≤ℤ c → pos 0 ≤ℤ p →
    ((k : ℕ) → k ≤ n → neg_ℤ (pos 500) ≤ℤ (x *ℤ f k +ℤ y *ℤ g k)) →
    (neg_ℤ (pos 500) *ℤ (p *ℤ power c n)) ≤ℤ (x *ℤ (p *ℤ bernstein n f a c) +ℤ y *ℤ (p *ℤ bernstein n g a c))
half n x y f g a c p positive within scale near =
    let low : (neg_ℤ (pos 500) *ℤ power c n) ≤ℤ bernstein n (λ k. x *ℤ f k +ℤ y *ℤ g k) a c =
    bernstein-at_least n (λ k. x *ℤ f k +ℤ y *ℤ g k) (neg_ℤ (pos 500)) a c positive within near in
    let mixed : bernstein n (λ k. x *ℤ f k +ℤ y *ℤ g k) a c ≡ x *ℤ bernstein n f a c +ℤ y *ℤ bernstein n g a c = bernstein-mix n x y f g a c in
    let times : (p *ℤ (neg_ℤ (pos 500) *ℤ power c n)) ≤ℤ (p *ℤ (x *ℤ bernstein n f a c +ℤ y *ℤ bernstein n g a c)) =
    le_mul_ℤ p _ _ scale (subst (λ (z : ℤ). (neg_ℤ (pos 500) *ℤ power c n) ≤ℤ z) mixed low) in
    let left : p *ℤ (neg_ℤ (pos 500) *ℤ power c n) ≡ neg_ℤ (pos 500) *ℤ (p *ℤ power c n) = mul_left_comm_ℤ p (neg_ℤ (pos 500)) (power c n) in
    let right : p *ℤ (x *ℤ bernstein n f a c +ℤ y *ℤ bernstein n g a c) ≡ x *ℤ (p *ℤ bernstein n f a c) +ℤ y *ℤ (p *ℤ bernstein n g a c) =
    mul_add_ℤ p (x *ℤ bernstein n f a c) (y *ℤ bernstein n g a c)
    ∙ cong_add (mul_left_comm_ℤ p x (bernstein n f a c)) (mul_left_comm_ℤ p y (bernstein n g a c)) in
    omega (arith, linear, times, left, right)

-- The curve of the rounded control values is near to the curve of the control values.
pub near_curve : (v : List ℤ) (a c : ℕ) → 1 ≤ length v → length v ≤ 8 → a ≤ c → IsNear (position v a c) (position (map millimetres v) a c) c
near_curve v a c some few within =
    let n : ℕ = length v - 1 in
    let p : ℤ = power (pos c) (8 - length v) in
    let same_length : length (map millimetres v) ≡ length v = length-map v millimetres in
    let decoded : position (map millimetres v) a c ≡ p *ℤ bernstein n (at (map millimetres v)) (pos a) (pos c) =
    ap (λ (m : ℕ). power (pos c) (8 - m) *ℤ bernstein (m - 1) (at (map millimetres v)) (pos a) (pos c)) same_length in
    let seven : p *ℤ power (pos c) n ≡ power (pos c) 7 = seventh (pos c) (length v) some few in
    let positive : pos 0 ≤ℤ pos a = omega (arith, ints) in
    let below_whole : pos a ≤ℤ pos c = omega (arith, ints) in
    let scale : pos 0 ≤ℤ p = power_positive (pos c) (8 - length v) (omega (arith, ints)) in
    let low = half n (pos 1000) (neg_ℤ (pos 1)) (at (map millimetres v)) (at v) (pos a) (pos c) p positive below_whole scale
    (λ k small. let e : at (map millimetres v) k ≡ millimetres (at v k) = get_or-map millimetres v k (pos 0) (pos 0) (omega arith) in rw e (below (at v k))) in
    let high = half n (pos 1) (neg_ℤ (pos 1000)) (at v) (at (map millimetres v)) (pos a) (pos c) p positive below_whole scale
    (λ k small. let e : at (map millimetres v) k ≡ millimetres (at v k) = get_or-map millimetres v k (pos 0) (pos 0) (omega arith) in rw e (above (at v k))) in
    rw (decoded) (record {
      below = lower (p *ℤ power (pos c) n) (power (pos c) 7) (p *ℤ bernstein n (at (map millimetres v)) (pos a) (pos c)) (p *ℤ bernstein n (at v) (pos a) (pos c)) seven low;
      above = upper (p *ℤ power (pos c) n) (power (pos c) 7) (p *ℤ bernstein n (at v) (pos a) (pos c)) (p *ℤ bernstein n (at (map millimetres v)) (pos a) (pos c)) seven high;
    })
  where
    below : (v : ℤ) → neg_ℤ (pos 500) ≤ℤ (pos 1000 *ℤ millimetres v +ℤ neg_ℤ (pos 1) *ℤ v)
    below v = omega (arith, ints, millimetres_near v)

    above : (v : ℤ) → neg_ℤ (pos 500) ≤ℤ (pos 1 *ℤ v +ℤ neg_ℤ (pos 1000) *ℤ millimetres v)
    above v = omega (arith, ints, millimetres_near v)

    lower : (q q7 d w : ℤ) → q ≡ q7 → (neg_ℤ (pos 500) *ℤ q) ≤ℤ (pos 1000 *ℤ d +ℤ neg_ℤ (pos 1) *ℤ w) → (w -ℤ (pos 500 *ℤ q7)) ≤ℤ (pos 1000 *ℤ d)
    lower q q7 d w e h = omega (arith, ints, e, h)

    upper : (q q7 w d : ℤ) → q ≡ q7 → (neg_ℤ (pos 500) *ℤ q) ≤ℤ (pos 1 *ℤ w +ℤ neg_ℤ (pos 1000) *ℤ d) → (pos 1000 *ℤ d) ≤ℤ (w +ℤ (pos 500 *ℤ q7))
    upper q q7 w d e h = omega (arith, ints, e, h)

-- control values that all are x have the sum c ^ n x
bernstein-constant : (n : ℕ) (x a c : ℤ) → bernstein n (λ _. x) a c ≡ power c n *ℤ x
bernstein-constant zero x a c = bernstein-zero (λ _. x) a c ∙ omega (arith, ints)
bernstein-constant (suc n) x a c =
    bernstein-suc n (λ _. x) a c
    ∙ rw (bernstein-constant n x a c) (whole c a (power c n) x)
  where
    whole : (c a p x : ℤ) → (c -ℤ a) *ℤ (p *ℤ x) +ℤ a *ℤ (p *ℤ x) ≡ (c *ℤ p) *ℤ x
    whole c a p x = simp ring (omega (arith, linear))

-- A curve whose control values are equal stays at the first of them.
pub position-constant : (v : List ℤ) (a c : ℕ) → 1 ≤ length v → length v ≤ 8 → ((k : ℕ) → k < length v → at v k ≡ at v 0) →
    position (at v 0 ∷ []) a c ≡ position v a c
position-constant v a c some few equal =
    let n : ℕ = length v - 1 in
    let sum : bern v (pos a) (pos c) ≡ power (pos c) n *ℤ at v 0 =
    bernstein-same n (at v) (λ _. at v 0) (pos a) (pos c) (λ k small. equal k (omega arith)) ∙ bernstein-constant n (at v 0) (pos a) (pos c) in
    ap (λ (z : ℤ). power (pos c) 7 *ℤ z) (bernstein-zero (at (at v 0 ∷ [])) (pos a) (pos c))
    ∙ ap (λ (z : ℤ). z *ℤ at v 0) (sym (seventh (pos c) (length v) some few))
    ∙ mul_assoc_ℤ (power (pos c) (8 - length v)) (power (pos c) n) (at v 0)
    ∙ ap (λ (z : ℤ). power (pos c) (8 - length v) *ℤ z) (sym sum)
