-- Bounds in micrometres and milliseconds, from those in the numerators of a depth.
use Rattle.speed_bound.proofs.Prelude.{◌≡◌, ℕ, ◌*◌, ◌^◌, ◌≤◌, ℤ, pos, ◌*ℤ◌, ◌≤ℤ◌, ◌<ℤ◌, neg_ℤ, arith, refl, sym, ◌∙◌, ap, ints, le_from_mul_ℤ, mul-le, pow_pos, ring, linear, le_mul_ℤ, mul_assoc_ℤ, mul_comm_ℤ, mul_neg_ℤ, IsWithin, within_mul, rate_of, time, units}
use Rattle.speed_bound.proofs.Slopes.{within_same}
use Rattle.speed_bound.proofs.RateLemmas.{rate-enough}

-- ---- a positive factor cancels
-- from an order
pub le_from_mul : (s x y : ℤ) → pos 0 <ℤ s → (s *ℤ x) ≤ℤ (s *ℤ y) → x ≤ℤ y
le_from_mul s x y positive below = le_from_mul_ℤ x y s positive (omega (arith, linear, below, mul_comm_ℤ s x, mul_comm_ℤ s y))

-- from a bound
pub within_cancel : (s m x : ℤ) → pos 0 <ℤ s → IsWithin (s *ℤ m) (s *ℤ x) → IsWithin m x
within_cancel s m x positive within =
    (le_from_mul s (neg_ℤ m) x positive (omega (arith, linear, within.0, mul_neg_ℤ s m)), le_from_mul s x m positive within.1)

-- a wider bound
pub within_wider : (m n x : ℤ) → m ≤ℤ n → IsWithin m x → IsWithin n x
within_wider m n x wider within = (omega (arith, linear), omega (arith, linear))

-- ---- units
regroup_ring : (u n p m y : ℤ) → u *ℤ (n *ℤ ((p *ℤ m) *ℤ y)) ≡ (((u *ℤ n) *ℤ p) *ℤ m) *ℤ y
regroup_ring u n p m y = simp ring refl

-- What n times the widest difference of a part bounds, at its scale, the rate of the difference bounds in micrometres and milliseconds.
pub in_units : (order e ms m a u n c k t : ℕ) (y room value d : ℤ) → 1 ≤ time order ms → rate_of order e ms m ≤ a → u * n ≡ c * units order → c * k ≡ 5040 → time order ms ≡ k * t → pos 0 ≤ℤ y →
    room ≡ (pos (2 ^ (order * e)) *ℤ pos m) *ℤ y → pos u *ℤ value ≡ (pos 5040 *ℤ pos (2 ^ (7 * e))) *ℤ d → IsWithin (pos n *ℤ room) value → IsWithin (pos (a * t) *ℤ y) d
in_units order e ms m a u n c k t y room value d some slow counts scale clock passed room_is value_is within =
    let bound : ℕ = c * (units order * 2 ^ (order * e) * m) in
    let scaled : IsWithin (pos bound *ℤ y) ((pos 5040 *ℤ pos (2 ^ (7 * e))) *ℤ d) =
    within_same (ap (λ (z : ℤ). pos u *ℤ (pos n *ℤ z)) room_is ∙ regroup_ring (pos u) (pos n) (pos (2 ^ (order * e))) (pos m) y ∙ ap (λ (z : ℤ). z *ℤ y) (counted (units order) (2 ^ (order * e)) counts)) value_is
    (within_mul (pos u) _ _ (omega (arith, ints)) within) in
    let more : (y *ℤ pos bound) ≤ℤ (y *ℤ pos (5040 * 2 ^ (7 * e) * (a * t))) = le_mul_ℤ y _ _ passed (omega (arith, ints, most)) in
    within_cancel (pos 5040 *ℤ pos (2 ^ (7 * e))) _ _ (positive (2 ^ (7 * e)) (pow_pos (7 * e)))
    (within_wider _ _ _ (omega (arith, linear, more, mul_comm_ℤ y (pos bound), mul_comm_ℤ y (pos (5040 * 2 ^ (7 * e) * (a * t))), spread (2 ^ (7 * e)) (a * t))) scaled)
  where
    counted : (w p : ℕ) → u * n ≡ c * w → ((pos u *ℤ pos n) *ℤ pos p) *ℤ pos m ≡ pos (c * (w * p * m))
    counted w p is = product u n p m ∙ ap (λ (i : ℕ). pos i) (ap (λ (i : ℕ). i * p * m) is ∙ (omega arith))
      where
        product : (u n p m : ℕ) → ((pos u *ℤ pos n) *ℤ pos p) *ℤ pos m ≡ pos (u * n * p * m)
        product u n p m = omega (arith, ints)

    most : c * (units order * 2 ^ (order * e) * m) ≤ 5040 * 2 ^ (7 * e) * (a * t)
    most =
        let grown : rate_of order e ms m * (time order ms * 2 ^ (7 * e)) ≤ a * (time order ms * 2 ^ (7 * e)) = mul-le _ _ a _ slow (omega arith) in
        let fast : units order * 2 ^ (order * e) * m ≤ a * (k * t * 2 ^ (7 * e)) = rw (sym clock) (omega (arith, rate-enough order e ms m some, grown)) in
        all (2 ^ (7 * e)) (mul-le c _ c _ (omega arith) fast)
      where
        all : (q : ℕ) {x : ℕ} → x ≤ c * (a * (k * t * q)) → x ≤ 5040 * q * (a * t)
        all q {x} few = rw (sym scale) (omega (arith, few))

    positive : (q : ℕ) → 1 ≤ q → pos 0 <ℤ (pos 5040 *ℤ pos q)
    positive q some = omega (arith, ints)

    spread : (q n : ℕ) → pos (5040 * q * n) *ℤ y ≡ (pos 5040 *ℤ pos q) *ℤ (pos n *ℤ y)
    spread q n = ap (λ (z : ℤ). z *ℤ y) (product q n) ∙ mul_assoc_ℤ (pos 5040 *ℤ pos q) (pos n) y
      where
        product : (q n : ℕ) → pos (5040 * q * n) ≡ (pos 5040 *ℤ pos q) *ℤ pos n
        product q n = omega (arith, ints)
