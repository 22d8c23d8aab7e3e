-- From what is seen along a direction to the ellipsoids around all points that two drones may be at.
use Rattle.sep_parts.proofs.Prelude.{common_steps, ◌≡◌, ℕ, ◌+◌, ◌*◌, ◌≤◌, ℤ, pos, neg_ℤ, ◌+ℤ◌, ◌-ℤ◌, ◌*ℤ◌, ◌≤ℤ◌, ◌<ℤ◌, unsigned_abs, arith, refl, sym, subst, List, ints, by_lt_z, power, IsIn, at, Moment, ring, linear, le_mul_ℤ, lt_mul_ℤ, mul_add_ℤ, mul_comm_ℤ, mul_positive, mul_not_negative, mul_zero_ℤ, one_mul_ℤ, zero_mul_ℤ, Traj, decoded, own, Clearance, AreSmall, for_ellipsoids, for_reach, for_strays, length_squared, limit_along, reach_on, threshold, weights, AreTogether, MayBeAt, Point, ShareNoPoint, between, square, way}
use Rattle.whole_numbers.proofs.DivisionLemmas.{square_le}
use Rattle.sep_parts.proofs.Cauchy.{cauchy, square_positive}
use Rattle.sep_parts.proofs.Lifts.{seventh_positive}
use Rattle.sep_parts.proofs.Limits.{length_small}
use Rattle.sep_parts.proofs.Positions.{IsSeenAt}
use Rattle.sep_parts.proofs.Roots.{laws}
use Rattle.sep_parts.proofs.Strays.{dot, dot_within, points_apart, sizes_dot, way_low}

squares : (t k : ℤ) → (t *ℤ k) *ℤ (t *ℤ k) ≡ (t *ℤ t) *ℤ (k *ℤ k)
squares t k = simp ring refl

-- n times both sides
times_right : (v n r k : ℤ) → ((v *ℤ r) *ℤ (k *ℤ k) +ℤ k *ℤ k) *ℤ n ≡ v *ℤ ((r *ℤ n) *ℤ (k *ℤ k)) +ℤ n *ℤ (k *ℤ k)
times_right v n r k = simp ring (omega (arith, linear))

times_left : (v n q : ℤ) → (v *ℤ q) *ℤ n ≡ v *ℤ (n *ℤ q)
times_left v n q = simp ring refl

-- Cauchy's inequality against the threshold t, where the square of t is a whole number above r n and n is at most v
pub above_from : (v t k n r q w : ℤ) → pos 0 ≤ℤ t → pos 0 <ℤ k → pos 0 ≤ℤ n → pos 0 ≤ℤ v → n ≤ℤ v → (r *ℤ n) <ℤ (t *ℤ t) → (t *ℤ k) ≤ℤ w → (w *ℤ w) ≤ℤ (n *ℤ q) →
    ((v *ℤ r) *ℤ (k *ℤ k) +ℤ k *ℤ k) ≤ℤ (v *ℤ q)
above_from v t k n r q w t_pos k_pos n_pos v_pos small threshold along bound =
    by_lt_z (v *ℤ q) ((v *ℤ r) *ℤ (k *ℤ k) +ℤ k *ℤ k)
    (λ near. absurd (by_lt_z (pos 0) n
    (λ some.
    let turned : ((v *ℤ q) *ℤ n) <ℤ (((v *ℤ r) *ℤ (k *ℤ k) +ℤ k *ℤ k) *ℤ n) = lt_mul_ℤ (v *ℤ q) ((v *ℤ r) *ℤ (k *ℤ k) +ℤ k *ℤ k) n some near in
    omega (arith, linear, turned, times_left v n q, times_right v n r k, few, spread v, le_mul_ℤ v (((r *ℤ n) *ℤ (k *ℤ k)) +ℤ k *ℤ k) (n *ℤ q) v_pos enough))
    (λ none. omega (arith, linear, enough, k_square, nothing n q (omega (arith, linear, none, n_pos)), nothing_left n r k (omega (arith, linear, none, n_pos))))))
    (λ h. h)
  where
    k_square : pos 0 <ℤ (k *ℤ k)
    k_square = mul_positive k k k_pos k_pos

    -- r n and one more is at most the square of t
    enough : ((r *ℤ n) *ℤ (k *ℤ k) +ℤ k *ℤ k) ≤ℤ (n *ℤ q)
    enough =
        omega (
          arith,
          linear,
          bound,
          squares t k,
          square_le (t *ℤ k) w (mul_not_negative t k t_pos (omega (arith, linear, k_pos))) along,
          more (r *ℤ n) (t *ℤ t) (k *ℤ k) threshold (omega (arith, linear, k_square)),
        )
      where
        more : (x y z : ℤ) → x <ℤ y → pos 0 ≤ℤ z → (x *ℤ z +ℤ z) ≤ℤ (y *ℤ z)
        more x y z less low = omega (arith, linear, le_mul_ℤ z (x +ℤ pos 1) y low (omega (arith, linear, less)), mul_add_ℤ z x (pos 1), mul_comm_ℤ z x, mul_comm_ℤ z y, mul_comm_ℤ z (pos 1), one_mul_ℤ z)

    few : (n *ℤ (k *ℤ k)) ≤ℤ (v *ℤ (k *ℤ k))
    few = omega (arith, linear, le_mul_ℤ (k *ℤ k) n v (omega (arith, linear, k_square)) small, mul_comm_ℤ (k *ℤ k) n, mul_comm_ℤ (k *ℤ k) v)

    spread : (v : ℤ) → v *ℤ (((r *ℤ n) *ℤ (k *ℤ k)) +ℤ k *ℤ k) ≡ v *ℤ ((r *ℤ n) *ℤ (k *ℤ k)) +ℤ v *ℤ (k *ℤ k)
    spread v = mul_add_ℤ v ((r *ℤ n) *ℤ (k *ℤ k)) (k *ℤ k)

    nothing : (n q : ℤ) → n ≡ pos 0 → n *ℤ q ≡ pos 0
    nothing n q e = rw e (zero_mul_ℤ q)

    nothing_left : (n r k : ℤ) → n ≡ pos 0 → (r *ℤ n) *ℤ (k *ℤ k) ≡ pos 0
    nothing_left n r k e = rw (e, mul_zero_ℤ r) (zero_mul_ℤ (k *ℤ k))

-- h^2 (x^2 + y^2) + r^2 z^2 as three squares
three_squares : (h r x y z : ℤ) → (h *ℤ x) *ℤ (h *ℤ x) +ℤ (h *ℤ y) *ℤ (h *ℤ y) +ℤ (r *ℤ z) *ℤ (r *ℤ z) ≡ (h *ℤ h) *ℤ (x *ℤ x +ℤ y *ℤ y) +ℤ (r *ℤ r) *ℤ (z *ℤ z)
three_squares h r x y z = simp ring (omega (arith, linear))

spread_weights : (u v w h r x y z : ℤ) → (u *ℤ h) *ℤ x +ℤ (v *ℤ h) *ℤ y +ℤ (w *ℤ r) *ℤ z ≡ u *ℤ (h *ℤ x) +ℤ v *ℤ (h *ℤ y) +ℤ w *ℤ (r *ℤ z)
spread_weights u v w h r x y z = simp ring refl

-- twelve times each side
right_side : (x y : ℕ) (z : ℤ) → (pos 12 *ℤ pos (4 * x * y)) *ℤ z +ℤ z ≡ pos (48 * x * y + 1) *ℤ z
right_side x y z = grind (arith, common_steps, ints, pos)

left_side : (x y : ℕ) (u v : ℤ) → pos 12 *ℤ (pos x *ℤ u +ℤ pos y *ℤ v) ≡ pos (12 * x) *ℤ u +ℤ pos (12 * y) *ℤ v
left_side x y u v = omega (arith, ints)

-- Along n the points are t over k apart, where the square of t is above 4 r^2 h^2 (n . n): then the ellipsoids around them share no point.
share_none : (n : List ℤ) (r h : ℕ) (t k : ℤ) (g : ℕ → ℤ) → AreSmall n → pos 0 ≤ℤ t → pos 0 <ℤ k → limit_along r h n <ℤ (t *ℤ t) → (t *ℤ k) ≤ℤ dot (at (weights n r h)) g →
    (pos (48 * (r * r) * (h * h) + 1) *ℤ square k) ≤ℤ (pos (12 * (h * h)) *ℤ (square (g 0) +ℤ square (g 1)) +ℤ pos (12 * (r * r)) *ℤ square (g 2))
share_none n r h t k g small t_low k_pos above along =
    let w : ℤ = at n 0 *ℤ (pos h *ℤ g 0) +ℤ at n 1 *ℤ (pos h *ℤ g 1) +ℤ at n 2 *ℤ (pos r *ℤ g 2) in
    let far : (t *ℤ k) ≤ℤ w = rw (← spread_weights (at n 0) (at n 1) (at n 2) (pos h) (pos r) (g 0) (g 1) (g 2)) along in
    let bound : (w *ℤ w) ≤ℤ (length_squared n *ℤ (pos (h * h) *ℤ (g 0 *ℤ g 0 +ℤ g 1 *ℤ g 1) +ℤ pos (r * r) *ℤ (g 2 *ℤ g 2))) =
    rw (← three_squares (pos h) (pos r) (g 0) (g 1) (g 2)) (cauchy (at n 0) (at n 1) (at n 2) (pos h *ℤ g 0) (pos h *ℤ g 1) (pos r *ℤ g 2)) in
    both (right_side (r * r) (h * h) (k *ℤ k)) (left_side (h * h) (r * r) (g 0 *ℤ g 0 +ℤ g 1 *ℤ g 1) (g 2 *ℤ g 2))
    (above_from (pos 12) t k (length_squared n) (pos (4 * (r * r) * (h * h))) _ w t_low k_pos
    (omega (arith, linear, square_positive (at n 0), square_positive (at n 1), square_positive (at n 2))) (omega (arith, ints)) (length_small n small) above far bound)
  where
    both : {x y z t : ℤ} → x ≡ y → z ≡ t → x ≤ℤ z → y ≤ℤ t
    both {x} {y} {z} {t} p q h = omega (arith, linear)

-- ---- what is kept of a threshold
-- the strays' part in the words of the algebra
strays_enough : (clear : Clearance) (n : List ℤ) →
    (pos 4 *ℤ (pos clear.stray *ℤ pos clear.stray) *ℤ dot (at (weights n clear.r clear.h)) (at (weights n clear.r clear.h))) ≤ℤ (for_strays clear n *ℤ for_strays clear n)
strays_enough clear n = same clear.stray (length_squared (weights n clear.r clear.h)) (for_strays clear n *ℤ for_strays clear n) (laws.strays clear n).reaches
  where
    same : (s : ℕ) (w t : ℤ) → (pos (4 * (s * s)) *ℤ w) ≤ℤ t → (pos 4 *ℤ (pos s *ℤ pos s) *ℤ w) ≤ℤ t
    same s w t below = let e : pos (4 * (s * s)) ≡ pos 4 *ℤ (pos s *ℤ pos s) = omega (arith, ints) in rw e at below

-- the reach's part
reach_is : (clear : Clearance) (n : List ℤ) → for_reach clear n ≡ sizes_dot (at (weights n clear.r clear.h)) (λ axis. pos (reach_on clear axis))
reach_is clear n = grind (arith, common_steps, ints, unsigned_abs, pos)

-- ---- all points
-- Where the second drone is seen to be a threshold from the first at the instant p / q, and moves within the reach from there to its own instant,
-- the ellipsoids around the points that the two may be at share no point.
pub seen_apart : (clear : Clearance) (t u : Traj) (p q s w : ℕ) (m : Moment) (first second : Point) → 1 ≤ m.c → 1 ≤ (own u s w).c → own t p q ≡ m → own u p q ≡ m → IsSeenAt clear t u m →
    ((axis : ℕ) → axis ≤ 2 → IsIn (neg_ℤ (pos (reach_on clear axis) *ℤ (power (pos (own u p q).c) 7 *ℤ power (pos (own u s w).c) 7)))
    (pos (reach_on clear axis) *ℤ (power (pos (own u p q).c) 7 *ℤ power (pos (own u s w).c) 7)) (way u axis p q s w)) →
    MayBeAt clear.stray t p q first → MayBeAt clear.stray u s w second → ShareNoPoint clear.r clear.h first second
seen_apart clear t u p q s w m first second m_some w_some t_is u_is seen moves at_first at_second =
    let C : ℤ = power (pos m.c) 7 in
    let D : ℤ = power (pos (own u s w).c) 7 in
    let d : ℤ = pos first.over in
    let e : ℤ = pos second.over in
    let W : ℕ → ℤ = at (weights seen.n clear.r clear.h) in
    let low : ℤ = for_ellipsoids clear seen.n in
    let stray : ℤ = for_strays clear seen.n in
    let late : ℤ = for_reach clear seen.n in
    let C_pos : pos 0 <ℤ C = seventh_positive m.c m_some in
    let D_pos : pos 0 <ℤ D = seventh_positive (own u s w).c w_some in
    let d_pos : pos 0 <ℤ d = omega (arith, ints, at_first.some) in
    let e_pos : pos 0 <ℤ e = omega (arith, ints, at_second.some) in
    let off_first : IsIn (neg_ℤ (stray *ℤ (C *ℤ d))) (stray *ℤ (C *ℤ d)) (pos 2 *ℤ dot W (λ i. first.on i *ℤ C -ℤ decoded t i m *ℤ d)) =
    dot_within W (λ i. first.on i *ℤ C -ℤ decoded t i m *ℤ d) (pos clear.stray) (C *ℤ d) stray (omega (arith, ints)) (mul_not_negative C d (omega (arith, linear)) (omega (arith, linear)))
    (strays_enough clear seen.n) (rw t_is at at_first.near) in
    let off_second : IsIn (neg_ℤ (stray *ℤ (D *ℤ e))) (stray *ℤ (D *ℤ e)) (pos 2 *ℤ dot W (λ i. second.on i *ℤ D -ℤ decoded u i (own u s w) *ℤ e)) =
    dot_within W (λ i. second.on i *ℤ D -ℤ decoded u i (own u s w) *ℤ e) (pos clear.stray) (D *ℤ e) stray (omega (arith, ints)) (mul_not_negative D e (omega (arith, linear)) (omega (arith, linear)))
    (strays_enough clear seen.n) at_second.near in
    let moved : neg_ℤ (late *ℤ (C *ℤ D)) ≤ℤ dot W (λ i. decoded u i (own u s w) *ℤ C -ℤ decoded u i m *ℤ D) =
    subst (λ (z : ℤ). neg_ℤ (z *ℤ (C *ℤ D)) ≤ℤ dot W (λ i. decoded u i (own u s w) *ℤ C -ℤ decoded u i m *ℤ D)) (sym (reach_is clear seen.n))
    (way_low W (λ i. decoded u i (own u s w) *ℤ C -ℤ decoded u i m *ℤ D) (λ axis. pos (reach_on clear axis)) (C *ℤ D) (rw u_is at moves)) in
    record {
      apart = share_none seen.n clear.r clear.h low (d *ℤ e) (between first second) seen.small (omega (arith, ints)) (mul_positive d e d_pos e_pos) (laws.ellipsoids clear seen.n).above
          (points_apart W (λ i. decoded t i m) (λ i. decoded u i m) (λ i. decoded u i (own u s w)) first.on second.on C D d e low stray late C_pos D_pos d_pos e_pos seen.along off_first off_second moved);
    }

-- ---- the other way round
turned : (x y d e : ℤ) → square (y *ℤ d -ℤ x *ℤ e) ≡ square (x *ℤ e -ℤ y *ℤ d)
turned x y d e = simp ring (omega (arith, linear))

-- Two ellipsoids share no point whichever is named first.
pub share_none_turned : (r h : ℕ) (first second : Point) → ShareNoPoint r h first second → ShareNoPoint r h second first
share_none_turned r h first second none = grind (arith, common_steps, pos, mul_comm_ℤ, turned)

-- Two instants are as near to one another whichever is named first.
pub together_turned : (late p q s w : ℕ) → AreTogether late p q s w → AreTogether late s w p q
together_turned late p q s w together =
    let same : q * w ≡ w * q = omega arith in
    record { before = rw same at together.after; after = rw same at together.before }
