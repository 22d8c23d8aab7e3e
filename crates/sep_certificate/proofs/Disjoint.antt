-- Where a certificate is valid by any table of directions, the ellipsoids around any two drones are disjoint throughout the show.
use Rattle.sep_certificate.proofs.Prelude.{common_steps, ◌≡◌, refl, ℕ, ◌*◌, ◌≤◌, ◌<◌, ℤ, pos, negsuc, neg_ℤ, ◌+ℤ◌, ◌-ℤ◌, ◌*ℤ◌, ◌≤ℤ◌, ◌<ℤ◌, unsigned_abs, arith, sym, ◌∙◌, ap, subst, List, length, All, Some, slice_get, sum, ints, by_lt_z, power, at, bernstein, Moment, moment, ring, linear, le_mul_ℤ, le_from_mul_ℤ, mul_assoc_ℤ, mul_comm_ℤ, mul_positive, mul_not_negative, neg_mul_ℤ, one_mul_ℤ, bernstein-mix, bernstein-same, by_lt, cong_add, moment-inside, IsInside, Bez, Traj, decoded, durations, points, own, IsLasting, CurvesStandFor, HasFewPoints, Raised, curves_at, difference, less, raised_in, at_place, segments_of, Clearance, Node, Rules, AreTogether, KeepReach, MayBeAt, MovesWithin, Point, between, square, way, direction_of, for_ellipsoids, for_reach, for_strays, length_squared, limit_along, reach_on, threshold, weights, slots, cue_of, near_gap, own_some, seventh_positive, curve_value, above_from, together_turned, AreValid}
use Rattle.whole_numbers.specs.Numbers.{IsIn}
use Rattle.bezier_core.specs.Along.{controls}
use Rattle.bezier_core.specs.Raised.{eight}
use Rattle.bezier_core.proofs.CurveLemmas.{at-eight}
use Rattle.sep_parts.proofs.Cauchy.{cauchy, square_positive}
use Rattle.sep_parts.proofs.Roots.{laws}
use Rattle.sep_parts.proofs.Strays.{dot, dot_within, points_apart, sizes_dot, way_low}
use Rattle.sep_certificate.specs.Disjoint.{AreEllipsoidsDisjoint, KeepsDisjoint}
use Rattle.sep_certificate.proofs.Covers.{IsSeenBy}
use Rattle.sep_certificate.proofs.Keeping.{seen_by}

-- ---- from the raised differences to the decoded positions
minus_ring : (x y : ℤ) → pos 1 *ℤ x +ℤ negsuc 0 *ℤ y ≡ x -ℤ y
minus_ring x y = cong_add (one_mul_ℤ x) (neg_mul_ℤ (pos 1) y ∙ ap (λ (z : ℤ). neg_ℤ z) (one_mul_ℤ y))

-- the sum of differences is the difference of the sums
difference_value : (f g : ℕ → ℤ) (a c : ℤ) → bernstein 7 (at (eight (λ k. f k -ℤ g k))) a c ≡ bernstein 7 f a c -ℤ bernstein 7 g a c
difference_value f g a c =
    bernstein-same 7 (at (eight (λ k. f k -ℤ g k))) (λ k. pos 1 *ℤ f k +ℤ negsuc 0 *ℤ g k) a c (λ k small. at-eight (λ k. f k -ℤ g k) k small ∙ sym (minus_ring (f k) (g k)))
    ∙ bernstein-mix 7 (pos 1) (negsuc 0) f g a c ∙ minus_ring (bernstein 7 f a c) (bernstein 7 g a c)

less_value : (t u : Traj) (m : Moment) (axis : ℕ) (first second : List (Bez 8)) → first ≡ raised_in t m.cue → second ≡ raised_in u m.cue →
    m.cue < length t.segments → m.cue < length u.segments → axis ≤ 2 → length (points t m.cue axis) ≤ 8 → length (points u m.cue axis) ≤ 8 →
    bernstein 7 (at (less second first axis).b) (pos m.a) (pos m.c) ≡ pos 5040 *ℤ near_gap t u m axis
less_value t u m axis first second first_is second_is t_in u_in near t_few u_few =
    difference_value (at (controls second axis)) (at (controls first axis)) (pos m.a) (pos m.c)
    ∙ minus_same (curve_value u m axis second second_is u_in near u_few) (curve_value t m axis first first_is t_in near t_few)
    ∙ scale_minus (pos 5040) (decoded u axis m) (decoded t axis m)
  where
    minus_same : {x y z w : ℤ} → x ≡ y → z ≡ w → x -ℤ z ≡ y -ℤ w
    minus_same {x} {y} {z} {w} p q = cc

    scale_minus : (s x y : ℤ) → s *ℤ x -ℤ s *ℤ y ≡ s *ℤ (x -ℤ y)
    scale_minus s x y = simp ring (omega (arith, linear))

-- 5,040 cancels
along_unscaled : (t u v w s k x y z : ℤ) → pos 0 <ℤ s → (t *ℤ (s *ℤ k)) ≤ℤ (u *ℤ (s *ℤ x) +ℤ v *ℤ (s *ℤ y) +ℤ w *ℤ (s *ℤ z)) → (t *ℤ k) ≤ℤ (u *ℤ x +ℤ v *ℤ y +ℤ w *ℤ z)
along_unscaled t u v w s k x y z positive along =
    le_from_mul_ℤ (t *ℤ k) (u *ℤ x +ℤ v *ℤ y +ℤ w *ℤ z) s positive (omega (arith, linear, along, scale_ring t s k, along_ring u v w s x y z))
  where
    along_ring : (u v w s x y z : ℤ) → u *ℤ (s *ℤ x) +ℤ v *ℤ (s *ℤ y) +ℤ w *ℤ (s *ℤ z) ≡ (u *ℤ x +ℤ v *ℤ y +ℤ w *ℤ z) *ℤ s
    along_ring u v w s x y z = simp ring (omega (arith, linear))

    scale_ring : (t s k : ℤ) → t *ℤ (s *ℤ k) ≡ (t *ℤ k) *ℤ s
    scale_ring t s k = simp ring refl

-- Along some direction of the table the second drone is at least its threshold from the first, where both are over one c.
record IsSeenAlong (clear : Clearance) (dirs : List (List ℤ)) (t u : Traj) (m : Moment) : Type 0 where
  dir : ℕ
  along : (threshold clear (direction_of dirs dir) *ℤ power (pos m.c) 7) ≤ℤ dot (at (weights (direction_of dirs dir) clear.r clear.h)) (near_gap t u m)

decoded_along : (clear : Clearance) (dirs : List (List ℤ)) (curves : Raised) (a b : ℕ) (t u : Traj) (m : Moment) → curves_at curves a m.cue ≡ raised_in t m.cue → curves_at curves b m.cue ≡ raised_in u m.cue →
    m.cue < length t.segments → m.cue < length u.segments → ((axis : ℕ) → axis ≤ 2 → length (points t m.cue axis) ≤ 8) → ((axis : ℕ) → axis ≤ 2 → length (points u m.cue axis) ≤ 8) →
    IsSeenBy clear dirs (cue_of (difference curves a b m.cue)) (pos m.a) (pos m.c) → IsSeenAlong clear dirs t u m
unfolding difference
decoded_along clear dirs curves a b t u m first_is second_is t_in u_in t_few u_few seen =
    let value : (axis : ℕ) → axis ≤ 2 → bernstein 7 (at (less (curves_at curves b m.cue) (curves_at curves a m.cue) axis).b) (pos m.a) (pos m.c) ≡ pos 5040 *ℤ near_gap t u m axis =
    λ axis near. less_value t u m axis (curves_at curves a m.cue) (curves_at curves b m.cue) first_is second_is t_in u_in near (t_few axis near) (u_few axis near) in
    let n : List ℤ = direction_of dirs seen.dir in
    record {
      dir = seen.dir;
      along = along_unscaled (threshold clear n) (at n 0 *ℤ pos clear.h) (at n 1 *ℤ pos clear.h) (at n 2 *ℤ pos clear.r) (pos 5040) (power (pos m.c) 7)
          (near_gap t u m 0) (near_gap t u m 1) (near_gap t u m 2) (omega (arith, ints))
          (rw (← value 0 (omega arith), ← value 1 (omega arith), ← value 2 (omega arith)) seen.along);
    }

-- the drones of a pair are seen to be apart at a moment
seen_along : (rules : Rules) (dirs : List (List ℤ)) (curves : Raised) (trees : List (List Node)) (trajs : List Traj) (stands : CurvesStandFor curves trajs)
    (a b : ℕ) (t u : Traj) (m : Moment) → AreValid rules dirs curves (slots curves.drones curves.cues) trees →
    a < b → slice_get trajs a ≡ Some t → slice_get trajs b ≡ Some u → IsInside (length stands.times) m → IsSeenAlong rules.clearance dirs t u m
seen_along rules dirs curves trees trajs stands a b t u m valid order t_is u_is inside =
    let t_len : length t.segments ≡ length stands.times = segments_of t stands.times (at_place (λ (t : Traj). durations t.segments ≡ stands.times) trajs a t stands.one_show.same_times t_is) in
    let u_len : length u.segments ≡ length stands.times = segments_of u stands.times (at_place (λ (t : Traj). durations t.segments ≡ stands.times) trajs b u stands.one_show.same_times u_is) in
    decoded_along rules.clearance dirs curves a b t u m (stands.curves a m.cue t t_is inside.cue) (stands.curves b m.cue u u_is inside.cue)
    (omega (arith, t_len, inside.cue)) (omega (arith, u_len, inside.cue))
    (λ axis near. at_place (HasFewPoints (length stands.times)) trajs a t stands.few_points t_is m.cue axis inside.cue near)
    (λ axis near. at_place (HasFewPoints (length stands.times)) trajs b u stands.few_points u_is m.cue axis inside.cue near)
    (seen_by rules dirs curves trees trajs stands a b u m valid order u_is inside)

-- ---- all points
-- a multiple that has room for k k has some
strictly : (v r k q : ℤ) → pos 0 ≤ℤ v → pos 0 <ℤ k → ((v *ℤ r) *ℤ (k *ℤ k) +ℤ k *ℤ k) ≤ℤ (v *ℤ q) → (r *ℤ (k *ℤ k)) <ℤ q
strictly v r k q v_low k_pos room =
    by_lt_z (r *ℤ (k *ℤ k)) q (λ less. less)
    (λ most. absurd (omega (arith, linear, room, le_mul_ℤ v q (r *ℤ (k *ℤ k)) v_low most, mul_assoc_ℤ v r (k *ℤ k), mul_positive k k k_pos k_pos)))

-- Along n the points are t over k apart, where the square of t is above 4 r^2 h^2 (n . n): then the ellipsoids around them share no point.
disjoint_along : (n : List ℤ) (r h : ℕ) (t k : ℤ) (g : ℕ → ℤ) → pos 0 ≤ℤ t → pos 0 <ℤ k → limit_along r h n <ℤ (t *ℤ t) → (t *ℤ k) ≤ℤ dot (at (weights n r h)) g →
    (pos (4 * (r * r) * (h * h)) *ℤ square k) <ℤ (pos (h * h) *ℤ (square (g 0) +ℤ square (g 1)) +ℤ pos (r * r) *ℤ square (g 2))
disjoint_along n r h t k g t_low k_pos above along =
    let w : ℤ = at n 0 *ℤ (pos h *ℤ g 0) +ℤ at n 1 *ℤ (pos h *ℤ g 1) +ℤ at n 2 *ℤ (pos r *ℤ g 2) in
    let far : (t *ℤ k) ≤ℤ w = rw (← spread_weights (at n 0) (at n 1) (at n 2) (pos h) (pos r) (g 0) (g 1) (g 2)) along in
    let bound : (w *ℤ w) ≤ℤ (length_squared n *ℤ (pos (h * h) *ℤ (g 0 *ℤ g 0 +ℤ g 1 *ℤ g 1) +ℤ pos (r * r) *ℤ (g 2 *ℤ g 2))) =
    rw (← three_squares (pos h) (pos r) (g 0) (g 1) (g 2)) (cauchy (at n 0) (at n 1) (at n 2) (pos h *ℤ g 0) (pos h *ℤ g 1) (pos r *ℤ g 2)) in
    let low : pos 0 ≤ℤ length_squared n = omega (arith, linear, square_positive (at n 0), square_positive (at n 1), square_positive (at n 2)) in
    strictly (length_squared n) (pos (4 * (r * r) * (h * h))) k _ low k_pos
    (above_from (length_squared n) t k (length_squared n) (pos (4 * (r * r) * (h * h))) _ w t_low k_pos low low (omega (arith, linear)) above far bound)
  where
    three_squares : (h r x y z : ℤ) → (h *ℤ x) *ℤ (h *ℤ x) +ℤ (h *ℤ y) *ℤ (h *ℤ y) +ℤ (r *ℤ z) *ℤ (r *ℤ z) ≡ (h *ℤ h) *ℤ (x *ℤ x +ℤ y *ℤ y) +ℤ (r *ℤ r) *ℤ (z *ℤ z)
    three_squares h r x y z = simp ring (omega (arith, linear))

    spread_weights : (u v w h r x y z : ℤ) → (u *ℤ h) *ℤ x +ℤ (v *ℤ h) *ℤ y +ℤ (w *ℤ r) *ℤ z ≡ u *ℤ (h *ℤ x) +ℤ v *ℤ (h *ℤ y) +ℤ w *ℤ (r *ℤ z)
    spread_weights u v w h r x y z = simp ring refl

-- what strays take away along a direction is at most its part of the threshold
strays_enough : (clear : Clearance) (n : List ℤ) →
    (pos 4 *ℤ (pos clear.stray *ℤ pos clear.stray) *ℤ dot (at (weights n clear.r clear.h)) (at (weights n clear.r clear.h))) ≤ℤ (for_strays clear n *ℤ for_strays clear n)
strays_enough clear n = same clear.stray (length_squared (weights n clear.r clear.h)) (for_strays clear n *ℤ for_strays clear n) (laws.strays clear n).reaches
  where
    same : (s : ℕ) (w t : ℤ) → (pos (4 * (s * s)) *ℤ w) ≤ℤ t → (pos 4 *ℤ (pos s *ℤ pos s) *ℤ w) ≤ℤ t
    same s w t below = let e : pos (4 * (s * s)) ≡ pos 4 *ℤ (pos s *ℤ pos s) = omega (arith, ints) in rw e at below

-- what the reach takes away is its part
reach_is : (clear : Clearance) (n : List ℤ) → for_reach clear n ≡ sizes_dot (at (weights n clear.r clear.h)) (λ axis. pos (reach_on clear axis))
reach_is clear n = grind (arith, common_steps, ints, unsigned_abs, pos)

-- Where the second drone is seen to be a threshold from the first at the instant p / q, and moves within the reach from there to its own instant,
-- the ellipsoids around the points that the two may be at are disjoint.
seen_disjoint : (clear : Clearance) (dirs : List (List ℤ)) (t u : Traj) (p q s w : ℕ) (m : Moment) (first second : Point) → 1 ≤ m.c → 1 ≤ (own u s w).c → own t p q ≡ m → own u p q ≡ m → IsSeenAlong clear dirs t u m →
    ((axis : ℕ) → axis ≤ 2 → IsIn (neg_ℤ (pos (reach_on clear axis) *ℤ (power (pos (own u p q).c) 7 *ℤ power (pos (own u s w).c) 7)))
    (pos (reach_on clear axis) *ℤ (power (pos (own u p q).c) 7 *ℤ power (pos (own u s w).c) 7)) (way u axis p q s w)) →
    MayBeAt clear.stray t p q first → MayBeAt clear.stray u s w second → AreEllipsoidsDisjoint clear.r clear.h first second
seen_disjoint clear dirs t u p q s w m first second m_some w_some t_is u_is seen moves at_first at_second =
    let n : List ℤ = direction_of dirs seen.dir in
    let C : ℤ = power (pos m.c) 7 in
    let D : ℤ = power (pos (own u s w).c) 7 in
    let d : ℤ = pos first.over in
    let e : ℤ = pos second.over in
    let W : ℕ → ℤ = at (weights n clear.r clear.h) in
    let low : ℤ = for_ellipsoids clear n in
    let stray : ℤ = for_strays clear n in
    let late : ℤ = for_reach clear n in
    let C_pos : pos 0 <ℤ C = seventh_positive m.c m_some in
    let D_pos : pos 0 <ℤ D = seventh_positive (own u s w).c w_some in
    let d_pos : pos 0 <ℤ d = omega (arith, ints, at_first.some) in
    let e_pos : pos 0 <ℤ e = omega (arith, ints, at_second.some) in
    let off_first : IsIn (neg_ℤ (stray *ℤ (C *ℤ d))) (stray *ℤ (C *ℤ d)) (pos 2 *ℤ dot W (λ i. first.on i *ℤ C -ℤ decoded t i m *ℤ d)) =
    dot_within W (λ i. first.on i *ℤ C -ℤ decoded t i m *ℤ d) (pos clear.stray) (C *ℤ d) stray (omega (arith, ints)) (mul_not_negative C d (omega (arith, linear)) (omega (arith, linear)))
    (strays_enough clear n) (rw t_is at at_first.near) in
    let off_second : IsIn (neg_ℤ (stray *ℤ (D *ℤ e))) (stray *ℤ (D *ℤ e)) (pos 2 *ℤ dot W (λ i. second.on i *ℤ D -ℤ decoded u i (own u s w) *ℤ e)) =
    dot_within W (λ i. second.on i *ℤ D -ℤ decoded u i (own u s w) *ℤ e) (pos clear.stray) (D *ℤ e) stray (omega (arith, ints)) (mul_not_negative D e (omega (arith, linear)) (omega (arith, linear)))
    (strays_enough clear n) at_second.near in
    let moved : neg_ℤ (late *ℤ (C *ℤ D)) ≤ℤ dot W (λ i. decoded u i (own u s w) *ℤ C -ℤ decoded u i m *ℤ D) =
    subst (λ (z : ℤ). neg_ℤ (z *ℤ (C *ℤ D)) ≤ℤ dot W (λ i. decoded u i (own u s w) *ℤ C -ℤ decoded u i m *ℤ D)) (sym (reach_is clear n))
    (way_low W (λ i. decoded u i (own u s w) *ℤ C -ℤ decoded u i m *ℤ D) (λ axis. pos (reach_on clear axis)) (C *ℤ D) (rw u_is at moves)) in
    record {
      disjoint = disjoint_along n clear.r clear.h low (d *ℤ e) (between first second) (omega (arith, ints)) (mul_positive d e d_pos e_pos) (laws.ellipsoids clear n).above
          (points_apart W (λ i. decoded t i m) (λ i. decoded u i m) (λ i. decoded u i (own u s w)) first.on second.on C D d e low stray late C_pos D_pos d_pos e_pos seen.along off_first off_second moved);
    }

-- ---- the other way round
-- Two ellipsoids are disjoint whichever is named first.
disjoint_turned : (r h : ℕ) (first second : Point) → AreEllipsoidsDisjoint r h first second → AreEllipsoidsDisjoint r h second first
disjoint_turned r h first second none = record {
  disjoint = numbers (pos (4 * (r * r) * (h * h))) (pos (h * h)) (pos (r * r)) (pos first.over) (pos second.over)
      (first.on 0) (first.on 1) (first.on 2) (second.on 0) (second.on 1) (second.on 2) none.disjoint;
}
  where
    turned : (x y d e : ℤ) → square (y *ℤ d -ℤ x *ℤ e) ≡ square (x *ℤ e -ℤ y *ℤ d)
    turned x y d e = simp ring (omega (arith, linear))

    numbers : (k a b d e x y z u v w : ℤ) → (k *ℤ square (d *ℤ e)) <ℤ (a *ℤ (square (u *ℤ d -ℤ x *ℤ e) +ℤ square (v *ℤ d -ℤ y *ℤ e)) +ℤ b *ℤ square (w *ℤ d -ℤ z *ℤ e)) →
        (k *ℤ square (e *ℤ d)) <ℤ (a *ℤ (square (x *ℤ e -ℤ u *ℤ d) +ℤ square (y *ℤ e -ℤ v *ℤ d)) +ℤ b *ℤ square (z *ℤ e -ℤ w *ℤ d))
    numbers k a b d e x y z u v w far =
        swap (ap (λ (n : ℤ). k *ℤ square n) (mul_comm_ℤ d e)) (sums (turned x u d e) (turned y v d e) (turned z w d e)) far
      where
        swap : {x y z t : ℤ} → x ≡ z → y ≡ t → x <ℤ y → z <ℤ t
        swap {x} {y} {z} {t} p q h = omega (arith, linear)

        sums : {x y z u v w : ℤ} → x ≡ u → y ≡ v → z ≡ w → a *ℤ (x +ℤ y) +ℤ b *ℤ z ≡ a *ℤ (u +ℤ v) +ℤ b *ℤ w
        sums {x} {y} {z} {u} {v} {w} p q r = cc

-- the drones of a pair, the first one named first
in_order : (rules : Rules) (dirs : List (List ℤ)) (curves : Raised) (trees : List (List Node)) → AreValid rules dirs curves (slots curves.drones curves.cues) trees →
    (trajs : List Traj) → CurvesStandFor curves trajs → KeepReach rules.clearance trajs → (a b : ℕ) (t u : Traj) → a < b → slice_get trajs a ≡ Some t → slice_get trajs b ≡ Some u →
    (p q s w : ℕ) → 1 ≤ q → 1 ≤ w → p ≤ q * sum (durations t.segments) → s ≤ w * sum (durations u.segments) → AreTogether rules.clearance.late p q s w →
    (first second : Point) → MayBeAt rules.clearance.stray t p q first → MayBeAt rules.clearance.stray u s w second → AreEllipsoidsDisjoint rules.clearance.r rules.clearance.h first second
in_order rules dirs curves trees valid trajs stands reach a b t u order t_is u_is p q s w p_some w_some p_before s_before together first second at_first at_second =
    let t_times : durations t.segments ≡ stands.times = at_place (λ (t : Traj). durations t.segments ≡ stands.times) trajs a t stands.one_show.same_times t_is in
    let u_times : durations u.segments ≡ stands.times = at_place (λ (t : Traj). durations t.segments ≡ stands.times) trajs b u stands.one_show.same_times u_is in
    let u_lasts : IsLasting u = subst (λ (ns : List ℕ). All (λ ms. 1 ≤ ms) ns) (sym u_times) stands.one_show.lasting in
    let inside : IsInside (length stands.times) (moment (durations t.segments) p q) = grind (arith, common_steps, moment-inside) in
    let moves = at_place (λ (t : Traj). (axis : ℕ) → axis ≤ 2 → MovesWithin rules.clearance.late (reach_on rules.clearance axis) t axis) trajs b u reach u_is in
    seen_disjoint rules.clearance dirs t u p q s w (moment (durations t.segments) p q) first second inside.some (own_some u s w w_some u_lasts) refl (ap (λ (ns : List ℕ). moment ns p q) (u_times ∙ sym t_times))
    (seen_along rules dirs curves trees trajs stands a b t u (moment (durations t.segments) p q) valid order t_is u_is inside)
    (λ axis near. moves axis near p q s w p_some w_some (subst (λ (ns : List ℕ). p ≤ q * sum ns) (t_times ∙ sym u_times) p_before) s_before together) at_first at_second

-- Where a certificate is valid by any table, the ellipsoids around any two different drones are disjoint.
pub keeps_disjoint : (rules : Rules) (dirs : List (List ℤ)) (curves : Raised) (trees : List (List Node)) → AreValid rules dirs curves (slots curves.drones curves.cues) trees → KeepsDisjoint curves rules.clearance
keeps_disjoint rules dirs curves trees valid trajs stands reach a b t u differ t_is u_is p q s w p_some w_some p_before s_before together first second at_first at_second =
    by_lt a b
    (λ order. in_order rules dirs curves trees valid trajs stands reach a b t u order t_is u_is p q s w p_some w_some p_before s_before together first second at_first at_second)
    (λ later. disjoint_turned rules.clearance.r rules.clearance.h second first
    (in_order rules dirs curves trees valid trajs stands reach b a u t (above a b differ later) u_is t_is s w p q w_some p_some s_before p_before (together_turned rules.clearance.late p q s w together) second first at_second at_first))
  where
    above : (a b : ℕ) → (a ≡ b → ⊥) → b ≤ a → b < a
    above a b differ later = by_lt b a (λ less. less) (λ same. absurd (differ (omega arith)))
