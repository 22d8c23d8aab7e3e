-- Where nobody strays or is late, drones that fly apart exactly fly apart.
use Rattle.speed_bound.proofs.Prelude.{common_steps, ◌≡◌, ℕ, zero, suc, ◌+◌, ◌*◌, ◌≤◌, ℤ, pos, negsuc, neg_ℤ, ◌+ℤ◌, ◌-ℤ◌, ◌*ℤ◌, ◌≤ℤ◌, ◌<ℤ◌, arith, refl, ◌∙◌, ap, subst, sum, ints, mul-le, power, IsIn, ring, linear, le_from_mul_ℤ, mul_positive, zero_mul_ℤ, Traj, decoded, durations, own, IsLasting, AreApart, AreTogether, aside, between, gap, square, way, IsMoving, StillLaw, speed}
use Rattle.traj_codec.proofs.JoinedLemmas.{lasting_of}
use Rattle.fleet_curves.proofs.Standing.{at_place}
use Rattle.sep_parts.proofs.Cauchy.{square_positive}
use Rattle.sep_parts.proofs.Lifts.{lift, own_some, seventh_positive, whole_of}
use Rattle.speed_bound.proofs.Reaches.{formed_of, moves_by_speed}
use Rattle.speed_bound.proofs.Rests.{keeps_speed}

-- ---- numbers
-- a positive factor cancels from an equality
cancel : (x y b : ℤ) → pos 0 <ℤ b → x *ℤ b ≡ y *ℤ b → x ≡ y
cancel x y b positive e =
    let low : x ≤ℤ y = le_from_mul_ℤ x y b positive (omega (arith, linear, e)) in
    let high : y ≤ℤ x = le_from_mul_ℤ y x b positive (omega (arith, linear, e)) in
    omega (arith, linear)

-- a square that is at most 0
root_none : (x : ℤ) → (x *ℤ x) ≤ℤ pos 0 → x ≡ pos 0
root_none (pos zero) below = refl
root_none (pos (suc k)) below = absurd (omega (arith, ints, below))
root_none (negsuc k) below = absurd (omega (arith, ints, below))

-- where the sum of three squares is at most 0, each number is 0
nothing_aside : (x y z n : ℤ) → (square x +ℤ square y +ℤ square z) ≤ℤ square (pos 0 *ℤ n) → (x ≡ pos 0) × (y ≡ pos 0) × (z ≡ pos 0)
nothing_aside x y z n near = grind (arith, common_steps, pos, zero_mul_ℤ, root_none, square_positive)

-- nothing is left between 0 and 0
no_way : (n x : ℤ) → IsIn (neg_ℤ (pos 0 *ℤ n)) (pos 0 *ℤ n) x → x ≡ pos 0
no_way n x within =
    let none : pos 0 *ℤ n ≡ pos 0 = zero_mul_ℤ n in
    let low = rw none at within in omega (arith, ints, low.0, low.1)

-- The gap of the points over both their denominators is that of the curves over theirs: the first drone's curve is at t over C and its point at x
-- over d, the second drone's curve at u over C' and, at the same instant named otherwise, at v over D', and its point at y over e.
same_gap : (t u v x y C C' D' d e : ℤ) → pos 0 <ℤ D' → x *ℤ C -ℤ t *ℤ d ≡ pos 0 → y *ℤ D' -ℤ v *ℤ e ≡ pos 0 → v *ℤ C' -ℤ u *ℤ D' ≡ pos 0 →
    (y *ℤ d -ℤ x *ℤ e) *ℤ (C *ℤ C') ≡ (u *ℤ C -ℤ t *ℤ C') *ℤ (d *ℤ e)
same_gap t u v x y C C' D' d e positive first second same =
    cancel ((y *ℤ d -ℤ x *ℤ e) *ℤ (C *ℤ C')) ((u *ℤ C -ℤ t *ℤ C') *ℤ (d *ℤ e)) D' positive
    (whole t u v x y C C' D' d e
    ∙ ap (λ (z : ℤ). z *ℤ (d *ℤ (C *ℤ C')) -ℤ (x *ℤ C -ℤ t *ℤ d) *ℤ (e *ℤ (C' *ℤ D')) +ℤ (v *ℤ C' -ℤ u *ℤ D') *ℤ (d *ℤ (e *ℤ C)) +ℤ ((u *ℤ C -ℤ t *ℤ C') *ℤ (d *ℤ e)) *ℤ D') second
    ∙ ap (λ (z : ℤ). pos 0 *ℤ (d *ℤ (C *ℤ C')) -ℤ z *ℤ (e *ℤ (C' *ℤ D')) +ℤ (v *ℤ C' -ℤ u *ℤ D') *ℤ (d *ℤ (e *ℤ C)) +ℤ ((u *ℤ C -ℤ t *ℤ C') *ℤ (d *ℤ e)) *ℤ D') first
    ∙ ap (λ (z : ℤ). pos 0 *ℤ (d *ℤ (C *ℤ C')) -ℤ pos 0 *ℤ (e *ℤ (C' *ℤ D')) +ℤ z *ℤ (d *ℤ (e *ℤ C)) +ℤ ((u *ℤ C -ℤ t *ℤ C') *ℤ (d *ℤ e)) *ℤ D') same
    ∙ rest (d *ℤ (C *ℤ C')) (e *ℤ (C' *ℤ D')) (d *ℤ (e *ℤ C)) (((u *ℤ C -ℤ t *ℤ C') *ℤ (d *ℤ e)) *ℤ D'))
  where
    whole : (t u v x y C C' D' d e : ℤ) → ((y *ℤ d -ℤ x *ℤ e) *ℤ (C *ℤ C')) *ℤ D'
        ≡ (y *ℤ D' -ℤ v *ℤ e) *ℤ (d *ℤ (C *ℤ C')) -ℤ (x *ℤ C -ℤ t *ℤ d) *ℤ (e *ℤ (C' *ℤ D')) +ℤ (v *ℤ C' -ℤ u *ℤ D') *ℤ (d *ℤ (e *ℤ C)) +ℤ ((u *ℤ C -ℤ t *ℤ C') *ℤ (d *ℤ e)) *ℤ D'
    whole t u v x y C C' D' d e = simp ring (omega (arith, linear))

    rest : (a b c z : ℤ) → pos 0 *ℤ a -ℤ pos 0 *ℤ b +ℤ pos 0 *ℤ c +ℤ z ≡ z
    rest a b c z = rw (zero_mul_ℤ a, zero_mul_ℤ b, zero_mul_ℤ c) (omega (arith, linear))

-- ---- trajectories
-- at the same instant, named by other fractions, a trajectory is at the same place
same_place : (t : Traj) (axis p q s w : ℕ) → axis ≤ 2 → IsMoving t → 1 ≤ q → 1 ≤ w → p ≤ q * sum (durations t.segments) → s ≤ w * sum (durations t.segments) → AreTogether 0 p q s w → way t axis p q s w ≡ pos 0
same_place t axis p q s w near moving q_some w_some p_in s_in together =
    no_way (power (pos (own t p q).c) 7 *ℤ power (pos (own t s w).c) 7) (way t axis p q s w)
    (moves_by_speed 0 (speed 0 t axis) 0 t axis (omega arith) (keeps_speed 0 axis t near moving.some moving.durations (formed_of t.segments moving.formed.segments)) p q s w q_some w_some p_in s_in together)

-- what is not past the end by one fraction is not by another
not_past : (p q s w n : ℕ) → 1 ≤ w → p * w ≡ s * q → s ≤ w * n → p ≤ q * n
not_past p q s w n some same before = le_cancel p (q * n) w some (omega (arith, same, mul-le s q (w * n) q before (omega arith)))
  where
    le_cancel : (x y w : ℕ) → 1 ≤ w → x * w ≤ y * w → x ≤ y
    le_cancel x y w some less = grind arith

pub still : StillLaw
still r h trajs moving far a b t u differ t_is u_is p q s w q_some w_some p_before s_before together first second at_first at_second =
    let t_moving : IsMoving t = at_place IsMoving trajs a t moving t_is in
    let u_moving : IsMoving u = at_place IsMoving trajs b u moving u_is in
    let t_lasts : IsLasting t = lasting_of t t_moving.durations in
    let u_lasts : IsLasting u = lasting_of u u_moving.durations in
    let same : p * w ≡ s * q = omega (arith, together.before, together.after) in
    let u_before : p ≤ q * sum (durations u.segments) = not_past p q s w (sum (durations u.segments)) w_some same s_before in
    let exact : AreApart t u r h p q = far a b t u differ t_is u_is p q q_some p_before u_before in
    let C : ℤ = power (pos (own t p q).c) 7 in
    let C' : ℤ = power (pos (own u p q).c) 7 in
    let D' : ℤ = power (pos (own u s w).c) 7 in
    let d : ℤ = pos first.over in
    let e : ℤ = pos second.over in
    let C_pos : pos 0 <ℤ C = seventh_positive (own t p q).c (own_some t p q q_some t_lasts) in
    let C'_pos : pos 0 <ℤ C' = seventh_positive (own u p q).c (own_some u p q q_some u_lasts) in
    let D'_pos : pos 0 <ℤ D' = seventh_positive (own u s w).c (own_some u s w w_some u_lasts) in
    let off = nothing_aside (aside t p q first 0) (aside t p q first 1) (aside t p q first 2) (C *ℤ d) at_first.near in
    let off' = nothing_aside (aside u s w second 0) (aside u s w second 1) (aside u s w second 2) (D' *ℤ e) at_second.near in
    let old = subst (λ (z : ℤ). (pos (48 * (r * r) * (h * h) + 1) *ℤ z) ≤ℤ
    (pos (12 * (h * h)) *ℤ (gap t u p q 0 *ℤ gap t u p q 0 +ℤ gap t u p q 1 *ℤ gap t u p q 1) +ℤ pos (12 * (r * r)) *ℤ (gap t u p q 2 *ℤ gap t u p q 2)))
    (whole_of (pos (own t p q).c) (pos (own u p q).c)) exact.apart in
    record {
      apart = lift (pos (48 * (r * r) * (h * h) + 1)) (pos (12 * (h * h))) (pos (12 * (r * r))) (C *ℤ C') (d *ℤ e) (gap t u p q 0) (gap t u p q 1) (gap t u p q 2)
          (between first second 0) (between first second 1) (between first second 2) (mul_positive C C' C_pos C'_pos)
          (on 0 D'_pos off.0 off'.0 (same_place u 0 p q s w (omega arith) u_moving q_some w_some u_before s_before together))
          (on 1 D'_pos off.1 off'.1 (same_place u 1 p q s w (omega arith) u_moving q_some w_some u_before s_before together))
          (on 2 D'_pos off.2 off'.2 (same_place u 2 p q s w (omega arith) u_moving q_some w_some u_before s_before together)) old;
    }
  where
    on : (axis : ℕ) → pos 0 <ℤ power (pos (own u s w).c) 7 → aside t p q first axis ≡ pos 0 → aside u s w second axis ≡ pos 0 → way u axis p q s w ≡ pos 0 →
        between first second axis *ℤ (power (pos (own t p q).c) 7 *ℤ power (pos (own u p q).c) 7) ≡ gap t u p q axis *ℤ (pos first.over *ℤ pos second.over)
    on axis positive one two three =
        same_gap (decoded t axis (own t p q)) (decoded u axis (own u p q)) (decoded u axis (own u s w)) (first.on axis) (second.on axis) (power (pos (own t p q).c) 7) (power (pos (own u p q).c) 7) (power (pos (own u s w).c) 7)
        (pos first.over) (pos second.over) positive one two three
