-- The speeds at the two ends of a segment.
use Rattle.dynamics_bound.proofs.Prelude.{rate_of, segment_rate, widest_in, all_within, ◌≡◌, ℕ, ◌-◌, ◌*◌, ◌^◌, ◌≤◌, ◌<◌, ℤ, pos, ◌-ℤ◌, ◌*ℤ◌, ◌≤ℤ◌, neg_ℤ, arith, refl, ◌∙◌, ap, List, length, All, ints, length-map, power, at, ring, linear, mul_not_negative, bernstein-at_zero, bernstein-at_end, raised, IsWithin, IsPiece, Traj, piece_on, pieces_on, points, duration, steps, piece_value, power_low, acceleration, after, HasVelocities, first_step, last_step}
use Rattle.whole_numbers.proofs.EdgeLemmas.{points-count}
use Rattle.dynamics_bound.proofs.Parts.{Departs, IsGentle, room_of, position, speed, gentle}
use Rattle.dynamics_bound.proofs.Edges as ends
use Rattle.dynamics_bound.proofs.Segments.{in_squares, in_time, lasts, slow_at}

value_ring : (u q f n px py w s d : ℤ) → u *ℤ (q *ℤ ((f *ℤ py -ℤ f *ℤ px) -ℤ n *ℤ (w *ℤ (s *ℤ d)))) ≡ u *ℤ (q *ℤ ((f *ℤ py -ℤ f *ℤ px) -ℤ (w *ℤ s) *ℤ (n *ℤ d)))
value_ring u q f n px py w s d = simp ring (omega (arith, linear))

front_ring : (u q f px py w s k : ℤ) → u *ℤ (q *ℤ ((f *ℤ py -ℤ f *ℤ px) -ℤ (w *ℤ s) *ℤ (f *ℤ k))) ≡ (f *ℤ q) *ℤ (u *ℤ ((py -ℤ px) -ℤ w *ℤ (k *ℤ s)))
front_ring u q f px py w s k = simp ring (omega (arith, linear))

room_ring : (a p s m : ℤ) → a *ℤ (a *ℤ (p *ℤ (s *ℤ m))) ≡ (p *ℤ m) *ℤ ((a *ℤ a) *ℤ s)
room_ring a p s m = simp ring refl

-- by the numbers of a bound
in_curve : (e a m ms : ℕ) (w v s px py gx gy d k : ℤ) → pos 0 ≤ℤ w → pos 0 ≤ℤ s → 1 ≤ ms → rate_of 2 e ms m ≤ a →
    gx ≡ pos 5040 *ℤ px → gy ≡ pos 5040 *ℤ py → v ≡ power s 6 *ℤ d → pos 7 *ℤ d ≡ pos 5040 *ℤ k → Departs (pos (2 ^ (7 * e))) (room_of e (pos m) s) w w gx gy v →
    IsWithin (pos (a * (ms * ms)) *ℤ ((w *ℤ w) *ℤ power s 5)) (pos 2000000000 *ℤ ((py -ℤ px) -ℤ w *ℤ (k *ℤ power s 6)))
in_curve e a m ms w v s px py gx gy d k w_low s_low lasting slow x_is y_is v_is d_is departs =
    in_squares e a m ms ((w *ℤ w) *ℤ power s 5) _ _ _ lasting slow (mul_not_negative (w *ℤ w) (power s 5) (mul_not_negative w w w_low w_low) (power_low s 5 s_low))
    (room_ring w (pos (2 ^ (2 * e))) (power s 5) (pos m))
    (same_value (pos 2000000000) (pos (2 ^ (7 * e))) w x_is y_is v_is ∙ value_ring (pos 2000000000) (pos (2 ^ (7 * e))) (pos 5040) (pos 7) px py w (power s 6) d
    ∙ ap (λ (z : ℤ). pos 2000000000 *ℤ (pos (2 ^ (7 * e)) *ℤ ((pos 5040 *ℤ py -ℤ pos 5040 *ℤ px) -ℤ (w *ℤ power s 6) *ℤ z))) d_is
    ∙ front_ring (pos 2000000000) (pos (2 ^ (7 * e))) (pos 5040) px py w (power s 6) k)
    departs
  where
    same_value : (u q w : ℤ) {fx fy gx gy v v' : ℤ} → fx ≡ gx → fy ≡ gy → v ≡ v' → u *ℤ (q *ℤ ((fy -ℤ fx) -ℤ pos 7 *ℤ (w *ℤ v))) ≡ u *ℤ (q *ℤ ((gy -ℤ gx) -ℤ pos 7 *ℤ (w *ℤ v')))
    same_value u q w {fx} {fy} {gx} {gy} {v} {v'} xs ys vs = cc

-- the tangent forwards from the beginning, and backwards from the end with its sign turned
turned : (q room w t h e v : ℤ) → t ≡ neg_ℤ w → Departs q room w t h e v → Departs q room w w e h v
turned q room w t h e v is departs = flip _ _ _ departs (rw is (turn_ring q (pos 7) w h e v))
  where
    turn_ring : (q n w h e v : ℤ) → q *ℤ ((h -ℤ e) -ℤ n *ℤ (w *ℤ v)) ≡ neg_ℤ (q *ℤ ((e -ℤ h) -ℤ n *ℤ (neg_ℤ w *ℤ v)))
    turn_ring q n w h e v = simp ring (omega (arith, linear))

    flip : (m x y : ℤ) → IsWithin m x → y ≡ neg_ℤ x → IsWithin m y
    flip m x y within e = (omega (arith, linear), omega (arith, linear))

-- At its ends a trajectory has the velocities of its first and last steps.
pub has_velocities : (axis : ℕ) (t : Traj) → All IsPiece (pieces_on axis t) → HasVelocities t axis
has_velocities axis t formed depth cue q x inside last =
    let ms : ℕ = duration t cue in
    let s : ℕ = q * ms in
    let b : List ℤ = points t cue axis in
    let f : ℕ → ℤ = at (raised b) in
    let all : ℕ = acceleration depth t axis in
    let near : cue < length (pieces_on axis t) = omega (arith, length-map t.segments (piece_on axis)) in
    let count : (1 ≤ length b) × (length b ≤ 8) = points-count (at t.start axis) (pieces_on axis t) cue formed near in
    let lasting : 1 ≤ ms = lasts axis t.segments cue inside formed in
    let slow : segment_rate 2 depth ms f ≤ all = slow_at depth axis cue t inside in
    let curve : IsGentle (pos (2 ^ (7 * depth))) (room_of depth (pos (widest_in 2 depth f)) (pos s)) (position f (pos s)) (speed f (pos s)) (pos 0) (pos s) =
    gentle depth f (pos (widest_in 2 depth f)) (pos s) (omega (arith, ints)) (all_within 2 depth f) in
    let value : (y : ℕ) → position f (pos s) (pos y) ≡ pos 5040 *ℤ after t axis cue q y =
    λ y. piece_value (at t.start axis) (pieces_on axis t) cue y s formed near in
    let few : length b - 1 ≤ 7 = omega (arith, count) in
    record {
      first = in_time q all ms (pos x *ℤ pos x) _
          (in_curve depth all (widest_in 2 depth f) ms (pos x) (speed f (pos s) (pos 0)) (pos s) (after t axis cue q 0) (after t axis cue q x) (position f (pos s) (pos 0)) (position f (pos s) (pos x))
          (f 1 -ℤ f 0) (first_step b) (omega (arith, ints)) (omega (arith, ints)) lasting slow (value 0) (value x)
          (bernstein-at_zero 6 (steps f) (pos s)) (ends.first (length b - 1) (at b) few)
          (from_zero (pos (2 ^ (7 * depth))) (room_of depth (pos (widest_in 2 depth f)) (pos s)) (pos x) (position f (pos s) (pos 0)) (position f (pos s) (pos x)) (speed f (pos s) (pos 0)) (curve.fore (pos 0) (pos x) (omega (arith, ints)) (omega (arith, ints)) (omega (arith, ints, last)))));
      last = in_time q all ms (pos x *ℤ pos x) _
          (in_curve depth all (widest_in 2 depth f) ms (pos x) (speed f (pos s) (pos s)) (pos s) (after t axis cue q (s - x)) (after t axis cue q s) (position f (pos s) (pos (s - x))) (position f (pos s) (pos s))
          (f 7 -ℤ f 6) (last_step b) (omega (arith, ints)) (omega (arith, ints)) lasting slow (value (s - x)) (value s)
          (bernstein-at_end 6 (steps f) (pos s)) (ends.last (length b - 1) (at b) few ∙ ap (λ (k : ℕ). pos 5040 *ℤ (pos (length b - 1) *ℤ (at b (length b - 1) -ℤ at b k))) (two_less (length b)))
          (to_end s x last (pos (2 ^ (7 * depth))) (room_of depth (pos (widest_in 2 depth f)) (pos s)) (position f (pos s) (pos s)) (position f (pos s) (pos (s - x))) (speed f (pos s) (pos s)) (curve.back (pos (s - x)) (pos s) (omega (arith, ints)) (omega (arith, ints)) (omega (arith, ints)))));
    }
  where
    two_less : (n : ℕ) → n - 1 - 1 ≡ n - 2
    two_less n = omega arith

    from_zero : (q room x h e v : ℤ) → Departs q room (x -ℤ pos 0) (x -ℤ pos 0) h e v → Departs q room x x h e v
    from_zero q room x h e v departs = let same : x -ℤ pos 0 ≡ x = omega (arith, linear) in rw (← same) departs

    to_end : (s x : ℕ) → x ≤ s → (q room h e v : ℤ) → Departs q room (pos s -ℤ pos (s - x)) (pos (s - x) -ℤ pos s) h e v → Departs q room (pos x) (pos x) e h v
    to_end s x less q room h e v departs =
        let same : pos s -ℤ pos (s - x) ≡ pos x = omega (arith, ints, less) in
        let other : pos (s - x) -ℤ pos s ≡ neg_ℤ (pos x) = omega (arith, ints, less) in
        turned q room (pos x) (neg_ℤ (pos x)) h e v refl (rw (← same, ← other) departs)
