-- The bound of a trajectory, segment by segment.
use Rattle.speed_bound.proofs.Prelude.{lit<, time, units, rate, rate_of, segment_rate, widest, widest_in, duration, ◌≡◌, ℕ, ◌*◌, ◌^◌, ◌≤◌, ℤ, arith, refl, sym, ◌∙◌, subst, List, [], ◌∷◌, length, map, All, length-map, All-head, All-tail, All-nil, All-cons, at, IsPiece, moment, raised, part_value, Segment, Traj, HasDuration, durations, piece_on, pieces_on, points, IsFormed, KeepsSpeed, segment_speed, speed, speed_of, widest_step}
use Rattle.whole_numbers.specs.Decoded as plain
use Rattle.traj_codec.proofs.PositionLemmas.{durations_on}
use Rattle.speed_bound.proofs.Differences.{all_within}
use Rattle.speed_bound.proofs.RateLemmas.{rate-grows, rate-most, some_time}
use Rattle.speed_bound.proofs.Speeds.{AreSlow, Within, keeps}
use Rattle.speed_bound.proofs.Walks.{lasts-at}
use Rattle.speed_bound.proofs.Widths.{greatest-at, greatest-map, greatest-same}

-- ---- the speeds are the rates of the first order
speed_is : (depth ms w : ℕ) → rate_of 1 depth ms w ≡ speed_of depth ms w
unfolding rate_of speed_of units time
speed_is depth ms w =
    let one : 1 * depth ≡ depth = omega arith in
    let lasts : 5040 * ms * 2 ^ (7 * depth) ≡ 5040 * 2 ^ (7 * depth) * ms = omega arith in
    rw (one, lasts) refl

-- The greatest speed of the parts is that of the widest step.
segment_speed-is : (depth ms : ℕ) (f : ℕ → ℤ) → 1 ≤ ms → segment_rate 1 depth ms f ≡ segment_speed depth ms f
unfolding segment_speed widest_in widest widest_step
segment_speed-is depth ms f lasting =
    sym (greatest-same (2 ^ depth) _ _ (λ index inside. sym (speed_is depth ms (widest 1 (part_value depth index f))))
    ∙ greatest-map (2 ^ depth) (λ index. widest 1 (part_value depth index f)) (rate_of 1 depth ms) none (λ x y less. rate-grows 1 depth ms x y some less))
  where
    some : 1 ≤ time 1 ms
    some = some_time 1 ms (lit< tt, lit< tt) lasting

    none : rate_of 1 depth ms 0 ≡ 0
    none = omega (arith, rate-most 1 depth ms 0 0 0 (lit< tt) some (omega arith) (omega arith))

-- that of a trajectory
pub speed-is : (depth axis : ℕ) (t : Traj) → All HasDuration t.segments → rate 1 depth t axis ≡ speed depth t axis
unfolding speed
speed-is depth axis t lasting =
    greatest-same (length t.segments) _ _ (λ cue inside. segment_speed-is depth (duration t cue) (at (raised (points t cue axis))) (lasts-at t cue inside lasting))

-- ---- what the bound promises
-- each of the pieces of formed segments lasts some time and has at most seven stored points
pub pieces_formed : (axis : ℕ) (segments : List Segment) → axis ≤ 2 → All HasDuration segments → All IsFormed segments → All IsPiece (map (piece_on axis) segments)
pieces_formed axis [] near lasting formed = All-nil IsPiece
pieces_formed axis (s ∷ rest) near lasting formed =
    All-cons IsPiece (piece_on axis s) (map (piece_on axis) rest)
    (record { lasts = All-head HasDuration s rest lasting; few = All-head IsFormed s rest formed axis near })
    (pieces_formed axis rest near (All-tail HasDuration s rest lasting) (All-tail IsFormed s rest formed))

-- no part of a trajectory is faster than its bound
slow : (depth axis : ℕ) (t : Traj) → axis ≤ 2 → All HasDuration t.segments → All IsFormed t.segments → AreSlow depth (speed depth t axis) (at t.start axis) (pieces_on axis t)
slow depth axis t near lasting formed = record {
  formed = pieces_formed axis t.segments near lasting formed;
  width = λ cue. widest_in 1 depth (at (raised (points t cue axis)));
  flat = λ cue inside. all_within 1 depth (at (raised (points t cue axis)));
  lasts = λ cue inside. rw (durations_on axis t.segments) (lasts-at t cue (omega (arith, length-map t.segments (piece_on axis))) lasting);
  slow = λ cue inside. rw (durations_on axis t.segments, sym (speed-is depth axis t lasting))
      (greatest-at (length t.segments) (λ k. segment_rate 1 depth (duration t k) (at (raised (points t k axis)))) cue (omega (arith, length-map t.segments (piece_on axis))));
}

-- Between any two instants a trajectory moves by at most its bound times the time between them.
pub keeps_speed : (depth axis : ℕ) (t : Traj) → axis ≤ 2 → 1 ≤ length t.segments → All HasDuration t.segments → All IsFormed t.segments → KeepsSpeed t axis (speed depth t axis)
keeps_speed depth axis t near some lasting formed p q r s q_some s_some p_in r_in =
    let same : plain.durations (pieces_on axis t) ≡ durations t.segments = durations_on axis t.segments in
    record {
      within = subst (λ (ns : List ℕ). Within (speed depth t axis) (at t.start axis) (pieces_on axis t) p q r s (moment ns p q) (moment ns r s)) same
          (keeps depth (speed depth t axis) (at t.start axis) (pieces_on axis t) p q r s (slow depth axis t near lasting formed) (omega (arith, length-map t.segments (piece_on axis)))
          (rw same p_in) (rw same r_in));
    }
