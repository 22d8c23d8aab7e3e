-- How fast a trajectory's speed changes at most within its segments: a number for each axis, computed from the control
-- values of the parts, and what the number promises of the decoded positions.
use Rattle.std.specs.Prelude.{ℕ, suc, ◌*◌, ◌^◌, ◌≤◌, ◌<◌, ℤ, pos, ◌-ℤ◌, ◌*ℤ◌, unsigned_abs, length}
use Rattle.std.specs.Int.{div_ceil}
use Rattle.whole_numbers.specs.Sums.{power}
use Rattle.whole_numbers.specs.Bernstein.{at}
use Rattle.bezier_core.specs.Raised.{raised}
use Rattle.bezier_core.specs.Steps.{IsWithin}
use Rattle.bezier_core.specs.Part.{part_value}
use Rattle.traj_codec.specs.declared.traj.Traj.{Traj}
use Rattle.traj_codec.specs.Positions.{decoded, points}
use Rattle.speed_bound.specs.Speed.{duration, greatest_below}

-- the second difference of control values at place i, a bend: the step after it less the step before
abbrev pub bend : (ℕ → ℤ) → ℕ → ℤ
bend f i = (f (suc (suc i)) -ℤ f (suc i)) -ℤ (f (suc i) -ℤ f i)

-- the widest bend among eight control values
unfoldable pub widest_bend : (ℕ → ℤ) → ℕ
widest_bend f = greatest_below 6 (λ k. unsigned_abs (bend f k))

-- the widest bend in the 2^depth parts of a curve
unfoldable pub widest_bend_part : ℕ → (ℕ → ℤ) → ℕ
widest_bend_part depth f = greatest_below (2 ^ depth) (λ index. widest_bend (part_value depth index f))

-- The acceleration on a part of this depth with this widest bend, in micrometres per second squared: the least whole
-- number that is not below 42 10^9 4^depth times the bend, over 5,040 2^(7 depth) ms^2; 42 10^9 / 5,040 is 25 10^6 / 3.
unfoldable pub acceleration_of : ℕ → ℕ → ℕ → ℕ
acceleration_of depth ms bend = div_ceil (25000000 * 4 ^ depth * bend) (3 * 2 ^ (7 * depth) * (ms * ms))

-- the acceleration of a segment that lasts ms milliseconds and has the control values f of degree seven
unfoldable pub segment_acceleration : ℕ → ℕ → (ℕ → ℤ) → ℕ
segment_acceleration depth ms f = acceleration_of depth ms (widest_bend_part depth f)

-- the bound on the acceleration of a trajectory on an axis in the segment with this number
abbrev pub acceleration_in : ℕ → Traj → ℕ → ℕ → ℕ
acceleration_in depth t axis cue = segment_acceleration depth (duration t cue) (at (raised (points t cue axis)))

-- that of the whole trajectory: the greatest over all of its segments
unfoldable pub acceleration : ℕ → Traj → ℕ → ℕ
acceleration depth t axis = greatest_below (length t.segments) (acceleration_in depth t axis)

-- the decoded position x / q milliseconds after a segment began, a numerator over (q ms)^7
abbrev pub after : Traj → ℕ → ℕ → ℕ → ℕ → ℤ
after t axis cue q x = decoded t axis (record { cue = cue; a = x; c = q * duration t cue })

-- Three instants of a segment are x / q, y / q and z / q milliseconds after it began. Between them the mean speed
-- changes by at most a micrometres per second squared times half the time from the first to the last. Three fractions
-- have one denominator, so nothing is lost. Both sides are multiplied by the times (z - y) / q and (y - x) / q, by 2
-- 10^9 (from millimetres per millisecond squared), and by q^3 (q ms)^7.
abbrev pub KeepsAcceleration : Traj → ℕ → ℕ → Type 0
KeepsAcceleration t axis a =
    (cue q x y z : ℕ) → cue < length t.segments → x ≤ y → y ≤ z → z ≤ q * duration t cue →
    IsWithin ((pos a *ℤ ((pos z -ℤ pos x) *ℤ ((pos z -ℤ pos y) *ℤ (pos y -ℤ pos x))))
    *ℤ power (pos (q * duration t cue)) 7)
    (pos (2000000000 * (q * q)) *ℤ
    ((after t axis cue q z -ℤ after t axis cue q y) *ℤ (pos y -ℤ pos x)
    -ℤ (after t axis cue q y -ℤ after t axis cue q x) *ℤ (pos z -ℤ pos y)))
