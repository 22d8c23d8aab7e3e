-- How fast a trajectory is at most: a number for each axis, computed from the control values of its parts, and what the
-- number promises of the decoded positions.
use Rattle.std.specs.Prelude.{ℕ, zero, suc, ◌*◌, ◌^◌, ◌≤◌, max, ℤ, pos, ◌-ℤ◌, ◌*ℤ◌, ◌≤ℤ◌, unsigned_abs, length, sum}
use Rattle.std.specs.Prelude.{slice_index_or}
use Rattle.std.specs.Int.{div_ceil}
use Rattle.whole_numbers.specs.Sums.{power}
use Rattle.whole_numbers.specs.Bernstein.{at}
use Rattle.bezier_core.specs.Raised.{raised}
use Rattle.bezier_core.specs.Part.{part_value}
use Rattle.traj_codec.specs.declared.traj.Traj.{Traj}
use Rattle.traj_codec.specs.Positions.{decoded, durations, points}
use Rattle.traj_codec.specs.Joined.{own}

-- the greatest of f 0 to f (n - 1), and 0 where there is none
abbrev pub greatest_below : ℕ → (ℕ → ℕ) → ℕ
greatest_below zero f = 0
greatest_below (suc n) f = max (greatest_below n f) (f n)

-- the widest step between two neighbours among eight control values: the greatest |f (k + 1) - f k|, k = 0 to 6
unfoldable pub widest_step : (ℕ → ℤ) → ℕ
widest_step f = greatest_below 7 (λ k. unsigned_abs (f (suc k) -ℤ f k))

-- the widest step in the 2^depth parts of a curve
unfoldable pub widest_part : ℕ → (ℕ → ℤ) → ℕ
widest_part depth f = greatest_below (2 ^ depth) (λ index. widest_step (part_value depth index f))

-- The speed on a part of this depth with this widest step, in micrometres per second: the least whole number that is
-- not below 7 10^6 2^depth times the step, over 5,040 2^(7 depth) ms. The segment lasts ms milliseconds, so that the
-- part lasts ms / 2^depth; its control values are millimetres times 5,040 2^(7 depth); and a curve of degree seven
-- moves by at most seven times its widest step.
unfoldable pub speed_of : ℕ → ℕ → ℕ → ℕ
speed_of depth ms step = div_ceil (7000000 * 2 ^ depth * step) (5040 * 2 ^ (7 * depth) * ms)

-- the greatest speed on the 2^depth parts of a segment that lasts ms milliseconds and has the control values f of
-- degree seven
unfoldable pub segment_speed : ℕ → ℕ → (ℕ → ℤ) → ℕ
segment_speed depth ms f =
    greatest_below (2 ^ depth) (λ index. speed_of depth ms (widest_step (part_value depth index f)))

-- how long the segment with this number lasts
abbrev pub duration : Traj → ℕ → ℕ
duration t cue = slice_index_or (durations t.segments) cue 0

-- The bound on the speed of a trajectory on an axis, by its parts of a depth: the greatest over all of its segments.
unfoldable pub speed : ℕ → Traj → ℕ → ℕ
speed depth t axis =
    greatest_below (length t.segments) (λ cue. segment_speed depth (duration t cue) (at (raised (points t cue axis))))

-- ---- what is promised
-- Between the instants p / q and r / s, in milliseconds, the decoded position on an axis, in millimetres, changes by at
-- most v micrometres per second times the time between them: 10^6 times the distance is at most v times the time. The
-- positions are numerators over c^7 and the instants fractions, so both sides are multiplied by q, s and the two c^7.
pub record IsWithinSpeed (t : Traj) (axis v : ℕ) (p q r s : ℕ) : Type 0 where
  pub within :
      (pos (1000000 * (q * s)) *ℤ pos (unsigned_abs
      (power (pos (own t p q).c) 7 *ℤ decoded t axis (own t r s)
      -ℤ power (pos (own t r s).c) 7 *ℤ decoded t axis (own t p q))))
      ≤ℤ
      (pos (v * unsigned_abs (pos (r * q) -ℤ pos (p * s)))
      *ℤ (power (pos (own t p q).c) 7 *ℤ power (pos (own t r s).c) 7))

-- On an axis the trajectory keeps below a speed: it does between any two of its instants p / q and r / s, whatever
-- whole numbers these are.
abbrev pub KeepsSpeed : Traj → ℕ → ℕ → Type 0
KeepsSpeed t axis v =
    (p q r s : ℕ) → 1 ≤ q → 1 ≤ s → p ≤ q * sum (durations t.segments) → r ≤ s * sum (durations t.segments) →
    IsWithinSpeed t axis v p q r s
