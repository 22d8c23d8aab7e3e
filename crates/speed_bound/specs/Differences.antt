-- Differences of control values, those of their parts, and the rates that they bound: of the first order, the steps
-- from one value to the next, speeds, and of the second, the steps between these, accelerations.
use Rattle.std.specs.Prelude.{ℕ, zero, suc, ◌-◌, ◌*◌, ◌^◌, nat_eq, if◌then◌else◌, ℤ, ◌-ℤ◌, unsigned_abs, length}
use Rattle.std.specs.Int.{div_ceil}
use Rattle.whole_numbers.specs.Bernstein.{at}
use Rattle.bezier_core.specs.Raised.{raised}
use Rattle.bezier_core.specs.Part.{part_value}
use Rattle.traj_codec.specs.declared.traj.Traj.{Traj}
use Rattle.traj_codec.specs.Positions.{points}
use Rattle.speed_bound.specs.Speed.{duration, greatest_below}

-- the differences of an order
abbrev pub differences : ℕ → (ℕ → ℤ) → ℕ → ℤ
differences zero f i = f i
differences (suc order) f i = differences order f (suc i) -ℤ differences order f i

-- the widest among those of eight control values
unfoldable pub widest : ℕ → (ℕ → ℤ) → ℕ
widest order f = greatest_below (8 - order) (λ i. unsigned_abs (differences order f i))

-- the widest in the 2^depth parts of a curve
unfoldable pub widest_in : ℕ → ℕ → (ℕ → ℤ) → ℕ
widest_in order depth f = greatest_below (2 ^ depth) (λ index. widest order (part_value depth index f))

-- ---- rates
-- A speed, in micrometres per second, is 7 10^6 times a step over 5,040 ms. An acceleration, in micrometres per second
-- squared, is 42 10^9 times a second difference over 5,040 ms^2: 25 10^6 over 3 ms^2.
unfoldable pub units : ℕ → ℕ
units order = if nat_eq order 1 then 7000000 else 25000000

unfoldable pub time : ℕ → ℕ → ℕ
time order ms = if nat_eq order 1 then 5040 * ms else 3 * (ms * ms)

-- no speed and no acceleration reaches this
abbrev pub limit : ℕ → ℕ
limit order = if nat_eq order 1 then 2 ^ 50 else 2 ^ 53

-- the rate, rounded up, of a part of a depth with this widest difference: its values are times 2^(7 depth), and it
-- lasts the 2^depth-th of the time
unfoldable pub rate_of : ℕ → ℕ → ℕ → ℕ → ℕ
rate_of order depth ms w = div_ceil (units order * 2 ^ (order * depth) * w) (time order ms * 2 ^ (7 * depth))

-- the greatest on the parts of a segment that lasts ms milliseconds and has the control values f
abbrev pub segment_rate : ℕ → ℕ → ℕ → (ℕ → ℤ) → ℕ
segment_rate order depth ms f = rate_of order depth ms (widest_in order depth f)

-- the greatest of a trajectory on an axis, over all of its segments
abbrev pub rate : ℕ → ℕ → Traj → ℕ → ℕ
rate order depth t axis =
    greatest_below (length t.segments)
    (λ cue. segment_rate order depth (duration t cue) (at (raised (points t cue axis))))
