-- What is played: the exact position at a whole millisecond, rounded down to micrometres, and the exact yaw, rounded
-- down to hundredths of a degree; and the rows of a whole show (docs/COMMANDS.md, `play`).
use Rattle.std.specs.Prelude.{ℕ, suc, ◌-◌, ◌*◌, ◌/◌, ◌%◌, ◌^◌, ◌≤◌, ◌==◌, List, [], ◌∷◌, ◌++◌, length, map, sum, nat_lt}
use Rattle.std.specs.Prelude.{if◌then◌else◌, ℤ, pos, ◌*ℤ◌}
use Rattle.std.specs.List.{All, flat_map, range_with_len}
use Rattle.std.specs.Fmt.{decimal, signed_decimal}
use Rattle.byte_streams.specs.Words.{line}
use Rattle.whole_numbers.specs.Sums.{power}
use Rattle.whole_numbers.specs.Bernstein.{bern}
use Rattle.whole_numbers.specs.Moments.{Moment, moment}
use Rattle.traj_codec.specs.declared.traj.Traj.{Traj}
use Rattle.traj_codec.specs.Spelling.{HasDuration}
use Rattle.whole_numbers.specs.Limits.{most_segments}
use Rattle.traj_codec.specs.Positions.{decoded, durations}
use Rattle.integer_player.specs.Floors.{floor_of}

-- how many parts of an axis's unit are played: thousandths of a millimetre on x, y and z, tenths of a tenth of a degree
-- on yaw
abbrev pub scale_on : ℕ → ℕ
scale_on axis = if nat_lt axis 3 then 1000 else 10

-- the position on an axis at a moment, in these parts; the decoded position is a numerator over c ^ 7
abbrev pub played_on : ℕ → Traj → Moment → ℤ
played_on axis t m = floor_of (pos (scale_on axis) *ℤ decoded t axis m) (m.c ^ 7)

-- x, y, z and yaw at a moment
abbrev pub played_at : Traj → Moment → List ℤ
played_at t m = played_on 0 t m ∷ played_on 1 t m ∷ played_on 2 t m ∷ played_on 3 t m ∷ []

-- the moment of an instant in whole milliseconds: in the first segment whose end isn't before it
abbrev pub moment_of : Traj → ℕ → Moment
moment_of t ms = moment (durations t.segments) ms 1

-- x, y, z and yaw at an instant in whole milliseconds
abbrev pub played : Traj → ℕ → List ℤ
played t ms = played_at t (moment_of t ms)

-- The trajectory has 1 to 255 segments, and each lasts some time.
pub record IsPlayable (t : Traj) : Type 0 where
  pub some : 1 ≤ length t.segments
  pub few : length t.segments ≤ most_segments
  pub durations : All HasDuration t.segments

-- how long a trajectory lasts, in milliseconds
abbrev pub duration_of : Traj → ℕ
duration_of t = sum (durations t.segments)

-- the row of a drone at an instant: the instant, the drone's name and the numbers, a space between them, and a line
-- feed
abbrev pub row : ℕ → List ℕ → List ℤ → List ℕ
row ms name values = line (decimal ms) (name ∷ map signed_decimal values)

-- the most bytes of a row whose name has at most 16 bytes, and whose numbers have 64 bits
abbrev pub row_bytes : ℕ
row_bytes = 112

-- the instants of a show that lasts `total` milliseconds: 0, step, 2 step and so on up to the total, and the total
-- itself where it isn't one of them
abbrev pub instants : ℕ → ℕ → List ℕ
instants total step =
    map (λ k. k * step) (range_with_len 0 (suc (total / step))) ++ (if total % step == 0 then [] else total ∷ [])

-- the rows of an instant, drone by drone, of drones with these names and trajectories
abbrev pub rows_at : ℕ → List (List ℕ) → List Traj → List ℕ
rows_at ms [] ts = []
rows_at ms (name ∷ names) [] = []
rows_at ms (name ∷ names) (t ∷ ts) = row ms name (played t ms) ++ rows_at ms names ts

-- all rows of a show that lasts `total` milliseconds, instant by instant
unfoldable pub play_text : ℕ → ℕ → List (List ℕ) → List Traj → List ℕ
play_text total step names ts = flat_map (λ ms. rows_at ms names ts) (instants total step)

-- the floor of `scale` parts of a curve's value at a moment, from its control values
abbrev pub curve_floor : ℕ → List ℤ → Moment → ℤ
curve_floor scale b m = floor_of (pos scale *ℤ (power (pos m.c) (8 - length b) *ℤ bern b (pos m.a) (pos m.c))) (m.c ^ 7)
