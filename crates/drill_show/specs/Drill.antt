-- The show of the drill.
use Rattle.std.specs.Prelude.{ℕ, ◌+◌, ◌*◌, ◌/◌, ◌%◌, ◌==◌, List, [], ◌∷◌, ◌++◌, ◌||◌, ◌&&◌, codes, decimal}
use Rattle.std.specs.Prelude.{if◌then◌else◌}
use Rattle.std.specs.List.{flat_map, range_with_len}
use Rattle.byte_streams.specs.Words.{line}

-- the name of drone i, which counts from 0
abbrev pub name_of : ℕ → List ℕ
name_of i = codes "d" ++ decimal (i + 1)

-- where drone i starts, a metre from its neighbours, in micrometres
abbrev pub x_of : ℕ → ℕ
x_of i = 1000000 * (i % 6)

abbrev pub y_of : ℕ → ℕ
y_of i = 1000000 * (i / 6)

-- the line of a drone
abbrev pub drone_line : ℕ → List ℕ
drone_line i = line (codes "drone") (name_of i ∷ decimal (x_of i) ∷ decimal (y_of i) ∷ decimal 1000000 ∷ decimal 0 ∷ [])

-- Cues count from 0. In the middle two each drone is half a metre further along x, in the first two every second
-- drone is a metre higher.
abbrev pub shift_in : ℕ → ℕ
shift_in cue = if cue == 1 || cue == 2 then 500000 else 0

abbrev pub height_in : ℕ → ℕ → ℕ
height_in cue i = if (cue == 0 || cue == 1) && i % 2 == 1 then 2000000 else 1000000

-- the move of a drone in a cue
abbrev pub move_line : ℕ → ℕ → List ℕ
move_line cue i =
    line (name_of i)
    (codes "move" ∷ decimal (x_of i + shift_in cue) ∷ decimal (y_of i) ∷ decimal (height_in cue i) ∷ decimal 0 ∷ [])

-- a cue of three seconds
abbrev pub cue_lines : ℕ → ℕ → List ℕ
cue_lines n cue =
    line (codes "cue") (decimal 3000 ∷ []) ++ flat_map (move_line cue) (range_with_len 0 n) ++ line (codes "end") []

-- the show of n drones: ten times the four cues
unfoldable pub drill_text : ℕ → List ℕ
drill_text n =
    line (codes "choreo") (codes "1" ∷ []) ++ flat_map drone_line (range_with_len 0 n)
    ++ line (codes "repeat") (decimal 10 ∷ []) ++ flat_map (cue_lines n) (range_with_len 0 4) ++ line (codes "end") []

-- what is said of a drill: pairs of drones, and the sums of bytes, packets and nodes
unfoldable pub drill_line : ℕ → ℕ → ℕ → ℕ → ℕ → ℕ → List ℕ
drill_line drones cues pairs bytes packets nodes =
    line (codes "drones") (decimal drones ∷ codes "cues" ∷ decimal cues ∷ codes "pairs" ∷ decimal pairs
    ∷ codes "bytes" ∷ decimal bytes ∷ codes "packets" ∷ decimal packets ∷ codes "nodes" ∷ decimal nodes ∷ [])
