-- The line that says how fast a drone is at most.
use Rattle.std.specs.Prelude.{ℕ, List, [], ◌∷◌, codes, decimal}
use Rattle.byte_streams.specs.Words.{line}

-- the bounds on x, y and z of the drone with this name, in micrometres per second
abbrev pub speed_line : List ℕ → ℕ → ℕ → ℕ → List ℕ
speed_line name x y z = line (codes "speed") (name ∷ decimal x ∷ decimal y ∷ decimal z ∷ [])
