-- Which parts of a curve have a name.
use Rattle.std.specs.Prelude.{ℕ, ◌≤◌, ◌<◌, ◌^◌}

-- a place has a depth of at most 8, and one of the 2^depth parts of that depth
abbrev pub IsPlace : ℕ → ℕ → Type 0
IsPlace depth index = (depth ≤ 8) × (index < 2 ^ depth)
