-- A curve in space seen along a direction: the weighted sum of its three coordinates.
use Rattle.std.specs.Prelude.{ℕ, ℤ, ◌+ℤ◌, ◌*ℤ◌, List, [], slice_index_or}
use Rattle.whole_numbers.specs.Bernstein.{at}
use Rattle.bezier_core.specs.declared.Bez.{Bez}

-- the control values of the curve at place i, and none past the end
abbrev pub controls : List (Bez 8) → ℕ → List ℤ
controls curves i = (slice_index_or curves i (record { b = [] })).b

-- the weighted sum of the control values k of three curves
abbrev pub along_value : List (Bez 8) → List ℤ → ℕ → ℤ
along_value xyz w k =
    at w 0 *ℤ at (controls xyz 0) k +ℤ at w 1 *ℤ at (controls xyz 1) k +ℤ at w 2 *ℤ at (controls xyz 2) k
