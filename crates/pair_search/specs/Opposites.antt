-- Directions with their opposites side by side, and what whole steps tell of both. No public clause cites these words.
use Rattle.std.specs.Prelude.{◌≡◌, ℕ, ◌+◌, ◌-◌, ◌<◌, ℤ, pos, ◌+ℤ◌, ◌<ℤ◌, List, length}
use Rattle.whole_numbers.specs.Bernstein.{at}
use Rattle.bezier_core.specs.Steps.{IsWithin}
use Rattle.sep_parts.specs.Rulers.{Measure}
use Rattle.pair_search.specs.declared.lanes.Lanes.{Lanes}
use Rattle.pair_search.specs.declared.lanes.Point.{Point}
use Rattle.pair_search.specs.declared.opposites.Opposites.{Opposites}
use Rattle.pair_search.specs.Lanes.{AreLanes, IsSmallPoint, lane_value}
use Rattle.pair_search.specs.Short.{AreShort}

-- the directions of two lanes are opposite
pub record CancelAt (l : Lanes) (i j : ℕ) : Type 0 where
  pub x : at l.x i +ℤ at l.x j ≡ pos 0
  pub y : at l.y i +ℤ at l.y j ≡ pos 0
  pub z : at l.z i +ℤ at l.z j ≡ pos 0

-- a point above this in one lane is too low in the other lane
abbrev pub IsHigh : Lanes → ℕ → ℕ → ℤ → Type 0
IsHigh l i j high = (p : Point) → IsSmallPoint p → high <ℤ lane_value l p i → lane_value l p j <ℤ at l.low j

abbrev pub IsSmallHigh : ℤ → Type 0
IsSmallHigh high = IsWithin (pos 1000000000) high

abbrev pub AreSmallHighs : List ℤ → Type 0
AreSmallHighs high = (i : ℕ) → i < 56 → IsSmallHigh (at high i)

-- the lanes have the directions of a ruler, each in the first half with the one that stands as far from the end of the
-- table
pub record AreOpposites (m : Measure) (s : Opposites) : Type 0 where
  pub lanes : AreLanes m s.lanes
  pub small : AreSmallHighs s.high
  pub each : (i : ℕ) → i + i < length m.directions → IsHigh s.lanes i (length m.directions - (i + 1)) (at s.high i)
  pub short : AreShort s.lanes (length m.directions) s.short
