-- Directions side by side in numbers of 16 bits, and what short steps tell of them. No public clause cites these words.
use Rattle.std.specs.Prelude.{◌≡◌, ◌⊎◌, ℕ, ◌+◌, ◌-◌, ◌*◌, ◌<◌, ℤ, pos, ◌+ℤ◌, ◌*ℤ◌, ◌<ℤ◌, FitsSigned}
use Rattle.std.specs.Int.{bit_at, w16}
use Rattle.whole_numbers.specs.Bernstein.{at}
use Rattle.bezier_core.specs.Along.{controls}
use Rattle.bezier_core.specs.Steps.{IsWithin}
use Rattle.sep_parts.specs.declared.stack.Level.{Level}
use Rattle.pair_search.specs.declared.lanes.Lanes.{Lanes}
use Rattle.pair_search.specs.declared.marking.Marks.{Marks}
use Rattle.pair_search.specs.declared.opposites.Opposites.{Opposites}
use Rattle.pair_search.specs.declared.short.ShortLane.{ShortLane}
use Rattle.pair_search.specs.declared.short.ShortLanes.{ShortLanes}
use Rattle.pair_search.specs.declared.short.ShortPoint.{ShortPoint}
use Rattle.pair_search.specs.Lanes.{IsFloor, slack_on}
use Rattle.pair_search.specs.Marks.{MarksAt}

-- a short step is 2 to this power, in a part of this depth
abbrev pub short_steps_of : ℕ → ℕ
short_steps_of depth = 11 + 7 * depth

-- the coordinates of a point have 16 bits
pub record FitsShort (p : ShortPoint) : Type 0 where
  pub x : FitsSigned w16 p.x
  pub y : FitsSigned w16 p.y
  pub z : FitsSigned w16 p.z

-- the point has the control values k of a part, in short steps
pub record IsShortPoint (level : Level) (k : ℕ) (p : ShortPoint) : Type 0 where
  pub fits : FitsShort p
  pub x : IsFloor (short_steps_of level.place.depth) (at (controls level.part 0) k) p.x
  pub y : IsFloor (short_steps_of level.place.depth) (at (controls level.part 1) k) p.y
  pub z : IsFloor (short_steps_of level.place.depth) (at (controls level.part 2) k) p.z

-- a point along the direction of a lane, in short steps
abbrev pub short_value : Lanes → ShortPoint → ℕ → ℤ
short_value l p i = at l.x i *ℤ p.x +ℤ at l.y i *ℤ p.y +ℤ at l.z i *ℤ p.z

-- What a point in short steps has to reach there. A lane's number is in whole steps, of eight short ones, and makes room
-- for coordinates that are rounded down to them.
abbrev pub short_low : Lanes → ℕ → ℤ
short_low l i = pos 8 *ℤ at l.low i +ℤ pos 7 *ℤ (slack_on (at l.x i) +ℤ slack_on (at l.y i) +ℤ slack_on (at l.z i))

-- one of the lanes in numbers of 16 bits
abbrev pub short_lane_at : ShortLanes → ℕ → ShortLane
short_lane_at s i = record { x = at s.x i; y = at s.y i; z = at s.z i; low = at s.low i; high = at s.high i }

-- three products by 2^16 have a sum of 16 bits
pub record HasSmallWeights (l : ShortLane) : Type 0 where
  pub x : IsWithin (pos 21840) l.x
  pub y : IsWithin (pos 21840) l.y
  pub z : IsWithin (pos 21840) l.z

-- v is the sum of the three products of a point and a lane's weights, each by 2^16 and rounded down
pub record IsRough (l : ShortLane) (p : ShortPoint) (v : ℤ) : Type 0 where
  pub a : ℤ
  pub b : ℤ
  pub c : ℤ
  pub x : IsFloor 16 (l.x *ℤ p.x) a
  pub y : IsFloor 16 (l.y *ℤ p.y) b
  pub z : IsFloor 16 (l.z *ℤ p.z) c
  pub sum : v ≡ a +ℤ b +ℤ c

-- A rough value below `low` tells that a point is too low in the lane i, and one above `high` that it is in the lane j.
pub record TellsShort (l : Lanes) (i j : ℕ) (s : ShortLane) : Type 0 where
  pub small : HasSmallWeights s
  pub low : (p : ShortPoint) (v : ℤ) → FitsShort p → IsRough s p v → v <ℤ s.low → short_value l p i <ℤ short_low l i
  pub high : (p : ShortPoint) (v : ℤ) → FitsShort p → IsRough s p v → s.high <ℤ v → short_value l p j <ℤ short_low l j

-- the lanes of a table of `count`, each in the first half with the one that stands as far from the end of the table
abbrev pub AreShort : Lanes → ℕ → ShortLanes → Type 0
AreShort l count s = (i : ℕ) → i + i < count → TellsShort l i (count - (i + 1)) (short_lane_at s i)

-- where a bit of a point is clear, its rough value is below or above what its lane says
pub record AreShortMarks (s : ShortLanes) (p : ShortPoint) (marks : Marks) : Type 0 where
  pub front : (i : ℕ) → i < 49 → HasSmallWeights (short_lane_at s i) → bit_at marks.front i ≡ 0
      → (v : ℤ) × IsRough (short_lane_at s i) p v × (v <ℤ at s.low i)
  pub back : (i : ℕ) → i < 49 → HasSmallWeights (short_lane_at s i) → bit_at marks.back i ≡ 0
      → (v : ℤ) × IsRough (short_lane_at s i) p v × (at s.high i <ℤ v)

-- the marks are those of the control values k of a level: in short steps, or in whole ones
abbrev pub MarksOf : Opposites → Level → ℕ → Marks → Type 0
MarksOf s level k marks = ((p : ShortPoint) × IsShortPoint level k p × AreShortMarks s.short p marks) ⊎ MarksAt s level k marks
