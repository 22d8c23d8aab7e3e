-- Directions side by side, and what whole steps tell of them. No public clause cites these words.
use Rattle.std.specs.Prelude.{◌≡◌, ℕ, ◌+◌, ◌*◌, ◌^◌, ◌<◌, ℤ, pos, negsuc, ◌+ℤ◌, ◌*ℤ◌, ◌≤ℤ◌, ◌<ℤ◌, List, length}
use Rattle.whole_numbers.specs.Bernstein.{at}
use Rattle.whole_numbers.specs.Numbers.{IsBelow}
use Rattle.bezier_core.specs.Along.{controls}
use Rattle.bezier_core.specs.Steps.{IsWithin}
use Rattle.sep_parts.specs.declared.clearance.Clearance.{Clearance}
use Rattle.sep_parts.specs.declared.stack.Level.{Level}
use Rattle.sep_parts.specs.Directions.{direction_of, threshold, weights}
use Rattle.sep_parts.specs.Rulers.{Measure}
use Rattle.pair_search.specs.declared.lanes.Lanes.{Lanes}
use Rattle.pair_search.specs.declared.lanes.Point.{Point}

-- a step is 2 to this power, in a part of this depth
abbrev pub steps_of : ℕ → ℕ
steps_of depth = 14 + 7 * depth

-- q is v by 2^times, rounded down
pub record IsFloor (times : ℕ) (v q : ℤ) : Type 0 where
  pub low : (pos (2 ^ times) *ℤ q) ≤ℤ v
  pub high : v <ℤ (pos (2 ^ times) *ℤ (q +ℤ pos 1))

-- the point has the control values k of a part, in whole steps
pub record IsPoint (level : Level) (k : ℕ) (p : Point) : Type 0 where
  pub x : IsFloor (steps_of level.place.depth) (at (controls level.part 0) k) p.x
  pub y : IsFloor (steps_of level.place.depth) (at (controls level.part 1) k) p.y
  pub z : IsFloor (steps_of level.place.depth) (at (controls level.part 2) k) p.z

-- its coordinates are few steps
pub record IsSmallPoint (p : Point) : Type 0 where
  pub x : IsWithin (pos 65536) p.x
  pub y : IsWithin (pos 65536) p.y
  pub z : IsWithin (pos 65536) p.z

-- a point along the direction of a lane
abbrev pub lane_value : Lanes → Point → ℕ → ℤ
lane_value l p i = at l.x i *ℤ p.x +ℤ at l.y i *ℤ p.y +ℤ at l.z i *ℤ p.z

-- a weight where it is not negative, else 0
abbrev pub slack_on : ℤ → ℤ
slack_on (pos n) = pos n
slack_on (negsuc n) = pos 0

-- by how much three coordinates that are rounded down may be too little, times their weights
abbrev pub slack_of : List ℤ → ℤ
slack_of w = slack_on (at w 0) +ℤ slack_on (at w 1) +ℤ slack_on (at w 2)

-- the lane has the direction n
pub record IsLane (c : Clearance) (n : List ℤ) (l : Lanes) (i : ℕ) : Type 0 where
  pub x : at l.x i ≡ at (weights n c.r c.h) 0
  pub y : at l.y i ≡ at (weights n c.r c.h) 1
  pub z : at l.z i ≡ at (weights n c.r c.h) 2
  pub low : (pos 16384 *ℤ (at l.low i +ℤ slack_of (weights n c.r c.h))) ≤ℤ (pos 5040 *ℤ threshold c n)

-- no number of a lane is large
pub record IsSmallLane (l : Lanes) (i : ℕ) : Type 0 where
  pub x : IsBelow 4001 (at l.x i)
  pub y : IsBelow 4001 (at l.y i)
  pub z : IsBelow 4001 (at l.z i)
  pub low : IsBelow (2 ^ 29) (at l.low i)

abbrev pub AreSmallLanes : Lanes → Type 0
AreSmallLanes l = (i : ℕ) → i < 112 → IsSmallLane l i

-- the lanes have the directions of a ruler
pub record AreLanes (m : Measure) (l : Lanes) : Type 0 where
  pub small : AreSmallLanes l
  pub each : (i : ℕ) → i < length m.directions → IsLane m.clearance (direction_of m.directions i) l i
