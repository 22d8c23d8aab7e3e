-- Words of private steps. No public clause cites them.
use Rattle.std.specs.Prelude.{◌≡◌, ℕ, ◌*◌, ◌^◌, ◌≤◌, ◌<◌, ℤ, pos, neg_ℤ, ◌*ℤ◌, ◌≤ℤ◌, List, Option, Some, None}
use Rattle.std.specs.Prelude.{slice_get, slice_index_or}
use Rattle.whole_numbers.specs.Numbers.{IsIn}
use Rattle.whole_numbers.specs.Bernstein.{at}
use Rattle.bezier_core.specs.declared.Bez.{Bez}
use Rattle.bezier_core.specs.Along.{controls}
use Rattle.fleet_curves.specs.Raised.{Raised, curves_at}
use Rattle.keepout_boxes.specs.declared.region.Region.{Region}
use Rattle.keepout_boxes.specs.Kept.{IsKept, farthest, part_of}

-- the control values of three curves, by axis
abbrev pub values_of : List (Bez 8) → ℕ → ℕ → ℤ
values_of curves axis = at (controls curves axis)

-- the part of a part that may be halved n times more is kept, at n halvings' scale
abbrev pub KeptIn : ℕ → ℕ → Region → List (Bez 8) → ℤ → ℕ → ℕ → Type 0
KeptIn r h region curves scale n index = IsKept r h region (part_of curves n index) (pos (2 ^ (7 * n)) *ℤ scale)

-- the first of the 2^n parts that is not kept
pub record IsFirstIn (r h : ℕ) (region : Region) (curves : List (Bez 8)) (scale : ℤ) (n index : ℕ) : Type 0 where
  pub inside : index < 2 ^ n
  pub enters : KeptIn r h region curves scale n index → ⊥
  pub kept_before : (i : ℕ) → i < index → KeptIn r h region curves scale n i

-- each of the 2^n parts is kept
abbrev pub AllKeptIn : ℕ → ℕ → Region → List (Bez 8) → ℤ → ℕ → Type 0
AllKeptIn r h region curves scale n = (i : ℕ) → i < 2 ^ n → KeptIn r h region curves scale n i

-- an index, if there is one, is below the number of parts
abbrev pub IsIndex : Option ℕ → ℕ → Type 0
IsIndex None parts = Unit {0}
IsIndex (Some index) parts = index < parts

-- ---- drones and regions
-- the part of this depth of a drone in a cue is kept
abbrev pub KeptHere : Raised → ℕ → ℕ → ℕ → Region → ℕ → ℕ → ℕ → Type 0
KeptHere c r h depth region drone cue index =
    IsKept r h region (part_of (curves_at c drone cue) depth index) (pos (5040 * 2 ^ (7 * depth)))

-- each part of a drone's cue is kept
abbrev pub CueKept : Raised → ℕ → ℕ → ℕ → Region → ℕ → ℕ → Type 0
CueKept c r h depth region drone cue = (index : ℕ) → index < 2 ^ depth → KeptHere c r h depth region drone cue index

-- the first part of a drone's cue that is not kept
pub record IsFirstOfCue (c : Raised) (r h depth : ℕ) (region : Region) (drone cue index : ℕ) : Type 0 where
  pub has_part : index < 2 ^ depth
  pub enters : KeptHere c r h depth region drone cue index → ⊥
  pub parts_before : (i : ℕ) → i < index → KeptHere c r h depth region drone cue i

-- each part of a drone's first m cues is kept
abbrev pub DroneKept : Raised → ℕ → ℕ → ℕ → Region → ℕ → ℕ → Type 0
DroneKept c r h depth region drone m = (cue : ℕ) → cue < m → CueKept c r h depth region drone cue

-- the first part of a drone that is not kept
pub record IsFirstOfDrone (c : Raised) (r h depth : ℕ) (region : Region) (drone cue index : ℕ) : Type 0 where
  pub has_cue : cue < c.cues
  pub first : IsFirstOfCue c r h depth region drone cue index
  pub cues_before : DroneKept c r h depth region drone cue

-- each part of the first m drones is kept
abbrev pub RegionKept : Raised → ℕ → ℕ → ℕ → Region → ℕ → Type 0
RegionKept c r h depth region m = (drone : ℕ) → drone < m → DroneKept c r h depth region drone c.cues

-- the first part, of the first drone, that is not kept
pub record IsFirstOfRegion (c : Raised) (r h depth : ℕ) (region : Region) (drone cue index : ℕ) : Type 0 where
  pub has_drone : drone < c.drones
  pub first : IsFirstOfDrone c r h depth region drone cue index
  pub drones_before : RegionKept c r h depth region drone

-- each part is kept in each of the first m regions
abbrev pub RegionsKept : Raised → ℕ → ℕ → ℕ → List Region → ℕ → Type 0
RegionsKept c r h depth regions m =
    (k : ℕ) → k < m → (region : Region) → slice_get regions k ≡ Some region → RegionKept c r h depth region c.drones

-- ---- flights

-- Three rows of which the first two values, on each axis, have each control value of a drone's first m
-- cues between them.
abbrev pub Covers : Raised → ℕ → List (Bez 8) → ℕ → Type 0
Covers c drone flight m =
    (cue : ℕ) → cue < m → (axis : ℕ) → axis ≤ 2 → (k : ℕ) → k ≤ 7 →
    IsIn (values_of flight axis 0) (values_of flight axis 1) (values_of (curves_at c drone cue) axis k)

-- such rows for each of the first m drones, over all cues
abbrev pub CoverAll : Raised → List (List (Bez 8)) → ℕ → Type 0
CoverAll c boxes m = (drone : ℕ) → drone < m → (none : List (Bez 8)) →
    Covers c drone (slice_index_or boxes drone none) c.cues

-- Ends that lie as far out as those before, and have eight control values between them.
pub record IsWider (low high : ℤ) (g : ℕ → ℤ) (lower higher : ℤ) : Type 0 where
  pub as_low : lower ≤ℤ low
  pub as_high : high ≤ℤ higher
  pub between : (k : ℕ) → k ≤ 7 → IsIn lower higher (g k)

-- a number that lies within the limits
abbrev pub IsCoordinate : ℤ → Type 0
IsCoordinate x = IsIn (neg_ℤ (pos farthest)) (pos farthest) x
