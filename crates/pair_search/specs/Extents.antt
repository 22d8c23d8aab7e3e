-- How far curves reach, and when that tells two drones. No public clause cites these words.
use Rattle.std.specs.Prelude.{◌≡◌, ◌⊎◌, ℕ, ◌+◌, ◌*◌, ◌^◌, ◌≤◌, ◌<◌, ℤ, pos, negsuc, ◌-ℤ◌, ◌≤ℤ◌, List, [], ◌∷◌, length}
use Rattle.std.specs.Prelude.{slice_index_or}
use Rattle.whole_numbers.specs.Bernstein.{at}
use Rattle.whole_numbers.specs.Numbers.{IsBelow}
use Rattle.bezier_core.specs.declared.Bez.{Bez}
use Rattle.bezier_core.specs.Along.{controls}
use Rattle.fleet_curves.specs.Raised.{Raised, curves_at}
use Rattle.sep_parts.specs.declared.clearance.Clearance.{Clearance}
use Rattle.sep_parts.specs.Directions.{Stands, reach_on}
use Rattle.pair_search.specs.declared.extents.Extent.{Extent}

-- the control values of three curves lie in an extent, whose numbers are below 2^28
pub record IsExtent (curves : List (Bez 8)) (e : Extent) : Type 0 where
  pub low : (axis k : ℕ) → axis ≤ 2 → k ≤ 7 → at e.low axis ≤ℤ at (controls curves axis) k
  pub high : (axis k : ℕ) → axis ≤ 2 → k ≤ 7 → at (controls curves axis) k ≤ℤ at e.high axis
  pub small : (axis : ℕ) → axis ≤ 2 → IsBelow (2 ^ 28) (at e.low axis) × IsBelow (2 ^ 28) (at e.high axis)

abbrev pub no_extent : Extent
no_extent = record { low = []; high = [] }

-- these are the extents of the first n curves of a fleet
pub record HasExtents (c : Raised) (n : ℕ) (all : List Extent) : Type 0 where
  pub total : length all ≡ n
  pub each : (i : ℕ) → i < n → IsExtent (slice_index_or c.curves i []) (slice_index_or all i no_extent)

-- these are the extents of all curves of a fleet
abbrev pub AreExtents : Raised → List Extent → Type 0
AreExtents c all = HasExtents c (c.drones * c.cues) all

-- an extent of each cue of a drone
abbrev pub IsFlight : Raised → ℕ → Extent → Type 0
IsFlight c drone e = (cue : ℕ) → cue < c.cues → IsExtent (curves_at c drone cue) e

-- such an extent for each of the first m drones
abbrev pub HaveFlights : Raised → List Extent → ℕ → Type 0
HaveFlights c flights m = (drone : ℕ) → drone < m → (none : Extent) →
    IsFlight c drone (slice_index_or flights drone none)

-- and for each
abbrev pub AreFlights : Raised → List Extent → Type 0
AreFlights c flights = HaveFlights c flights c.drones

-- what lies in one of two extents lies in the third
abbrev pub IsWider : Extent → Extent → Extent → Type 0
IsWider first second wide = (a b : List (Bez 8)) → IsExtent a first → IsExtent b second →
    IsExtent a wide × IsExtent b wide

-- what is kept clear on an axis whose half axis has this length: two half axes, two strays and the way of a drone that
-- is late
abbrev pub room_on : Clearance → ℕ → ℕ → ℕ
room_on c half axis = 2 * half + 2 * c.stray + reach_on c axis

-- how far apart control values must be for so much room
abbrev pub least_distance : ℕ → ℤ
least_distance room = pos (5040 * (room + 1))

-- a distance fits between two numbers
abbrev pub IsBetween : ℤ → ℤ → ℤ → Type 0
IsBetween high low distance = distance ≤ℤ (low -ℤ high)

-- with so much room between them on an axis the one extent lies beyond the other
abbrev pub IsFarOn : ℕ → ℕ → Extent → Extent → Type 0
IsFarOn room axis first second =
    IsBetween (at first.high axis) (at second.low axis) (least_distance room)
    ⊎ IsBetween (at second.high axis) (at first.low axis) (least_distance room)

-- on some axis
abbrev pub IsFar : Clearance → Extent → Extent → Type 0
IsFar c first second =
    IsFarOn (room_on c c.r 0) 0 first second
    ⊎ (IsFarOn (room_on c c.r 1) 1 first second ⊎ IsFarOn (room_on c c.h 2) 2 first second)

-- a table has the directions of the three axes, both ways
pub record HasAxes (dirs : List (List ℤ)) : Type 0 where
  pub right : Stands dirs (pos 1 ∷ pos 0 ∷ pos 0 ∷ [])
  pub left : Stands dirs (negsuc 0 ∷ pos 0 ∷ pos 0 ∷ [])
  pub forth : Stands dirs (pos 0 ∷ pos 1 ∷ pos 0 ∷ [])
  pub back : Stands dirs (pos 0 ∷ negsuc 0 ∷ pos 0 ∷ [])
  pub up : Stands dirs (pos 0 ∷ pos 0 ∷ pos 1 ∷ [])
  pub down : Stands dirs (pos 0 ∷ pos 0 ∷ negsuc 0 ∷ [])
