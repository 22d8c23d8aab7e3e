-- Regions of space, when a part of a drone's way keeps to one, and what that promises of the decoded positions.
use Rattle.std.specs.Prelude.{◌≡◌, ◌⊎◌, ℕ, ◌*◌, ◌^◌, ◌≤◌, ◌<◌, ℤ, pos, ◌+ℤ◌, ◌-ℤ◌, ◌*ℤ◌, ◌<ℤ◌, ◌≤ℤ◌, neg_ℤ, List, []}
use Rattle.std.specs.Prelude.{◌∷◌, length, Some, slice_get, sum, All, map}
use Rattle.whole_numbers.specs.Numbers.{IsIn}
use Rattle.whole_numbers.specs.Sums.{power}
use Rattle.whole_numbers.specs.Bernstein.{at}
use Rattle.whole_numbers.specs.Moments.{Moment}
use Rattle.bezier_core.specs.declared.Bez.{Bez}
use Rattle.bezier_core.specs.Along.{controls}
use Rattle.bezier_core.specs.Part.{part_value}
use Rattle.traj_codec.specs.declared.traj.Traj.{Traj}
use Rattle.traj_codec.specs.Positions.{decoded, durations}
use Rattle.traj_codec.specs.Joined.{IsLasting, SameCurve, joined, own}
use Rattle.fleet_curves.specs.Raised.{CurvesStandFor, Raised, curves_at}
use Rattle.keepout_boxes.specs.declared.region.Region.{Region}
use Rattle.keepout_boxes.specs.declared.region.Region.TheVariants.{Keepout, Volume}
use Rattle.keepout_boxes.specs.declared.judging.Judged.{Judged}
use Rattle.keepout_boxes.specs.declared.judging.Judged.TheVariants.{Kept, Enters}

-- how many regions a text has at most
abbrev pub most_regions : ℕ
most_regions = 64

-- how far the ends of a region lie from the origin at most, in millimetres
abbrev pub farthest : ℕ
farthest = 40000

-- three ends within the limits
pub record AreEnds (ends : List ℤ) : Type 0 where
  pub low : (axis : ℕ) → axis ≤ 2 → (neg_ℤ (pos farthest)) ≤ℤ at ends axis
  pub high : (axis : ℕ) → axis ≤ 2 → at ends axis ≤ℤ pos farthest

-- both ends of the region lie within the limits, on each axis
abbrev pub IsNear : Region → Type 0
IsNear (Keepout low high) = AreEnds low × AreEnds high
IsNear (Volume low high) = AreEnds low × AreEnds high

-- A drone takes 1 to 3,000 millimetres to each side of its curve: the half axis of its ellipsoid, and its stray.
abbrev pub IsExtent : ℕ → Type 0
IsExtent r = (1 ≤ r) × (r ≤ 3000)

-- how much a drone takes on an axis: r on x and y, h on z
abbrev pub extent : ℕ → ℕ → ℕ → ℤ
extent r h axis = at (pos r ∷ pos r ∷ pos h ∷ []) axis

-- ---- one part
-- each of eight control values is below a limit
abbrev pub AllBelow : (ℕ → ℤ) → ℤ → Type 0
AllBelow g limit = (k : ℕ) → k ≤ 7 → g k <ℤ limit

-- each of eight control values is above a limit
abbrev pub AllAbove : (ℕ → ℤ) → ℤ → Type 0
AllAbove g limit = (k : ℕ) → k ≤ 7 → limit <ℤ g k

-- each of eight control values lies between two limits, or at one of them
abbrev pub AllBetween : (ℕ → ℤ) → ℤ → ℤ → Type 0
AllBetween g low high = (k : ℕ) → k ≤ 7 → IsIn low high (g k)

-- A part, whose control values on each axis are g at a scale, is kept: out of a keepout, where on some axis each value
-- is below the lower end less the extent, or on some axis each is above the upper end and the extent; in a volume,
-- where on each axis each value lies from the lower end and the extent to the upper end less the extent.
abbrev pub IsKept : ℕ → ℕ → Region → (ℕ → ℕ → ℤ) → ℤ → Type 0
IsKept r h (Keepout low high) g scale =
    (axis : ℕ) × (axis ≤ 2)
    × (AllBelow (g axis) ((at low axis -ℤ extent r h axis) *ℤ scale)
    ⊎ AllAbove (g axis) ((at high axis +ℤ extent r h axis) *ℤ scale))
IsKept r h (Volume low high) g scale =
    (axis : ℕ) → axis ≤ 2 →
    AllBetween (g axis) ((at low axis +ℤ extent r h axis) *ℤ scale) ((at high axis -ℤ extent r h axis) *ℤ scale)

-- the control values of three curves on an axis, in the part of this depth and index
abbrev pub part_of : List (Bez 8) → ℕ → ℕ → ℕ → ℕ → ℤ
part_of curves depth index axis k = part_value depth index (at (controls curves axis)) k

-- a region, a drone, a cue and the index of a part of the greatest depth
pub record Spot : Type 0 where
  pub region : ℕ
  pub drone : ℕ
  pub cue : ℕ
  pub index : ℕ

-- one of the regions, drones, cues and parts
pub record IsSpot (c : Raised) (regions : List Region) (depth : ℕ) (s : Spot) : Type 0 where
  pub has_region : s.region < length regions
  pub has_drone : s.drone < c.drones
  pub has_cue : s.cue < c.cues
  pub has_part : s.index < 2 ^ depth

-- the part is kept from or in the region
abbrev pub KeptAt : Raised → ℕ → ℕ → ℕ → List Region → Spot → Type 0
KeptAt c r h depth regions s =
    (region : Region) → slice_get regions s.region ≡ Some region →
    IsKept r h region (part_of (curves_at c s.drone s.cue) depth s.index) (pos (5040 * 2 ^ (7 * depth)))

-- the order in which parts are judged: by region, drone, cue and index
abbrev pub IsBefore : Spot → Spot → Type 0
IsBefore s t =
    (s.region < t.region)
    ⊎ ((s.region ≡ t.region) × ((s.drone < t.drone)
    ⊎ ((s.drone ≡ t.drone) × ((s.cue < t.cue) ⊎ ((s.cue ≡ t.cue) × (s.index < t.index))))))

-- the first part that is not kept
pub record IsFirstEntry (c : Raised) (r h depth : ℕ) (regions : List Region) (s : Spot) : Type 0 where
  pub spot : IsSpot c regions depth s
  pub enters : KeptAt c r h depth regions s → ⊥
  pub kept_before : (t : Spot) → IsSpot c regions depth t → IsBefore t s → KeptAt c r h depth regions t

-- What is judged: each part is kept, or the first that is not.
abbrev pub JudgeGives : Raised → ℕ → ℕ → ℕ → List Region → Judged → Type 0
JudgeGives c r h depth regions Kept = (s : Spot) → IsSpot c regions depth s → KeptAt c r h depth regions s
JudgeGives c r h depth regions (Enters region drone cue index) =
    IsFirstEntry c r h depth regions (record { region = region; drone = drone; cue = cue; index = index })

-- ---- what is promised
-- The decoded position at a moment keeps to the region, with the ellipsoid's extents: outside the closed keepout,
-- widened by them; inside the volume, narrowed by them. Positions are numerators over c^7.
abbrev pub KeepsTo : ℕ → ℕ → Region → Traj → Moment → Type 0
KeepsTo r h (Keepout low high) t m =
    (axis : ℕ) × (axis ≤ 2)
    × ((decoded t axis m <ℤ ((at low axis -ℤ extent r h axis) *ℤ power (pos m.c) 7))
    ⊎ (((at high axis +ℤ extent r h axis) *ℤ power (pos m.c) 7) <ℤ decoded t axis m))
KeepsTo r h (Volume low high) t m =
    (axis : ℕ) → axis ≤ 2 →
    IsIn ((at low axis +ℤ extent r h axis) *ℤ power (pos m.c) 7)
    ((at high axis -ℤ extent r h axis) *ℤ power (pos m.c) 7) (decoded t axis m)

-- Each drone keeps to each region at each instant p / q of the show, p and q any whole numbers.
abbrev pub KeepClear : ℕ → ℕ → List Region → List Traj → Type 0
KeepClear r h regions trajs =
    (drone : ℕ) (t : Traj) → slice_get trajs drone ≡ Some t → (p q : ℕ) → 1 ≤ q → p ≤ q * sum (durations t.segments) →
    All (λ region. KeepsTo r h region t (own t p q)) regions

-- For each list of trajectories that the curves stand for, each drone keeps to each region at each instant of the show.
abbrev pub StaysClear : Raised → ℕ → ℕ → List Region → Type 0
StaysClear c r h regions = (trajs : List Traj) → CurvesStandFor c trajs → KeepClear r h regions trajs

-- What keeps to a region by some segments does so by others that make the same curve.
abbrev pub KeepsLaw : Type 0
KeepsLaw =
    (t u : Traj) (r h : ℕ) (region : Region) (p q : ℕ) → 1 ≤ q → IsLasting t → IsLasting u → SameCurve t u →
    KeepsTo r h region t (own t p q) → KeepsTo r h region u (own u p q)

-- Where the trajectories of a show keep clear, they do so with their holds joined.
abbrev pub SentLaw : Type 0
SentLaw =
    (r h : ℕ) (regions : List Region) (trajs : List Traj) → All IsLasting trajs → KeepClear r h regions trajs →
    KeepClear r h regions (map joined trajs)
