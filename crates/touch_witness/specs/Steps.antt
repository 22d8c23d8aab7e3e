-- Words of private steps: where drones are at an instant, and how far apart. No public clause cites them.
use Rattle.std.specs.Prelude.{◌≡◌, ◌⊎◌, ℕ, zero, suc, ◌-◌, ◌*◌, ◌^◌, ◌≤◌, ◌<◌, ℤ, pos, ◌+ℤ◌, ◌-ℤ◌, ◌*ℤ◌, ◌≤ℤ◌, ◌<ℤ◌}
use Rattle.std.specs.Prelude.{List, [], ◌∷◌, length, Some, slice_get, slice_index_or}
use Rattle.whole_numbers.specs.Sums.{power}
use Rattle.whole_numbers.specs.Bernstein.{at, bern}
use Rattle.whole_numbers.specs.Numbers.{IsIn}
use Rattle.bezier_core.specs.Steps.{IsWithin}
use Rattle.traj_codec.specs.declared.traj.Element.{Element}
use Rattle.traj_codec.specs.declared.traj.Segment.{Segment}
use Rattle.traj_codec.specs.declared.traj.Traj.{Traj}
use Rattle.traj_codec.specs.Spelling.{stored}
use Rattle.traj_codec.specs.Positions.{decoded, element_on, value_after}
use Rattle.touch_witness.specs.declared.places.Start.{Start}
use Rattle.touch_witness.specs.declared.places.Point.{Point}
use Rattle.touch_witness.specs.declared.site.Touch.{Touch}
use Rattle.touch_witness.specs.declared.nearest.Pair.{Pair}
use Rattle.touch_witness.specs.declared.nearest.Best.{Best}
use Rattle.sep_parts.specs.declared.slot.Slot.{Slot}
use Rattle.touch_witness.specs.Sites.{IsBefore, IsListed, IsOf, LeftAbove, LeftFrom, LeftIs, left_of, listed, right_of}

-- the value with which the segment of a number begins, of segments that begin with the first value
abbrev pub begin_of : ℕ → ℤ → List Segment → ℕ → ℤ
begin_of axis first segments zero = first
begin_of axis first [] (suc n) = first
begin_of axis first (s ∷ rest) (suc n) = begin_of axis (value_after first (element_on s axis)) rest n

-- the drone has a segment of this number
abbrev pub HasCue : ℕ → Traj → Type 0
HasCue cue t = cue < length t.segments

-- a start is where the drone begins the cue
pub record IsStart (t : Traj) (cue : ℕ) (s : Start) : Type 0 where
  pub x : s.x ≡ begin_of 0 (at t.start 0) t.segments cue
  pub y : s.y ≡ begin_of 1 (at t.start 1) t.segments cue
  pub z : s.z ≡ begin_of 2 (at t.start 2) t.segments cue

abbrev pub no_start : Start
no_start = record { x = pos 0; y = pos 0; z = pos 0 }

-- the starts are those of the drones in the cue
abbrev pub AreStarts : List Traj → ℕ → List Start → Type 0
AreStarts trajs cue starts =
    (k : ℕ) (t : Traj) → slice_get trajs k ≡ Some t → IsStart t cue (slice_index_or starts k no_start)

-- the position in an element that begins with the first value, a numerator over c ^ 7
unfoldable pub position : ℤ → Element → ℤ → ℤ → ℤ
position first e a c = power c (8 - length (first ∷ stored e)) *ℤ bern (first ∷ stored e) a c

-- a point is the decoded position of the drone at the listed instant
pub record IsPlace (t : Traj) (fine cue at : ℕ) (p : Point) : Type 0 where
  pub x : p.x ≡ decoded t 0 (listed fine cue at)
  pub y : p.y ≡ decoded t 1 (listed fine cue at)
  pub z : p.z ≡ decoded t 2 (listed fine cue at)

-- each number is within 2^50
pub record IsShort (p : Point) : Type 0 where
  pub x : IsWithin (pos (2 ^ 50)) p.x
  pub y : IsWithin (pos (2 ^ 50)) p.y
  pub z : IsWithin (pos (2 ^ 50)) p.z

-- how far from the origin a position may be: 32,768 millimetres, as a numerator over c ^ 7, where c is 2^fine
abbrev pub reach : ℕ → ℤ
reach fine = pos ((2 ^ fine) ^ 7) *ℤ pos 32768

pub record IsNear (fine : ℕ) (p : Point) : Type 0 where
  pub x : IsWithin (reach fine) p.x
  pub y : IsWithin (reach fine) p.y
  pub z : IsWithin (reach fine) p.z

abbrev pub no_point : Point
no_point = record { x = pos 0; y = pos 0; z = pos 0 }

-- the points are those of the drones at the listed instant
abbrev pub ArePlaces : List Traj → ℕ → ℕ → ℕ → List Point → Type 0
ArePlaces trajs fine cue at points =
    (k : ℕ) (t : Traj) → slice_get trajs k ≡ Some t → IsPlace t fine cue at (slice_index_or points k no_point)

-- h^2 (dX^2 + dY^2) + r^2 dZ^2 for two points
unfoldable pub left_side : ℕ → ℕ → Point → Point → ℤ
left_side r h p q =
    pos (h * h) *ℤ ((q.x -ℤ p.x) *ℤ (q.x -ℤ p.x) +ℤ (q.y -ℤ p.y) *ℤ (q.y -ℤ p.y))
    +ℤ pos (r * r) *ℤ ((q.z -ℤ p.z) *ℤ (q.z -ℤ p.z))

-- 4 r^2 h^2 c^14, where c is 2^fine
unfoldable pub right_side : ℕ → ℕ → ℕ → ℤ
right_side r h fine = pos (4 * (r * r) * (h * h)) *ℤ power (pos (2 ^ fine)) 14

abbrev pub point_at : List Point → ℕ → Point
point_at points k = slice_index_or points k no_point

-- the ellipsoids around two of the points are disjoint
abbrev pub PairDisjoint : List Point → ℕ → ℕ → ℕ → ℕ → ℕ → Type 0
PairDisjoint points r h fine a b = right_side r h fine <ℤ left_side r h (point_at points a) (point_at points b)

abbrev pub PairTouches : List Point → ℕ → ℕ → ℕ → ℕ → ℕ → Type 0
PairTouches points r h fine a b = left_side r h (point_at points a) (point_at points b) ≤ℤ right_side r h fine

-- ---- the test on the drones
-- the left side of a pair at a listed instant is above the right one
abbrev pub SidesDisjoint : List Traj → ℕ → ℕ → ℕ → Touch → Type 0
SidesDisjoint trajs r h fine s =
    (t u : Traj) → slice_get trajs s.a ≡ Some t → slice_get trajs s.b ≡ Some u →
    right_of r h (listed fine s.cue s.at) <ℤ left_of t u r h (listed fine s.cue s.at)

-- it is not
abbrev pub SidesTouch : List Traj → ℕ → ℕ → ℕ → Touch → Type 0
SidesTouch trajs r h fine s =
    (t u : Traj) → slice_get trajs s.a ≡ Some t → slice_get trajs s.b ≡ Some u →
    left_of t u r h (listed fine s.cue s.at) ≤ℤ right_of r h (listed fine s.cue s.at)

-- it is above at each listed instant
abbrev pub NoneTouch : List Traj → ℕ → ℕ → ℕ → Type 0
NoneTouch trajs r h fine = (s : Touch) → IsListed trajs fine s → SidesDisjoint trajs r h fine s

-- the first listed instant and pair at which it is not
pub record IsFirstSite (trajs : List Traj) (r h fine : ℕ) (s : Touch) : Type 0 where
  pub listed : IsListed trajs fine s
  pub touches : SidesTouch trajs r h fine s
  pub none_before : (u : Touch) → IsListed trajs fine u → IsBefore u s → SidesDisjoint trajs r h fine u

-- ---- what the loops find
-- the pair a, b stands before the pair c, d
abbrev pub PairBefore : ℕ → ℕ → ℕ → ℕ → Type 0
PairBefore a b c d = (a < c) ⊎ ((a ≡ c) × (b < d))

-- the drone a is disjoint from each of the first n drones after it
abbrev pub AllDisjointFrom : List Point → ℕ → ℕ → ℕ → ℕ → ℕ → Type 0
AllDisjointFrom points r h fine a n = (b : ℕ) → b < n → a < b → PairDisjoint points r h fine a b

-- the first drone after a that it touches, among n
pub record IsFirstWith (points : List Point) (r h fine a n b : ℕ) : Type 0 where
  pub order : a < b
  pub inside : b < n
  pub touches : PairTouches points r h fine a b
  pub none_before : AllDisjointFrom points r h fine a b

-- any two of the first n drones are disjoint, the first of them below m
abbrev pub AllDisjoint : List Point → ℕ → ℕ → ℕ → ℕ → ℕ → Type 0
AllDisjoint points r h fine n m = (a : ℕ) → a < m → AllDisjointFrom points r h fine a n

-- the first two of n drones that touch
pub record IsFirstPair (points : List Point) (r h fine n a b : ℕ) : Type 0 where
  pub first : IsFirstWith points r h fine a n b
  pub none_before : AllDisjoint points r h fine n a

-- ---- in a cue
-- drones are apart at each of the first m fractions of a cue
abbrev pub DisjointInCue : List Traj → ℕ → ℕ → ℕ → ℕ → ℕ → Type 0
DisjointInCue trajs r h fine cue m =
    (at : ℕ) → at < m → (a b : ℕ) → a < b → b < length trajs →
    SidesDisjoint trajs r h fine (record { cue = cue; at = at; a = a; b = b })

-- the first fraction and pair of a cue at which two drones touch
pub record IsFirstInCue (trajs : List Traj) (r h fine cue : ℕ) (s : Touch) : Type 0 where
  pub in_cue : s.cue ≡ cue
  pub fraction : s.at ≤ 2 ^ fine
  pub order : s.a < s.b
  pub inside : s.b < length trajs
  pub touches : SidesTouch trajs r h fine s
  pub earlier : DisjointInCue trajs r h fine cue s.at
  pub none_before : (a b : ℕ) → a < b → b < length trajs → PairBefore a b s.a s.b →
      SidesDisjoint trajs r h fine (record { cue = cue; at = s.at; a = a; b = b })

-- ---- the closest
-- how many times the right side a left side may be
abbrev pub most_ratio : ℕ
most_ratio = 12884901888000000

abbrev pub left_at : List Point → ℕ → ℕ → ℕ → ℕ → ℤ
left_at points r h a b = left_side r h (point_at points a) (point_at points b)

-- The least of the pairs of n drones that stand before the pair c, d, and less than each that stands before it.
pub record IsLeastPair (points : List Point) (r h n c d : ℕ) (p : Pair) : Type 0 where
  pub order : p.a < p.b
  pub inside : p.b < n
  pub small : IsIn (pos 0) (pos (2 ^ 126)) p.left
  pub is : p.left ≡ left_at points r h p.a p.b
  pub least : (i j : ℕ) → i < j → j < n → PairBefore i j c d → p.left ≤ℤ left_at points r h i j
  pub first : (i j : ℕ) → i < j → j < n → PairBefore i j p.a p.b → p.left <ℤ left_at points r h i j

-- the pair with the least left side at a fraction of a cue, the first of them
pub record IsNearestAt (trajs : List Traj) (r h fine cue at : ℕ) (s : Best) : Type 0 where
  pub in_cue : s.site.cue ≡ cue
  pub fraction : s.site.at ≡ at
  pub order : s.site.a < s.site.b
  pub inside : s.site.b < length trajs
  pub small : IsIn (pos 0) (pos (2 ^ 126)) s.left
  pub near : s.left ≤ℤ (pos most_ratio *ℤ right_side r h fine)
  pub is : LeftIs trajs r h fine s.site s.left
  pub least : (i j : ℕ) → i < j → j < length trajs →
      LeftFrom trajs r h fine (record { cue = cue; at = at; a = i; b = j }) s.left
  pub first : (i j : ℕ) → i < j → j < length trajs → PairBefore i j s.site.a s.site.b →
      LeftAbove trajs r h fine (record { cue = cue; at = at; a = i; b = j }) s.left

-- The least of the listed instants before a fraction of a cue, and less than each that stands before it.
pub record IsBest (trajs : List Traj) (r h fine cue at : ℕ) (s : Best) : Type 0 where
  pub among : IsListed trajs fine s.site
  pub small : IsIn (pos 0) (pos (2 ^ 126)) s.left
  pub near : s.left ≤ℤ (pos most_ratio *ℤ right_side r h fine)
  pub is : LeftIs trajs r h fine s.site s.left
  pub least : (u : Touch) → IsListed trajs fine u → PairBefore u.cue u.at cue at → LeftFrom trajs r h fine u s.left
  pub first : (u : Touch) → IsListed trajs fine u → IsBefore u s.site → LeftAbove trajs r h fine u s.left

-- ---- the closest of one pair in one cue
-- the left side of the pair of a slot at a fraction of its cue
pub record IsLeftAt (trajs : List Traj) (r h fine : ℕ) (slot : Slot) (at : ℕ) (left : ℤ) : Type 0 where
  pub small : IsIn (pos 0) (pos (2 ^ 126)) left
  pub near : left ≤ℤ (pos most_ratio *ℤ right_side r h fine)
  pub is : (u : Touch) → IsOf slot u → u.at ≡ at → LeftIs trajs r h fine u left

-- The least of the first m fractions of the cue of a slot, and less than each that stands before it.
pub record IsLeastOf (trajs : List Traj) (r h fine : ℕ) (slot : Slot) (m at : ℕ) (left : ℤ) : Type 0 where
  pub fraction : at ≤ 2 ^ fine
  pub here : IsLeftAt trajs r h fine slot at left
  pub least : (u : Touch) → IsOf slot u → u.at < m → LeftFrom trajs r h fine u left
  pub first : (u : Touch) → IsOf slot u → u.at < at → LeftAbove trajs r h fine u left
