-- The instants and pairs of drones at which touches are sought, their order, and what is found there.
use Rattle.std.specs.Prelude.{◌≡◌, ◌⊎◌, ℕ, ◌+◌, ◌*◌, ◌^◌, ◌≤◌, ◌<◌, ℤ, pos, ◌+ℤ◌, ◌-ℤ◌, ◌*ℤ◌, ◌≤ℤ◌, ◌<ℤ◌, List, length}
use Rattle.std.specs.Prelude.{Some, slice_get, slice_index_or}
use Rattle.whole_numbers.specs.Sums.{power}
use Rattle.whole_numbers.specs.Moments.{Moment, time_before}
use Rattle.traj_codec.specs.declared.traj.Traj.{Traj}
use Rattle.traj_codec.specs.Positions.{decoded, durations}
use Rattle.traj_codec.specs.Joined.{own}
use Rattle.fleet_curves.specs.Raised.{cues_in}
use Rattle.sep_parts.specs.Apart.{gap}
use Rattle.sep_parts.specs.declared.slot.Slot.{Slot}
use Rattle.touch_witness.specs.declared.site.Touch.{Touch}
use Rattle.touch_witness.specs.declared.site.Closest.{Closest}

-- ---- the listed instants
-- A listed instant of the show, the fraction at / 2^fine of a cue from its beginning to its end, and a pair of its
-- drones.
pub record IsListed (trajs : List Traj) (fine : ℕ) (s : Touch) : Type 0 where
  pub cue : s.cue < cues_in trajs
  pub at : s.at ≤ 2 ^ fine
  pub pair : s.a < s.b
  pub drone : s.b < length trajs

-- the order of the listed instants and pairs: by the cue, then by the fraction, then by the first drone, then by the
-- second
abbrev pub IsBefore : Touch → Touch → Type 0
IsBefore s t =
    (s.cue < t.cue)
    ⊎ ((s.cue ≡ t.cue) × ((s.at < t.at) ⊎ ((s.at ≡ t.at) × ((s.a < t.a) ⊎ ((s.a ≡ t.a) × (s.b < t.b))))))

-- The fraction at / q of a cue as an instant of the show: a numerator over q, in milliseconds from the show's
-- beginning.
abbrev pub instant_of : List ℕ → ℕ → ℕ → ℕ → ℕ
instant_of times cue at q = q * time_before times cue + slice_index_or times cue 0 * at

-- ---- touches
-- how far a coordinate over d is from the drone's decoded position on an axis at the instant p / q: a numerator over
-- c^7 d
abbrev pub from_centre : Traj → ℕ → ℕ → ℤ → ℕ → ℕ → ℤ
from_centre t p q x d axis = x *ℤ power (pos (own t p q).c) 7 -ℤ decoded t axis (own t p q) *ℤ pos d

-- the denominator c^7 d of these distances
abbrev pub over : Traj → ℕ → ℕ → ℕ → ℤ
over t p q d = power (pos (own t p q).c) 7 *ℤ pos d

-- A point whose coordinates are numerators over d lies in the closed ellipsoid of half axes r, r, h around the decoded
-- position of the drone at the instant p / q: h^2 (dX^2 + dY^2) + r^2 dZ^2 is at most r^2 h^2, each dX the point's x
-- less the position's.
pub record IsInEllipsoid (t : Traj) (r h p q : ℕ) (x y z : ℤ) (d : ℕ) : Type 0 where
  pub within :
      (pos (h * h)
      *ℤ (from_centre t p q x d 0 *ℤ from_centre t p q x d 0 +ℤ from_centre t p q y d 1 *ℤ from_centre t p q y d 1)
      +ℤ pos (r * r) *ℤ (from_centre t p q z d 2 *ℤ from_centre t p q z d 2))
      ≤ℤ (pos (r * r * (h * h)) *ℤ (over t p q d *ℤ over t p q d))

-- The closed ellipsoids around two drones share a point at the instant p / q: there is a point that lies in both.
pub record SharePoint (t u : Traj) (r h p q : ℕ) : Type 0 where
  pub x : ℤ
  pub y : ℤ
  pub z : ℤ
  pub d : ℕ
  pub some : 1 ≤ d
  pub in_first : IsInEllipsoid t r h p q x y z d
  pub in_second : IsInEllipsoid u r h p q x y z d

-- The closed ellipsoids of half axes r, r, h around the decoded positions of two drones share no point at the instant p
-- / q, however little is between them: h^2 (dX^2 + dY^2) + r^2 dZ^2 is above 4 r^2 h^2 (c1 c2)^14, where dX, dY and dZ
-- are the gaps. `AreApart`, which accepted shows keep, asks for a margin as well.
pub record AreDisjoint (t u : Traj) (r h p q : ℕ) : Type 0 where
  pub above :
      (pos (4 * (r * r) * (h * h)) *ℤ power (pos (own t p q).c *ℤ pos (own u p q).c) 14)
      <ℤ (pos (h * h) *ℤ (gap t u p q 0 *ℤ gap t u p q 0 +ℤ gap t u p q 1 *ℤ gap t u p q 1)
      +ℤ pos (r * r) *ℤ (gap t u p q 2 *ℤ gap t u p q 2))

-- the two drones' closed ellipsoids share no point at the instant
abbrev pub DisjointAt : List Traj → ℕ → ℕ → ℕ → Touch → Type 0
DisjointAt trajs r h fine s =
    (t u : Traj) → slice_get trajs s.a ≡ Some t → slice_get trajs s.b ≡ Some u →
    AreDisjoint t u r h (instant_of (durations t.segments) s.cue s.at (2 ^ fine)) (2 ^ fine)

-- the two drones touch at the instant: their closed ellipsoids are not disjoint, and a point lies in both
abbrev pub TouchAt : List Traj → ℕ → ℕ → ℕ → Touch → Type 0
TouchAt trajs r h fine s =
    (t u : Traj) → slice_get trajs s.a ≡ Some t → slice_get trajs s.b ≡ Some u →
    (AreDisjoint t u r h (instant_of (durations t.segments) s.cue s.at (2 ^ fine)) (2 ^ fine) → ⊥)
    × SharePoint t u r h (instant_of (durations t.segments) s.cue s.at (2 ^ fine)) (2 ^ fine)

-- the first of the listed instants and pairs at which two drones touch
pub record IsFirstTouch (trajs : List Traj) (r h fine : ℕ) (s : Touch) : Type 0 where
  pub listed : IsListed trajs fine s
  pub touches : TouchAt trajs r h fine s
  pub none_before : (u : Touch) → IsListed trajs fine u → IsBefore u s → DisjointAt trajs r h fine u

-- any two drones' closed ellipsoids are disjoint at each listed instant
abbrev pub NoTouch : List Traj → ℕ → ℕ → ℕ → Type 0
NoTouch trajs r h fine = (s : Touch) → IsListed trajs fine s → DisjointAt trajs r h fine s

-- ---- the closest
-- the fraction at / 2^fine of a cue
abbrev pub listed : ℕ → ℕ → ℕ → Moment
listed fine cue at = record { cue = cue; a = at; c = 2 ^ fine }

-- how far the second drone's decoded position is from the first one's on an axis: a numerator over c^7, in millimetres
abbrev pub gap_at : Traj → Traj → Moment → ℕ → ℤ
gap_at t u m axis = decoded u axis m -ℤ decoded t axis m

-- The left side of the test for touches, h^2 (dX^2 + dY^2) + r^2 dZ^2, of two drones at a fraction of a cue that both
-- have.
abbrev pub left_of : Traj → Traj → ℕ → ℕ → Moment → ℤ
left_of t u r h m =
    pos (h * h) *ℤ (gap_at t u m 0 *ℤ gap_at t u m 0 +ℤ gap_at t u m 1 *ℤ gap_at t u m 1)
    +ℤ pos (r * r) *ℤ (gap_at t u m 2 *ℤ gap_at t u m 2)

-- The right side, 4 r^2 h^2 c^14: two drones touch at a listed instant exactly where the left side is not above it.
abbrev pub right_of : ℕ → ℕ → Moment → ℤ
right_of r h m = pos (4 * (r * r) * (h * h)) *ℤ power (pos m.c) 14

-- the left side of the pair at the instant is x
abbrev pub LeftIs : List Traj → ℕ → ℕ → ℕ → Touch → ℤ → Type 0
LeftIs trajs r h fine s x =
    (t u : Traj) → slice_get trajs s.a ≡ Some t → slice_get trajs s.b ≡ Some u →
    x ≡ left_of t u r h (listed fine s.cue s.at)

-- the left side of the pair at the instant is not below x
abbrev pub LeftFrom : List Traj → ℕ → ℕ → ℕ → Touch → ℤ → Type 0
LeftFrom trajs r h fine s x =
    (t u : Traj) → slice_get trajs s.a ≡ Some t → slice_get trajs s.b ≡ Some u →
    x ≤ℤ left_of t u r h (listed fine s.cue s.at)

-- the left side of the pair at the instant is above x
abbrev pub LeftAbove : List Traj → ℕ → ℕ → ℕ → Touch → ℤ → Type 0
LeftAbove trajs r h fine s x =
    (t u : Traj) → slice_get trajs s.a ≡ Some t → slice_get trajs s.b ≡ Some u →
    x <ℤ left_of t u r h (listed fine s.cue s.at)

-- the instant and the pair that a closest one names
abbrev pub site_of : Closest → Touch
site_of c = record { cue = c.cue; at = c.at; a = c.a; b = c.b }

-- The listed instant and pair with the least left side, the first of them by the order; the level is the floor of 1,000
-- times the left side over the right side.
pub record IsClosest (trajs : List Traj) (r h fine : ℕ) (c : Closest) : Type 0 where
  pub left : ℤ
  pub among : IsListed trajs fine (site_of c)
  pub is : LeftIs trajs r h fine (site_of c) left
  pub least : (u : Touch) → IsListed trajs fine u → LeftFrom trajs r h fine u left
  pub first : (u : Touch) → IsListed trajs fine u → IsBefore u (site_of c) → LeftAbove trajs r h fine u left
  pub level : (pos c.level *ℤ right_of r h (listed fine c.cue c.at)) ≤ℤ (pos 1000 *ℤ left)
  pub next_level : (pos 1000 *ℤ left) <ℤ (pos (c.level + 1) *ℤ right_of r h (listed fine c.cue c.at))

-- ---- the closest of one pair in one cue
-- the instant and the pair are of this pair and this cue
pub record IsOf (slot : Slot) (s : Touch) : Type 0 where
  pub a : s.a ≡ slot.a
  pub b : s.b ≡ slot.b
  pub cue : s.cue ≡ slot.cue

-- The listed instant of the cue of a slot at which the left side of its pair is least, the first of them; the level is
-- as of the closest of all.
pub record IsClosestIn (trajs : List Traj) (r h fine : ℕ) (slot : Slot) (c : Closest) : Type 0 where
  pub left : ℤ
  pub among : IsListed trajs fine (site_of c)
  pub of_slot : IsOf slot (site_of c)
  pub is : LeftIs trajs r h fine (site_of c) left
  pub least : (u : Touch) → IsListed trajs fine u → IsOf slot u → LeftFrom trajs r h fine u left
  pub first : (u : Touch) → IsListed trajs fine u → IsOf slot u → IsBefore u (site_of c) →
      LeftAbove trajs r h fine u left
  pub level : (pos c.level *ℤ right_of r h (listed fine c.cue c.at)) ≤ℤ (pos 1000 *ℤ left)
  pub next_level : (pos 1000 *ℤ left) <ℤ (pos (c.level + 1) *ℤ right_of r h (listed fine c.cue c.at))
