-- When two drones are apart, and when a whole show is. Drones stray from their curves, and one is later than the other:
-- so a show is apart where drones are at whatever points they may be at, each near to where its curve puts it, at
-- instants that are near to one another.
use Rattle.std.specs.Prelude.{◌≡◌, ℕ, ◌+◌, ◌*◌, ◌≤◌, ℤ, pos, neg_ℤ, ◌+ℤ◌, ◌-ℤ◌, ◌*ℤ◌, ◌≤ℤ◌, List, Some, slice_get, sum}
use Rattle.std.specs.Prelude.{All, map}
use Rattle.whole_numbers.specs.Sums.{power}
use Rattle.whole_numbers.specs.Numbers.{IsIn}
use Rattle.traj_codec.specs.declared.traj.Traj.{Traj}
use Rattle.traj_codec.specs.Positions.{decoded, durations}
use Rattle.traj_codec.specs.Joined.{own, SameCurve, IsLasting, joined}
use Rattle.fleet_curves.specs.Raised.{Raised, CurvesStandFor}
use Rattle.sep_parts.specs.declared.clearance.Clearance.{Clearance}
use Rattle.sep_parts.specs.Directions.{reach_on}

-- ---- where drones may be
-- a point of space: on each axis a number of millimetres, as a numerator over one denominator
pub record Point : Type 0 where
  pub on : ℕ → ℤ
  pub over : ℕ

abbrev pub square : ℤ → ℤ
square x = x *ℤ x

-- How far on an axis a point is from where the trajectory puts its drone at the instant p / q, by the trajectory's own
-- segment: a numerator over both denominators, the c^7 of the position and the point's.
abbrev pub aside : Traj → ℕ → ℕ → Point → ℕ → ℤ
aside t p q point axis = point.on axis *ℤ power (pos (own t p q).c) 7 -ℤ decoded t axis (own t p q) *ℤ pos point.over

-- At the instant p / q of its trajectory a drone may be at a point: this is at most `stray` mm from where the
-- trajectory puts the drone.
pub record MayBeAt (stray : ℕ) (t : Traj) (p q : ℕ) (point : Point) : Type 0 where
  pub some : 1 ≤ point.over
  pub near :
      (square (aside t p q point 0) +ℤ square (aside t p q point 1) +ℤ square (aside t p q point 2))
      ≤ℤ square (pos stray *ℤ (power (pos (own t p q).c) 7 *ℤ pos point.over))

-- The instants p / q and s / w are at most `late` milliseconds apart.
pub record AreTogether (late p q s w : ℕ) : Type 0 where
  pub before : p * w ≤ s * q + late * (q * w)
  pub after : s * q ≤ p * w + late * (q * w)

-- how far the second point is from the first one on an axis: a numerator over both denominators
abbrev pub between : Point → Point → ℕ → ℤ
between first second axis = second.on axis *ℤ pos first.over -ℤ first.on axis *ℤ pos second.over

-- The closed ellipsoids of half axes r, r, h around two points share no point, with a margin: 12 h^2 (dX^2 + dY^2) + 12
-- r^2 dZ^2 is at least 48 r^2 h^2 + 1, where dX, dY and dZ are how far the points are from one another, and both sides
-- are multiplied by the squares of the denominators. They share no point exactly where h^2 (dX^2 + dY^2) + r^2 dZ^2 is
-- above 4 r^2 h^2. The margin makes an inequality of it that limits keep: what it says of all instants and points that
-- are fractions, it says of all real ones.
pub record ShareNoPoint (r h : ℕ) (first second : Point) : Type 0 where
  pub apart :
      (pos (48 * (r * r) * (h * h) + 1) *ℤ square (pos first.over *ℤ pos second.over))
      ≤ℤ (pos (12 * (h * h)) *ℤ (square (between first second 0) +ℤ square (between first second 1))
      +ℤ pos (12 * (r * r)) *ℤ square (between first second 2))

-- The ellipsoids around any two different drones share no point, whatever points these may be at, at whatever instants
-- of the show that are at most `late` ms apart.
abbrev pub FlyApart : (r h stray late : ℕ) → List Traj → Type 0
FlyApart r h stray late trajs =
    (a b : ℕ) (t u : Traj) → (a ≡ b → ⊥) → slice_get trajs a ≡ Some t → slice_get trajs b ≡ Some u →
    (p q s w : ℕ) → 1 ≤ q → 1 ≤ w → p ≤ q * sum (durations t.segments) → s ≤ w * sum (durations u.segments) →
    AreTogether late p q s w →
    (first second : Point) → MayBeAt stray t p q first → MayBeAt stray u s w second → ShareNoPoint r h first second

-- ---- drones that are where their curves put them, at one instant how far the second drone's decoded position is from
-- the first one's on an axis at an instant: a numerator over (c1 c2)^7, in millimetres, where each is a numerator over
-- its own c^7
abbrev pub gap : Traj → Traj → ℕ → ℕ → ℕ → ℤ
gap t u p q axis =
    decoded u axis (own u p q) *ℤ power (pos (own t p q).c) 7
    -ℤ decoded t axis (own t p q) *ℤ power (pos (own u p q).c) 7

-- The closed ellipsoids of half axes r, r, h around the decoded positions of two drones share no point at the instant p
-- / q, with the same margin: 12 h^2 (dX^2 + dY^2) + 12 r^2 dZ^2 is at least (48 r^2 h^2 + 1) (c1 c2)^14, where dX, dY
-- and dZ are the gaps.
pub record AreApart (t u : Traj) (r h p q : ℕ) : Type 0 where
  pub apart :
      (pos (48 * (r * r) * (h * h) + 1) *ℤ power (pos (own t p q).c *ℤ pos (own u p q).c) 14)
      ≤ℤ (pos (12 * (h * h)) *ℤ (gap t u p q 0 *ℤ gap t u p q 0 +ℤ gap t u p q 1 *ℤ gap t u p q 1)
      +ℤ pos (12 * (r * r)) *ℤ (gap t u p q 2 *ℤ gap t u p q 2))

-- Any two different drones are apart at each instant p / q of the show.
abbrev pub FlyApartExactly : (r h : ℕ) → List Traj → Type 0
FlyApartExactly r h trajs =
    (a b : ℕ) (t u : Traj) → (a ≡ b → ⊥) → slice_get trajs a ≡ Some t → slice_get trajs b ≡ Some u →
    (p q : ℕ) → 1 ≤ q → p ≤ q * sum (durations t.segments) → p ≤ q * sum (durations u.segments) → AreApart t u r h p q

-- ---- how far a drone moves while it is late
-- how far on an axis the trajectory's position at the instant s / w is from that at p / q: a numerator over both c^7
abbrev pub way : Traj → ℕ → ℕ → ℕ → ℕ → ℕ → ℤ
way t axis p q s w =
    decoded t axis (own t s w) *ℤ power (pos (own t p q).c) 7
    -ℤ decoded t axis (own t p q) *ℤ power (pos (own t s w).c) 7

-- Between any two of its instants that are at most `late` ms apart, the trajectory moves on an axis by at most `reach`
-- mm.
abbrev pub MovesWithin : (late reach : ℕ) → Traj → ℕ → Type 0
MovesWithin late reach t axis =
    (p q s w : ℕ) → 1 ≤ q → 1 ≤ w → p ≤ q * sum (durations t.segments) → s ≤ w * sum (durations t.segments) →
    AreTogether late p q s w →
    IsIn (neg_ℤ (pos reach *ℤ (power (pos (own t p q).c) 7 *ℤ power (pos (own t s w).c) 7)))
    (pos reach *ℤ (power (pos (own t p q).c) 7 *ℤ power (pos (own t s w).c) 7)) (way t axis p q s w)

-- Each trajectory moves within the reach of its axes.
abbrev pub KeepReach : Clearance → List Traj → Type 0
KeepReach c trajs = All (λ t. (axis : ℕ) → axis ≤ 2 → MovesWithin c.late (reach_on c axis) t axis) trajs

-- For each list of trajectories that the curves stand for, and that move within the reach, any two different drones fly
-- apart.
abbrev pub KeepsApart : Raised → Clearance → Type 0
KeepsApart curves c = (trajs : List Traj) → CurvesStandFor curves trajs → KeepReach c trajs →
    FlyApart c.r c.h c.stray c.late trajs

-- ---- laws
-- What is apart by some segments is apart by others of the same two curves.
abbrev pub ApartLaw : Type 0
ApartLaw = (t u other_t other_u : Traj) (r h p q : ℕ) → 1 ≤ q → IsLasting t → IsLasting u → IsLasting other_t →
    IsLasting other_u →
    SameCurve t other_t → SameCurve u other_u → AreApart t u r h p q → AreApart other_t other_u r h p q

-- Where the trajectories of a show fly apart, they do so with their holds joined.
abbrev pub SentLaw : Type 0
SentLaw = (r h stray late : ℕ) (trajs : List Traj) → All IsLasting trajs → FlyApart r h stray late trajs →
    FlyApart r h stray late (map joined trajs)

-- What flies apart while it strays and is late flies apart exactly.
pub record ExactLaw : Type 0 where
  pub exact : (r h stray late : ℕ) (trajs : List Traj) → All IsLasting trajs → FlyApart r h stray late trajs →
      FlyApartExactly r h trajs
