-- Drones that are apart, said without a margin: what a valid certificate promises by any table of directions.
use Rattle.std.specs.Prelude.{◌≡◌, ℕ, ◌*◌, ◌≤◌, pos, ◌+ℤ◌, ◌*ℤ◌, ◌<ℤ◌, List, Some, slice_get, sum}
use Rattle.traj_codec.specs.declared.traj.Traj.{Traj}
use Rattle.traj_codec.specs.Positions.{durations}
use Rattle.fleet_curves.specs.Raised.{CurvesStandFor, Raised}
use Rattle.sep_parts.specs.declared.clearance.Clearance.{Clearance}
use Rattle.sep_parts.specs.Apart.{AreTogether, KeepReach, MayBeAt, Point, between, square}

-- The closed ellipsoids of half axes r, r, h around two points share no point: h^2 (dX^2 + dY^2) + r^2 dZ^2 is above 4
-- r^2 h^2, where dX, dY and dZ are how far the points are from one another, and both sides are multiplied by the
-- squares of the denominators.
pub record AreEllipsoidsDisjoint (r h : ℕ) (first second : Point) : Type 0 where
  pub disjoint :
      (pos (4 * (r * r) * (h * h)) *ℤ square (pos first.over *ℤ pos second.over))
      <ℤ (pos (h * h) *ℤ (square (between first second 0) +ℤ square (between first second 1))
      +ℤ pos (r * r) *ℤ square (between first second 2))

-- The ellipsoids around any two different drones share no point, whatever points these may be at, at whatever instants
-- of the show that are at most `late` ms apart: what `FlyApart` says, without its margin.
abbrev pub FlyDisjoint : (r h stray late : ℕ) → List Traj → Type 0
FlyDisjoint r h stray late trajs =
    (a b : ℕ) (t u : Traj) → (a ≡ b → ⊥) → slice_get trajs a ≡ Some t → slice_get trajs b ≡ Some u →
    (p q s w : ℕ) → 1 ≤ q → 1 ≤ w → p ≤ q * sum (durations t.segments) → s ≤ w * sum (durations u.segments) →
    AreTogether late p q s w →
    (first second : Point) → MayBeAt stray t p q first → MayBeAt stray u s w second →
    AreEllipsoidsDisjoint r h first second

-- For each list of trajectories that the curves stand for, and that move within the reach, the ellipsoids around any
-- two different drones are disjoint.
abbrev pub KeepsDisjoint : Raised → Clearance → Type 0
KeepsDisjoint curves c = (trajs : List Traj) → CurvesStandFor curves trajs → KeepReach c trajs →
    FlyDisjoint c.r c.h c.stray c.late trajs
