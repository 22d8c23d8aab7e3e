-- How far trajectories move at most while one drone is late against another.
use Rattle.std.specs.Prelude.{ℕ, ◌*◌, ◌≤◌, min, List, [], length, slice_index_or, All}
use Rattle.std.specs.Int.{div_ceil}
use Rattle.traj_codec.specs.declared.traj.Traj.{Traj}
use Rattle.traj_codec.specs.Spelling.{HasDuration, IsTrajectory}
use Rattle.sep_parts.specs.Apart.{FlyApart, FlyApartExactly, MovesWithin}
use Rattle.speed_bound.specs.Speed.{greatest_below, speed}

-- no two positions are farther apart on an axis, in millimetres
abbrev pub farthest : ℕ
farthest = 65536

-- How many millimetres a trajectory moves on an axis in so many milliseconds at most: the bound on its speed by its
-- parts of a depth, times the time, rounded up.
unfoldable pub reach : ℕ → ℕ → Traj → ℕ → ℕ
reach depth late t axis = min farthest (div_ceil (late * speed depth t axis) 1000000)

-- the trajectory of a drone
abbrev pub traj_at : List Traj → ℕ → Traj
traj_at trajs drone = slice_index_or trajs drone (record { start = []; segments = [] })

-- the greatest over all of these trajectories
unfoldable pub reach_of : ℕ → ℕ → List Traj → ℕ → ℕ
reach_of depth late trajs axis = greatest_below (length trajs) (λ drone. reach depth late (traj_at trajs drone) axis)

-- a trajectory of some segments, each of which lasts some time
pub record IsMoving (t : Traj) : Type 0 where
  pub formed : IsTrajectory t
  pub some : 1 ≤ length t.segments
  pub durations : All HasDuration t.segments

-- Each of these trajectories moves on each axis by at most the reach of all, between any two instants that are at most
-- so far apart.
abbrev pub ReachLaw : Type 0
ReachLaw =
    (depth late : ℕ) (trajs : List Traj) → All IsMoving trajs →
    All (λ t. (axis : ℕ) → axis ≤ 2 → MovesWithin late (reach_of depth late trajs axis) t axis) trajs

-- Where nobody strays or is late, trajectories that fly apart exactly fly apart.
abbrev pub StillLaw : Type 0
StillLaw = (r h : ℕ) (trajs : List Traj) → All IsMoving trajs → FlyApartExactly r h trajs → FlyApart r h 0 0 trajs
