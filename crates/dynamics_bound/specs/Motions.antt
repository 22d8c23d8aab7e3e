-- What is found of a trajectory: its bounds on acceleration, its greatest jumps with the cues at whose beginnings they
-- are, and whether it rests at its ends.
use Rattle.std.specs.Prelude.{ℕ, zero, suc, ◌+◌, ◌-◌, ◌≤◌, max, List, [], ◌∷◌, length, map, take, sum}
use Rattle.traj_codec.specs.declared.traj.Traj.{Traj}
use Rattle.traj_codec.specs.Positions.{durations}
use Rattle.speed_bound.specs.Speed.{greatest_below}
use Rattle.dynamics_bound.specs.declared.excess.Limits.{Limits}
use Rattle.dynamics_bound.specs.declared.motion.Axes.{Axes}
use Rattle.dynamics_bound.specs.declared.motion.Extremes.{Extremes}
use Rattle.dynamics_bound.specs.declared.motion.Motion.{Motion}
use Rattle.dynamics_bound.specs.Accelerations.{KeepsAcceleration, acceleration}
use Rattle.dynamics_bound.specs.Edges.{HasVelocities, IsGreatestJump, greatest_jump, is_rest_at, jump}
use Rattle.dynamics_bound.specs.Excesses.{IsWithinLimits}

-- ---- cues

-- when the segment with this number begins, in milliseconds after the trajectory does; after the last one, when the
-- trajectory ends
abbrev pub begins_at : Traj → ℕ → ℕ
begins_at t segment = sum (durations (take segment t.segments))

-- how many cues, which last so long, begin before an instant, in milliseconds: the number, from 0, of the cue that
-- begins then
abbrev pub cue_from : ℕ → List ℕ → ℕ
cue_from zero times = 0
cue_from (suc m) [] = 0
cue_from (suc m) (ms ∷ times) = suc (cue_from (suc m - ms) times)

-- the number, from 0, of the cue that begins with a segment; the last instant is the beginning of the cue after the
-- last one
abbrev pub cue_of : List ℕ → Traj → ℕ → ℕ
cue_of times t segment = cue_from (begins_at t segment) times

-- ---- what is found of a trajectory

abbrev pub axes : (ℕ → ℕ) → Axes
axes f = record { x = f 0; y = f 1; z = f 2 }

-- how much the velocity jumps at most on an axis, in micrometres per second
abbrev pub widest_jump : Traj → ℕ → ℕ
widest_jump t axis = greatest_below (suc (length t.segments)) (jump t axis)

-- the bounds on its acceleration, and its greatest jumps
abbrev pub extremes : ℕ → Traj → Extremes
extremes depth t = record { accelerations = axes (acceleration depth t); jumps = axes (widest_jump t) }

-- these, the cues of the greatest jumps, which count from 1, and whether it rests at its first and at its last instant
abbrev pub motion : ℕ → List ℕ → Traj → Motion
motion depth times t = record {
  most = extremes depth t;
  cues = axes (λ (axis : ℕ). cue_of times t (greatest_jump t axis).segment + 1);
  begins_at_rest = is_rest_at t 0;
  ends_at_rest = is_rest_at t (length t.segments);
}

-- Within each of its segments a drone's mean speed changes on each axis by at most its bound on acceleration times half
-- the time; the speeds at the ends of segments are those from which its jumps are computed, and none is greater than
-- the greatest; and no bound and no jump is above its limit, if there is one.
pub record KeepsMotion (limits : Limits) (depth : ℕ) (t : Traj) : Type 0 where
  pub accelerations : (axis : ℕ) → axis ≤ 2 → KeepsAcceleration t axis (acceleration depth t axis)
  pub velocities : (axis : ℕ) → axis ≤ 2 → HasVelocities t axis
  pub jumps : (axis : ℕ) → IsGreatestJump t axis (greatest_jump t axis)
  pub within : IsWithinLimits limits depth t

-- ---- of several

-- the greatest of some numbers, and 0 where there are none
abbrev pub greatest : List ℕ → ℕ
greatest [] = 0
greatest (n ∷ ns) = max n (greatest ns)

-- on each axis the greatest of several trajectories
abbrev pub extremes_of : ℕ → List Traj → Extremes
extremes_of depth ts = record {
  accelerations = axes (λ (axis : ℕ). greatest (map (λ (t : Traj). acceleration depth t axis) ts));
  jumps = axes (λ (axis : ℕ). greatest (map (λ (t : Traj). widest_jump t axis) ts));
}

-- on each axis the greater of two numbers
abbrev pub greater_axes : Axes → Axes → Axes
greater_axes a b = record { x = max a.x b.x; y = max a.y b.y; z = max a.z b.z }

-- the same of two trajectories
abbrev pub greater : Extremes → Extremes → Extremes
greater a b =
    record { accelerations = greater_axes a.accelerations b.accelerations; jumps = greater_axes a.jumps b.jumps }

-- the extremes of none
abbrev pub nothing : Extremes
nothing = record { accelerations = record { x = 0; y = 0; z = 0 }; jumps = record { x = 0; y = 0; z = 0 } }
