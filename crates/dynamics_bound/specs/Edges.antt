-- How fast a drone is at the two ends of a segment, and how much its velocity jumps at each edge.
use Rattle.std.specs.Prelude.{◌≡◌, ℕ, zero, suc, ◌-◌, ◌*◌, ◌≤◌, ◌<◌, Bool, nat_lt, nat_eq, ◌&&◌, ℤ, pos, ◌-ℤ◌, ◌*ℤ◌}
use Rattle.std.specs.Prelude.{unsigned_abs, List, length, if◌then◌else◌}
use Rattle.std.specs.Int.{div_ceil}
use Rattle.whole_numbers.specs.Sums.{power}
use Rattle.whole_numbers.specs.Bernstein.{at}
use Rattle.bezier_core.specs.Steps.{IsWithin}
use Rattle.traj_codec.specs.declared.traj.Traj.{Traj}
use Rattle.traj_codec.specs.Positions.{points}
use Rattle.speed_bound.specs.Speed.{duration, greatest_below}
use Rattle.dynamics_bound.specs.declared.velocity.Velocity.{Velocity}
use Rattle.dynamics_bound.specs.declared.jumping.Jump.{Jump}
use Rattle.dynamics_bound.specs.Accelerations.{acceleration, after}

-- The degree times the first step between control values, and times the last: over the duration it is the velocity at
-- the beginning, and at the end. Degree 0 stays: its step is past the end of the list, times 0.
abbrev pub first_step : List ℤ → ℤ
first_step b = pos (length b - 1) *ℤ (at b 1 -ℤ at b 0)

abbrev pub last_step : List ℤ → ℤ
last_step b = pos (length b - 1) *ℤ (at b (length b - 1) -ℤ at b (length b - 2))

-- on an axis, the velocity with which a segment begins, and that with which it ends
abbrev pub first_velocity : Traj → ℕ → ℕ → Velocity
first_velocity t axis cue = record { step = first_step (points t cue axis); ms = duration t cue }

abbrev pub last_velocity : Traj → ℕ → ℕ → Velocity
last_velocity t axis cue = record { step = last_step (points t cue axis); ms = duration t cue }

abbrev pub rest : Velocity
rest = record { step = pos 0; ms = 1 }

-- ---- edges

-- Edge k is the beginning of segment k, from 0, and the last edge is the end of the last segment. A
-- trajectory arrives at its first edge from rest, and departs from its last one to rest.
abbrev pub arrival : Traj → ℕ → ℕ → Velocity
arrival t axis zero = rest
arrival t axis (suc cue) = last_velocity t axis cue

abbrev pub departure : Traj → ℕ → ℕ → Velocity
departure t axis edge = if nat_lt edge (length t.segments) then first_velocity t axis edge else rest

-- how much two velocities differ, in micrometres per second, rounded up: one millimetre per millisecond is 10^6 of
-- these
unfoldable pub jump_between : Velocity → Velocity → ℕ
jump_between v w = div_ceil (1000000 * unsigned_abs (w.step *ℤ pos v.ms -ℤ v.step *ℤ pos w.ms)) (v.ms * w.ms)

-- how much the velocity on an axis jumps at an edge
unfoldable pub jump : Traj → ℕ → ℕ → ℕ
jump t axis edge = jump_between (arrival t axis edge) (departure t axis edge)

-- two velocities are the same, as fractions
abbrev pub AreSame : Velocity → Velocity → Type 0
AreSame v w = w.step *ℤ pos v.ms ≡ v.step *ℤ pos w.ms

-- ---- the greatest jump
-- the first k below n at which f k is greatest, and 0 where each is 0
abbrev pub first_greatest : ℕ → (ℕ → ℕ) → ℕ
first_greatest zero f = 0
first_greatest (suc n) f = if nat_lt (greatest_below n f) (f n) then n else first_greatest n f

abbrev pub greatest_of : ℕ → (ℕ → ℕ) → Jump
greatest_of n f = record { speed = pos (greatest_below n f); segment = first_greatest n f }

-- the greatest jump on an axis over all edges, and the first edge at which it is
abbrev pub greatest_jump : Traj → ℕ → Jump
greatest_jump t axis = greatest_of (suc (length t.segments)) (jump t axis)

-- It is the jump at its edge, none is greater, and each before it is less, unless none jumps.
pub record IsGreatestJump (t : Traj) (axis : ℕ) (j : Jump) : Type 0 where
  pub inside : j.segment ≤ length t.segments
  pub here : j.speed ≡ pos (jump t axis j.segment)
  pub most : (edge : ℕ) → edge ≤ length t.segments → jump t axis edge ≤ jump t axis j.segment
  pub first : (edge : ℕ) → edge < j.segment → jump t axis edge < jump t axis j.segment

-- on x, y and z the velocity doesn't jump at this edge: at the first and at the last one the trajectory is at rest
abbrev pub is_rest_at : Traj → ℕ → Bool
is_rest_at t edge = nat_eq (jump t 0 edge) 0 && nat_eq (jump t 1 edge) 0 && nat_eq (jump t 2 edge) 0

-- ---- what the velocities promise

-- They are the velocities: x / q milliseconds after a segment began, or before it
-- ends, the position departs from the line with that velocity by at most half the acceleration times the square of the
-- time. Both sides are multiplied by 2 10^9 q^2 (q ms)^7.
pub record KeepsTangents (t : Traj) (axis a cue q x : ℕ) : Type 0 where
  pub first : IsWithin ((pos a *ℤ (pos x *ℤ pos x)) *ℤ power (pos (q * duration t cue)) 7)
      (pos (2000000000 * (q * q)) *ℤ
      ((after t axis cue q x -ℤ after t axis cue q 0)
      -ℤ pos x *ℤ (first_step (points t cue axis) *ℤ power (pos (q * duration t cue)) 6)))
  pub last : IsWithin ((pos a *ℤ (pos x *ℤ pos x)) *ℤ power (pos (q * duration t cue)) 7)
      (pos (2000000000 * (q * q)) *ℤ
      ((after t axis cue q (q * duration t cue) -ℤ after t axis cue q (q * duration t cue - x))
      -ℤ pos x *ℤ (last_step (points t cue axis) *ℤ power (pos (q * duration t cue)) 6)))

-- on an axis a trajectory keeps to them in each of its segments, with its bound on acceleration by parts of any depth
abbrev pub HasVelocities : Traj → ℕ → Type 0
HasVelocities t axis =
    (depth cue q x : ℕ) → cue < length t.segments → x ≤ q * duration t cue →
    KeepsTangents t axis (acceleration depth t axis) cue q x
