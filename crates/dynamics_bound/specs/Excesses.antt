-- What is above a limit first.
use Rattle.std.specs.Prelude.{ℕ, zero, suc, ◌≤◌, nat_lt, pos, Option, Some, None, IfSome, length, if◌then◌else◌}
use Rattle.std.specs.Option.{option_or}
use Rattle.traj_codec.specs.declared.traj.Traj.{Traj}
use Rattle.dynamics_bound.specs.declared.excess.Excess.{Excess}
use Rattle.dynamics_bound.specs.declared.excess.Kind.{Kind}
use Rattle.dynamics_bound.specs.declared.excess.Kind.TheVariants as kind
use Rattle.dynamics_bound.specs.declared.excess.Limits.{Limits}
use Rattle.dynamics_bound.specs.Accelerations.{acceleration, acceleration_in}
use Rattle.dynamics_bound.specs.Edges.{jump}

-- the first axis, of x, y and z, on which a number is above the limit; where there is no limit, none is
abbrev pub above : Kind → Option ℕ → ℕ → (ℕ → ℕ) → Option Excess
above what None segment f = None
above what (Some limit) segment f =
    if nat_lt limit (f 0) then Some (record { kind = what; segment = segment; axis = 0; value = pos (f 0) })
    else if nat_lt limit (f 1) then Some (record { kind = what; segment = segment; axis = 1; value = pos (f 1) })
    else if nat_lt limit (f 2) then Some (record { kind = what; segment = segment; axis = 2; value = pos (f 2) })
    else None

-- the acceleration in a segment is above its limit
abbrev pub sharp_at : Option ℕ → ℕ → Traj → ℕ → Option Excess
sharp_at limit depth t segment = above kind.Acceleration limit segment (λ axis. acceleration_in depth t axis segment)

-- the jump at an edge is above its limit
abbrev pub jumps_at : Option ℕ → Traj → ℕ → Option Excess
jumps_at limit t edge = above kind.Jump limit edge (λ axis. jump t axis edge)

-- The first excess before the edge with this number: in the order of segments, the acceleration before the jump at the
-- beginning of the segment, and of each x before y before z.
abbrev pub excess_before : Limits → ℕ → Traj → ℕ → Option Excess
excess_before limits depth t zero = None
excess_before limits depth t (suc k) =
    option_or (excess_before limits depth t k)
    (option_or (sharp_at limits.acceleration depth t k) (jumps_at limits.jump t k))

-- at the last edge there is a jump, and no segment after it
abbrev pub first_excess : Limits → ℕ → Traj → Option Excess
first_excess limits depth t =
    option_or (excess_before limits depth t (length t.segments)) (jumps_at limits.jump t (length t.segments))

-- no bound on an acceleration, and no jump, is above its limit, if there is one
pub record IsWithinLimits (limits : Limits) (depth : ℕ) (t : Traj) : Type 0 where
  pub acceleration : IfSome limits.acceleration (λ most. (axis : ℕ) → axis ≤ 2 → acceleration depth t axis ≤ most)
  pub jumps : IfSome limits.jump
      (λ most. (axis edge : ℕ) → axis ≤ 2 → edge ≤ length t.segments → jump t axis edge ≤ most)
