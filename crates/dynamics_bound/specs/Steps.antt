-- Words of private steps: how far a walk over the segments has come. No public clause cites them.
use Rattle.std.specs.Prelude.{ℕ, List, [], ◌∷◌}
use Rattle.traj_codec.specs.declared.traj.Traj.{Traj}
use Rattle.speed_bound.specs.Steps.{value_at}
use Rattle.dynamics_bound.specs.declared.jumping.Greatest.{Greatest}
use Rattle.dynamics_bound.specs.declared.walk.Reached.{Reached}
use Rattle.dynamics_bound.specs.declared.walk.Walk.{Walk}
use Rattle.dynamics_bound.specs.Edges.{arrival, greatest_of, jump}

-- where a walk is on an axis at an edge, and the velocity with which it arrives
abbrev pub reached_at : Traj → ℕ → ℕ → Reached
reached_at t axis edge = record { value = value_at t axis edge; arrival = arrival t axis edge }

-- a walk at an edge
abbrev pub walk_at : Traj → ℕ → Walk
walk_at t edge = record { x = reached_at t 0 edge; y = reached_at t 1 edge; z = reached_at t 2 edge }

-- the greatest jumps at the edges before this one
abbrev pub greatest_before : Traj → ℕ → Greatest
greatest_before t edge =
    record { x = greatest_of edge (jump t 0); y = greatest_of edge (jump t 1); z = greatest_of edge (jump t 2) }

-- three numbers on x, y and z
abbrev pub three : {A : Type 0} → (ℕ → A) → List A
three f = f 0 ∷ f 1 ∷ f 2 ∷ []
