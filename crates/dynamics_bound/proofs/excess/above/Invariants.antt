use Rattle.dynamics_bound.proofs.Prelude.{ℕ, ◌<◌, ◌≤◌, get_or}
use Rattle.dynamics_bound.proofs.excess.above.Given as goal

abbrev pub invariant-loop-axis : goal.invariant-loop-axis
invariant-loop-axis l = (i : ℕ) → i < l.axis → get_or l.values i 0 ≤ l.most
