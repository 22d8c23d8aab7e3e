use Rattle.dynamics_bound.proofs.Prelude.{◌≡◌, walk_at}
use Rattle.dynamics_bound.proofs.jumping.rests.Given as goal

abbrev pub invariant-loop-k : goal.invariant-loop-k
invariant-loop-k l = l.walk ≡ walk_at l.t l.k
