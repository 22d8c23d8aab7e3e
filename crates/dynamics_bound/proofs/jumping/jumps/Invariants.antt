use Rattle.dynamics_bound.proofs.Prelude.{◌≡◌, greatest_before, walk_at}
use Rattle.dynamics_bound.proofs.jumping.jumps.Given as goal

abbrev pub invariant-loop-k : goal.invariant-loop-k
invariant-loop-k l = record {
  walk : l.walk ≡ walk_at l.t l.k;
  most : l.most ≡ greatest_before l.t l.k;
}
