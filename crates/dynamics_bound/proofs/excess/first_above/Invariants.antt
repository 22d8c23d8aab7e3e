use Rattle.dynamics_bound.proofs.Prelude.{◌≡◌, None, excess_before, walk_at}
use Rattle.dynamics_bound.proofs.excess.first_above.Given as goal

abbrev pub invariant-loop-k : goal.invariant-loop-k
invariant-loop-k l = record {
  walk : l.walk ≡ walk_at l.t l.k;
  none : excess_before l.limits l.depth l.t l.k ≡ None;
}
