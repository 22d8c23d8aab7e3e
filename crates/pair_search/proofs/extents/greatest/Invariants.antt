use Rattle.pair_search.proofs.Prelude.{ℕ, ◌<◌, ◌^◌, ◌≤ℤ◌, at, IsBelow}
use Rattle.pair_search.proofs.extents.greatest.Given as goal

abbrev pub invariant-loop-k : goal.invariant-loop-k
invariant-loop-k l = record {
  above : (k : ℕ) → k < l.k → at l.row k ≤ℤ l.greatest;
  small : IsBelow (2 ^ 28) l.greatest;
}
