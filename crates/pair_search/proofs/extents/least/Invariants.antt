use Rattle.pair_search.proofs.Prelude.{ℕ, ◌<◌, ◌^◌, ◌≤ℤ◌, at, IsBelow}
use Rattle.pair_search.proofs.extents.least.Given as goal

abbrev pub invariant-loop-k : goal.invariant-loop-k
invariant-loop-k l = record {
  below : (k : ℕ) → k < l.k → l.least ≤ℤ at l.row k;
  small : IsBelow (2 ^ 28) l.least;
}
