use Rattle.bezier_core.proofs.Prelude.{◌≡◌, length, ℕ, ◌+◌, ◌<◌, ◌≤◌, ◌+ℤ◌, at}
use Rattle.bezier_core.proofs.halves.sums.Given as goal

abbrev pub invariant-loop-i : goal.invariant-loop-i
invariant-loop-i g l = record {
  same_length : length l.row ≡ 8;
  done : (k : ℕ) → k < l.i → at l.row k ≡ at l.fn.row k +ℤ at l.fn.row (k + 1);
  left : (k : ℕ) → l.i ≤ k → at l.row k ≡ at l.fn.row k;
}
