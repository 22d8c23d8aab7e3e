use Rattle.fleet_curves.proofs.Prelude.{◌≡◌, ℕ, ◌<◌, ◌-ℤ◌, length, at}
use Rattle.fleet_curves.proofs.curves.row_less.Given as goal

abbrev pub invariant-loop-k : goal.invariant-loop-k
invariant-loop-k l = record {
  same_length : length l.row ≡ 8;
  done : (k : ℕ) → k < l.k → at l.row k ≡ at l.second k -ℤ at l.first k;
}
