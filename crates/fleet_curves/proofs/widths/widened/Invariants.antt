use Rattle.fleet_curves.proofs.Prelude.{◌≡◌, length, take}
use Rattle.fleet_curves.proofs.widths.widened.Given as goal

abbrev pub invariant-loop-k : goal.invariant-loop-k
invariant-loop-k l = record {
  same_length : length l.b ≡ 8;
  done : take l.k l.b ≡ take l.k l.row;
}
