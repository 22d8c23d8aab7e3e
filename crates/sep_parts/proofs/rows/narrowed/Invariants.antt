use Rattle.sep_parts.proofs.Prelude.{◌≡◌, length, take}
use Rattle.sep_parts.proofs.rows.narrowed.Given as goal

abbrev pub invariant-loop-k : goal.invariant-loop-k
invariant-loop-k l = record {
  same_length : length l.row ≡ 8;
  done : take l.k l.row ≡ take l.k l.curve.b;
}
