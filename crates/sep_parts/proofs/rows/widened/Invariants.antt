use Rattle.sep_parts.proofs.Prelude.{◌≡◌, length, take}
use Rattle.sep_parts.proofs.rows.widened.Given as goal

abbrev pub invariant-loop-k : goal.invariant-loop-k
invariant-loop-k l = record {
  same_length : length l.b ≡ 8;
  done : take l.k l.b ≡ take l.k l.row;
}
