use Rattle.sep_parts.proofs.Prelude.{◌≡◌, length, take}
use Rattle.sep_parts.proofs.rows.widened_row.Given as goal

abbrev pub invariant-loop-k : goal.invariant-loop-k
invariant-loop-k l = record {
  same_length : length l.wide ≡ 8;
  done : take l.k l.wide ≡ take l.k l.row;
}
