use Rattle.mm_rounding.proofs.Prelude.{◌≡◌, true, map, length, take, list_all, is_short, number_in}
use Rattle.mm_rounding.proofs.rounding.numbers.Given as goal

-- this many numbers fit, and are kept
abbrev pub invariant-loop-k : goal.invariant-loop-k
invariant-loop-k g l = record {
  same_length : length l.row ≡ g.row.N;
  fit : list_all is_short (take l.k (map (number_in g.row.UNIT) l.v)) ≡ true;
  done : take l.k l.row ≡ take l.k (map (number_in g.row.UNIT) l.v);
}
