use Rattle.sep_parts.proofs.Prelude.{◌≡◌, length, take, map, threshold}
use Rattle.sep_parts.proofs.directions.thresholds.Given as goal

abbrev pub invariant-loop-k : goal.invariant-loop-k
invariant-loop-k g l = record {
  same_length : length l.values ≡ g.row.M;
  done : take l.k l.values ≡ map (threshold l.clearance) (take l.k l.dirs.n);
}
