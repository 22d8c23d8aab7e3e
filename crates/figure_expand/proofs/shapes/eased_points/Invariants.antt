use Rattle.figure_expand.proofs.Prelude.{◌≡◌, length, map, take, eased_point}
use Rattle.figure_expand.proofs.shapes.eased_points.Given as goal

-- this many points are made
abbrev pub invariant-loop-k : goal.invariant-loop-k
invariant-loop-k l = record {
  same_length : length l.points ≡ 8;
  done : take l.k l.points ≡ map (eased_point l.q.centre l.q.first l.q.last) (take l.k l.table);
}
