use Rattle.figure_expand.proofs.Prelude.{◌≡◌, length, map, take, yaw_out}
use Rattle.figure_expand.proofs.shapes.yaws_out.Given as goal

-- this many points are made
abbrev pub invariant-loop-k : goal.invariant-loop-k
invariant-loop-k l = record {
  same_length : length l.points ≡ 8;
  done : take l.k l.points ≡ map (yaw_out l.d l.e) (take l.k l.table);
}
