use Rattle.traj_codec.proofs.Prelude.{◌≡◌, ◌+◌, ◌*◌, ◌≤◌, length, take, flat_map, segment}
use Rattle.traj_codec.proofs.writing.size_of.Given as goal

abbrev pub invariant-loop-s : goal.invariant-loop-s
invariant-loop-s l = record {
  so_far : l.size ≡ 11 + length (flat_map segment (take l.s-index l.t.segments));
  least : 11 + 3 * l.s-index ≤ l.size;
  most : l.size ≤ 11 + 59 * l.s-index;
}
