use Rattle.traj_codec.proofs.Prelude.{◌≡◌, ◌+◌, ◌*◌, take, NumbersStand}
use Rattle.traj_codec.proofs.reading.numbers_at.Given as goal

abbrev pub invariant-loop-z : goal.invariant-loop-z
invariant-loop-z l = record {
  so_far : NumbersStand l.bytes l.at l.next (take l.z-index l.out);
  place : l.next ≡ l.at + 2 * l.z-index;
}
