use Rattle.fleet_world.proofs.Prelude.{◌≡◌, ℕ, ◌-◌, ◌++◌, take, length, sent_of, given_of, row_of, numbers_for, HasRoom}
use Rattle.fleet_world.proofs.world.put_all.Given as goal

abbrev pub invariant-loop-x : goal.invariant-loop-x
invariant-loop-x l = record {
  len : length l.traffic ≡ length l.fn.traffic;
  given : given_of l.traffic ≡ given_of l.fn.traffic;
  sent : (d : ℕ) → row_of (sent_of l.traffic) d ≡ row_of (sent_of l.fn.traffic) d ++ numbers_for (take l.x-index l.out) d;
  room : HasRoom l.traffic (length l.out - l.x-index);
}
