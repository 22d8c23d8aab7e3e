use Rattle.flight_director.proofs.Prelude.{◌≡◌, ◌≤◌, ◌+◌, ◌++◌, drop, length, frames_from}
use Rattle.flight_director.proofs.state.put_orders.Given as goal

abbrev pub invariant-loop-d : goal.invariant-loop-d
invariant-loop-d l = record {
  room : length l.out.items ≤ 33 + l.d;
  all : l.out.items ++ frames_from l.d (drop l.d l.orders) ≡ l.fn.out.items ++ frames_from 0 l.orders;
}
