use Rattle.flight_director.proofs.Prelude.{◌≡◌, ◌≤◌, ◌+◌, ◌++◌, length, frames_from}
use Rattle.flight_director.proofs.Walks.{first_landings}
use Rattle.flight_director.proofs.state.put_landings.Given as goal

abbrev pub invariant-loop-d : goal.invariant-loop-d
invariant-loop-d l = record {
  room : length l.out.items ≤ 33 + l.d;
  all : l.out.items ≡ l.fn.out.items ++ frames_from 0 (first_landings l.f l.n l.d);
}
