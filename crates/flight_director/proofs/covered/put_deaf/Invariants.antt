use Rattle.flight_director.proofs.Prelude.{◌≡◌, ◌≤◌, ◌++◌, drop, length, deaf_from}
use Rattle.flight_director.proofs.covered.put_deaf.Given as goal

abbrev pub invariant-loop-d : goal.invariant-loop-d
invariant-loop-d l = record {
  room : length l.out.items ≤ l.d;
  all : l.out.items ++ deaf_from l.f l.n l.d (drop l.d l.tracks) ≡ deaf_from l.f l.n 0 l.tracks;
}
