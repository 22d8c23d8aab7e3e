use Rattle.fleet_world.proofs.Prelude.{◌≡◌, [], length, replicate, sent_of, given_of}
use Rattle.fleet_world.proofs.traffic.no_traffic.Given as goal

abbrev pub invariant-loop : goal.invariant-loop
invariant-loop l = record {
  len : length l.traffic.items ≡ l.counter;
  sent : sent_of l.traffic.items ≡ replicate l.counter [];
  given : given_of l.traffic.items ≡ replicate l.counter [];
}
