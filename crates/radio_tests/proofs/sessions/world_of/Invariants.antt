use Rattle.std.proofs.Common.{◌≡◌, length}
use Rattle.radio_tests.proofs.sessions.world_of.Given as goal

abbrev pub invariant-loop : goal.invariant-loop
invariant-loop l = length l.drones.items ≡ l.counter
