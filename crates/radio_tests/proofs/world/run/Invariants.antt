use Rattle.std.proofs.Common.{◌≡◌, length}
use Rattle.radio_tests.proofs.world.run.Given as goal

abbrev pub invariant-loop-e : goal.invariant-loop-e
invariant-loop-e l = length l.world.drones ≡ length l.fn.world.drones
