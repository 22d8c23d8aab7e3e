use Rattle.std.proofs.Common.{◌≡◌, length}
use Rattle.radio_tests.proofs.world.wrong_step.Given as goal

abbrev pub invariant-loop-k : goal.invariant-loop-k
invariant-loop-k l = length l.world.drones ≡ length l.loads
