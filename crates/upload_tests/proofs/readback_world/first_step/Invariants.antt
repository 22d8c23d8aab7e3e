use Rattle.std.proofs.Common.{◌≡◌, length}
use Rattle.upload_tests.proofs.readback_world.first_step.Given as goal

abbrev pub invariant-loop-k : goal.invariant-loop-k
invariant-loop-k l = length l.world.drones ≡ l.count
