use Rattle.std.proofs.Common.{◌≡◌, length}
use Rattle.upload_tests.proofs.readback_world.run.Given as goal

abbrev pub invariant-loop-e : goal.invariant-loop-e
invariant-loop-e l = length l.world.drones ≡ length l.fn.world.drones
