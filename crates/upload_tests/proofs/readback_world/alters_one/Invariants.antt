use Rattle.std.proofs.Common.{◌≡◌, length}
use Rattle.upload_tests.proofs.readback_world.alters_one.Given as goal

abbrev pub invariant-loop-drone : goal.invariant-loop-drone
invariant-loop-drone l = length l.world.drones ≡ 1
