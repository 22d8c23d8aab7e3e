use Rattle.std.proofs.Common.{◌≡◌, length}
use Rattle.upload_tests.proofs.readback_world.fly.Given as goal

abbrev pub invariant-loop-n : goal.invariant-loop-n
invariant-loop-n l = length l.world.drones ≡ length l.fn.world.drones

abbrev pub invariant-loop-drone : goal.invariant-loop-drone
invariant-loop-drone l = length l.world.drones ≡ length l.fn.world.drones
