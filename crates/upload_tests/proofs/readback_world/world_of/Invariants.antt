use Rattle.std.proofs.Common.{◌≡◌, length}
use Rattle.upload_tests.proofs.readback_world.world_of.Given as goal

abbrev pub invariant-loop : goal.invariant-loop
invariant-loop l = length l.blank.items ≡ l.counter
