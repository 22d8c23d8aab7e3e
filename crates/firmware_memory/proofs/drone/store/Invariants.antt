use Rattle.std.proofs.Common.{◌≡◌, take}
use Rattle.upload_model.specs.Drones.{stored}
use Rattle.firmware_memory.proofs.drone.store.Given as goal

abbrev pub invariant-loop-i : goal.invariant-loop-i
invariant-loop-i l = l.memory ≡ stored l.fn.memory l.at (take l.i l.bytes)
