use Rattle.std.proofs.Common.{arith}
use Rattle.std.proofs.Common.{◌+◌, ap, set, get_or, ◌∙◌}
use Rattle.firmware_memory.proofs.Storing.{stored-more}
use Rattle.firmware_memory.proofs.drone.store.Goals as goal

pub loop-i-preserved : goal.loop-i-preserved
loop-i-preserved c =
    ap (λ m. set m (c.args.at + c.loop-i.i) (get_or c.args.bytes.now c.loop-i.i 0)) c.loop-i.invariant
    ∙ stored-more c.args.memory.now c.args.at c.args.bytes.now c.loop-i.i (omega arith) (omega arith)
