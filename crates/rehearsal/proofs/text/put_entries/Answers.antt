use Rattle.rehearsal.proofs.Prelude.{arith, common_steps, append_assoc, drop_more}
use Rattle.rehearsal.proofs.text.put_entries.Goals as goal

pub loop-id-preserved : goal.loop-id-preserved
loop-id-preserved c = grind (arith, common_steps, drop_more, append_assoc)
