use Rattle.upload_core.proofs.Prelude.{common_steps, take, arith, append_assoc, take_more}
use Rattle.upload_core.proofs.Walks.{sent-entry}
use Rattle.upload_core.proofs.rows.put_window.Goals as goal

pub loop-entry-preserved : goal.loop-entry-preserved
loop-entry-preserved c = grind (arith, common_steps, take, append_assoc, sent-entry, take_more)
