use Rattle.upload_core.proofs.Prelude.{common_steps, arith, eqb-false}
use Rattle.upload_core.proofs.RowLemmas.{grows-step}
use Rattle.upload_core.proofs.row.fill.Goals as goal

pub loop-k-preserved : goal.loop-k-preserved
loop-k-preserved c = grind (arith, common_steps, grows-step, eqb-false)
