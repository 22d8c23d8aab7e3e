use Rattle.upload_core.proofs.Prelude.{common_steps, arith, set, get_or-set_other}
use Rattle.upload_core.proofs.RowLemmas.{age-step}
use Rattle.upload_core.proofs.row.age.Goals as goal

pub loop-i-preserved : goal.loop-i-preserved
loop-i-preserved c = grind (arith, common_steps, set, age-step, get_or-set_other)
