use Rattle.upload_core.proofs.Prelude.{common_steps, arith, length-wanted}
use Rattle.upload_core.proofs.session.Session.read_len.Goals as goal

pub returns-clause-value : goal.returns-clause-value
returns-clause-value c = grind (arith, common_steps, length-wanted)
