use Rattle.upload_core.proofs.Prelude.{common_steps, arith}
use Rattle.upload_core.proofs.Windows.{row-at}
use Rattle.upload_core.proofs.Looking.{marks-stand, word-here}
use Rattle.upload_core.proofs.host.Host.word.Goals as goal

pub returns : goal.returns
returns c = grind (arith, common_steps, row-at, word-here, marks-stand)
