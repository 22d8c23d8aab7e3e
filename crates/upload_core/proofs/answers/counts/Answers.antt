use Rattle.upload_core.proofs.Prelude.{common_steps, not, arith, le-ltb}
use Rattle.upload_core.proofs.Phases.{loading-open, loading-done}
use Rattle.upload_core.proofs.answers.counts.Goals as goal
use Rattle.upload_core.proofs.answers.counts.Goals.{in-Loading, in_default}

pub returns : goal.returns
returns c done is = grind (arith, common_steps, not, le-ltb, in-Loading, loading-open, in_default, loading-done)
