use Rattle.figure_expand.proofs.Prelude.{common_steps, arith}
use Rattle.figure_expand.proofs.Unfit.{start_here}
use Rattle.figure_expand.proofs.range.starts_fault.Goals as goal

pub returns-in-Some : goal.returns-in-Some
returns-in-Some c = grind (arith, common_steps, start_here)
