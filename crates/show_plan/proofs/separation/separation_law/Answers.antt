use Rattle.show_plan.proofs.SeparationLaws.{separation}
use Rattle.show_plan.proofs.separation.separation_law.Goals as goal

pub returns : goal.returns
returns c = separation
