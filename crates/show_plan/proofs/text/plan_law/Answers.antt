use Rattle.show_plan.proofs.PlanTexts.{plan_law}
use Rattle.show_plan.proofs.text.plan_law.Goals as goal

pub returns : goal.returns
returns c = plan_law c.spelling_law.ensures
