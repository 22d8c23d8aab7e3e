use Rattle.show_plan.proofs.Prelude.{common_steps, arith}
use Rattle.show_plan.proofs.Separated.{none_blocked, stopped_by}
use Rattle.show_plan.proofs.separation.trees_of.Goals as goal

pub returns-in-Ok-clause-finds : goal.returns-in-Ok-clause-finds
returns-in-Ok-clause-finds c = grind (arith, common_steps, none_blocked)

pub returns-in-Err-clause-finds : goal.returns-in-Err-clause-finds
returns-in-Err-clause-finds c = grind (arith, common_steps, stopped_by)

pub returns-in-Ok-clause-shallow : goal.returns-in-Ok-clause-shallow
returns-in-Ok-clause-shallow c = rw c.levels-levels.ensures.same at c.levels-levels.ensures.most

pub returns-in-Err-clause-shallow : goal.returns-in-Err-clause-shallow
returns-in-Err-clause-shallow c = rw c.levels-levels.ensures.same at c.levels-levels.ensures.most
