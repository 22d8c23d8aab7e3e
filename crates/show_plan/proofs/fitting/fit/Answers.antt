use Rattle.show_plan.proofs.Prelude.{plain}
use Rattle.show_plan.proofs.Valid.{valid_given}
use Rattle.show_plan.proofs.Sendable.{near_given}
use Rattle.show_plan.proofs.fitting.fit.Goals as goal

pub returns-in-Some-clause-near : goal.returns-in-Some-clause-near
returns-in-Some-clause-near c = near_given c.fitted.result (plain c.args.show.now) c.in-Ok.grid c.fitted.ensures.gives c.in-Ok.ensures.valid c.in-Ok.ensures.gives.1

pub returns-in-Some-clause-valid : goal.returns-in-Some-clause-valid
returns-in-Some-clause-valid c = valid_given c.fitted.result (plain c.args.show.now) c.requires c.fitted.ensures.gives c.fitted.ensures.formed
