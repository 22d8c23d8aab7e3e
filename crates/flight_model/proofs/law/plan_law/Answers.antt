use Rattle.flight_model.proofs.Planned as planned
use Rattle.flight_model.proofs.Drawn as drawn
use Rattle.flight_model.proofs.law.plan_law.Goals as goal

pub returns-clause-plan : goal.returns-clause-plan
returns-clause-plan c = planned.plan_law

pub returns-clause-draw : goal.returns-clause-draw
returns-clause-draw c = drawn.draw_law
