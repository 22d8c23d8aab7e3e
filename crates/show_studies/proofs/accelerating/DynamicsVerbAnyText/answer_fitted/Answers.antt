use Rattle.show_studies.proofs.Prelude.{arith, common_steps}
use Rattle.show_studies.proofs.DynamicsLemmas.{keeps_of_show, motions_of_show}
use Rattle.show_studies.proofs.accelerating.DynamicsVerbAnyText.answer_fitted.Goals as goal

pub returns-clause-gives : goal.returns-clause-gives
returns-clause-gives c = grind (arith, common_steps, motions_of_show)

pub returns-clause-promised : goal.returns-clause-promised
returns-clause-promised c = λ s cut is uploads.
    keeps_of_show c.args.fitted.now s c.args.self.now.depth c.args.self.now.accel c.args.self.now.jump _ _ c.answer_drones.result is c.limits_of.ensures c.as_slice-2.ensures c.answer_drones.ensures.keeps
