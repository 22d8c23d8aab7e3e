use Rattle.show_studies.proofs.SpeedLemmas.{bounds_of_show}
use Rattle.show_studies.proofs.speeding.SpeedVerbAnyText.answer_fitted.Goals as goal

pub returns-clause-promised : goal.returns-clause-promised
returns-clause-promised c = λ s cut is uploads.
    bounds_of_show c.args.fitted.now s c.args.self.now.depth c.args.self.now.limit c.as_slice-2.result.now c.answer_drones.result is c.as_slice-2.ensures c.answer_drones.ensures.keeps
