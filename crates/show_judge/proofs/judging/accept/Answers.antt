use Rattle.show_judge.proofs.PlanLemmas.{judged_of_fit}
use Rattle.show_judge.proofs.judging.accept.Goals as goal

pub returns-in-Fits-clause-gives : goal.returns-in-Fits-clause-gives
returns-in-Fits-clause-gives c = λ cut is.
    judged_of_fit c.args.ways.now c.args.depth cut c.in-Fits.fitted c.separate.result c.requires.depth (rw c.in-Fits.is at (c.in_ok-fitted.ensures.gives cut is)) c.separate.ensures.gives
