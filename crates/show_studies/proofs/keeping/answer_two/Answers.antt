use Rattle.show_studies.proofs.Prelude.{None, refl, most_text, boxes_verb, EndsWell, two_fitted}
use Rattle.show_judge.specs.declared.judging.Planned.TheVariants.{Fits}
use Rattle.show_studies.proofs.keeping.answer_two.Goals as goal

pub returns-in-Fits : goal.returns-in-Fits
returns-in-Fits c =
    let ends : EndsWell (boxes_verb c.args.depth).ways c.args.input.now.show (Fits c.in-Fits.fitted) = rw c.in-Fits.is at c.in_ok-fitted.ensures.whole in
    two_fitted (boxes_verb c.args.depth) None most_text c.args.input.now c.in-Fits.fitted c.judge_second.result refl refl
    (λ cut is. rw c.in-Fits.is at (c.in_ok-fitted.ensures.gives cut is)) c.judge_second.ensures.gives
    (λ cut text fits. c.judge_second.ensures.promised fits.s cut fits.fitted text) ends.0 c.judge_second.ensures.whole c.judge_second.ensures.said
