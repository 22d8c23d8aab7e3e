use Rattle.show_judge.proofs.Prelude.{common_steps, ap, refl, subst, ◌∙◌, arith, Ways, EndsWell, Fits}
use Rattle.show_judge.specs.declared.judging.Planned.TheVariants.{Fits as fits_as}
use Rattle.show_judge.proofs.AnswerLemmas.{answers_fitted, answers_refused}
use Rattle.show_judge.proofs.any.answer_text.Goals as goal

pub returns-in-Fits : goal.returns-in-Fits
returns-in-Fits g c =
    let v = g.V.AnyText.verb c.args.verb.now in
    let f = c.in-Fits.fitted in
    let ends : EndsWell c.ways-ways.result c.args.text.now (fits_as f) = rw c.in-Fits.is at c.in_ok-fitted.ensures.whole in
    answers_fitted v v.ways.depth c.args.text.now f c.answer_fitted.result c.requires.any.lines refl
    (λ cut is. subst (λ (w : Ways). Fits w cut f) c.ways-ways.ensures (rw c.in-Fits.is at (c.in_ok-fitted.ensures.gives cut is)))
    c.answer_fitted.ensures.gives (λ cut is fits. c.answer_fitted.ensures.promised fits.s cut fits.fitted fits.uploads) c.answer_fitted.ensures.said
    (ends.1 (ap (λ (w : Ways). w.has_second) c.ways-ways.ensures ∙ c.requires.any.alone))

pub returns-in-Refused : goal.returns-in-Refused
returns-in-Refused g c = grind (arith, common_steps, answers_refused)
