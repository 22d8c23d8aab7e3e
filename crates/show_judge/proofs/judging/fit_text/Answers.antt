use Rattle.show_judge.proofs.Prelude.{◌∙◌, sym, plain, IsShowText, Whole}
use Rattle.show_judge.proofs.PlanLemmas.{plan_of_text}
use Rattle.show_judge.proofs.judging.fit_text.Goals as goal

pub returns-in-Ok-clause-gives : goal.returns-in-Ok-clause-gives
returns-in-Ok-clause-gives c = λ cut shows.
    let is : IsShowText (Whole c.in-Whole.part) cut = rw c.in-Whole.is at shows in
    plan_of_text c.args.ways.now cut (plain c.in-Ok.show) c.fit_show.result is.2 (rw (sym (c.deref.ensures.value ∙ is.0)) c.in-Ok.ensures.found) (c.fit_show.ensures.gives cut is)
