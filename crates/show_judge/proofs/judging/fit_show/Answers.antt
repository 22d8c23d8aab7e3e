use Rattle.show_judge.proofs.Prelude.{refl, sym, plain}
use Rattle.show_judge.proofs.PlanLemmas.{cut_at, fits_as, no_marker}
use Rattle.show_judge.proofs.RefusalLemmas.{fits_early, marker_refused, search_left}
use Rattle.show_judge.proofs.judging.fit_show.Goals as goal

pub returns-in-Some-clause-gives : goal.returns-in-Some-clause-gives
returns-in-Some-clause-gives c = λ cut is.
    marker_refused c.args.ways.now cut (plain c.args.show.now) c.in-Some.refusal (fits_early (plain c.args.show.now) c.in-Ok.ensures.gives.0) (sym (c.in-Some.ensures.gives cut is))

pub returns-in-None-clause-gives : goal.returns-in-None-clause-gives
returns-in-None-clause-gives c = λ cut is.
    let s = plain c.args.show.now in
    fits_as c.uploads_law.ensures c.args.ways.now cut s c.in-Ok.fitted (search_left c.args.ways.now cut s c.in-Ok.ensures.gives.0 (sym (c.in-None.ensures.gives cut is)))
    c.in-Ok.ensures.gives.1 c.uploadable_law.ensures c.in-Ok.ensures.near

pub returns-in-None-clause-whole : goal.returns-in-None-clause-whole
returns-in-None-clause-whole c =
    let part = c.args.part.now in
    (tt, (λ plain. no_marker c.args.ways.now.has_second part.marker _ (sym (c.in-None.ensures.gives (cut_at part) (refl, refl, c.requires.within))) plain))
