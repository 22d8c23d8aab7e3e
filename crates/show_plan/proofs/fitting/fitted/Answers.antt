use Rattle.show_plan.proofs.Prelude.{common_steps, ◌≡◌, None, ◌≤◌, ◌∙◌, List, length, map, sum, ap, sym, subst, arith, All, Traj, plain, grid_of, Cue, Grid, IsFlown, plan_fault}
use Rattle.show_plan.proofs.Flight.{sent_counted}
use Rattle.show_plan.proofs.Sendable.{fits_given, flown, has_segments, sent_are, sent_flown, unsendable_given}
use Rattle.show_plan.proofs.fitting.fitted.Goals as goal

pub joined_all-requires-clause-some : goal.joined_all-requires-clause-some
joined_all-requires-clause-some c =
    subst (All (λ (t : Traj). 1 ≤ length t.segments)) (sym (c.as_slice-flown.ensures.value ∙ c.requires.trajs)) (has_segments c.args.grid c.requires.whole)

pub joined_all-requires-clause-flown : goal.joined_all-requires-clause-flown
joined_all-requires-clause-flown c = subst (All IsFlown) (sym (c.as_slice-flown.ensures.value ∙ c.requires.trajs)) (flown c.args.grid c.requires.whole)

pub first_unsendable-requires-clause-few : goal.first_unsendable-requires-clause-few
first_unsendable-requires-clause-few c = grind (arith, common_steps, sent_are, sent_counted)

pub first_unsendable-requires-clause-flown : goal.first_unsendable-requires-clause-flown
first_unsendable-requires-clause-flown c = grind (arith, common_steps, sent_are, sent_flown)

pub returns-in-Some : goal.returns-in-Some
returns-in-Some c = grind (arith, common_steps, sent_are, unsendable_given)

pub returns-clause-gives : goal.returns-clause-gives
returns-clause-gives c =
    let none : plan_fault (plain c.args.show.now) ≡ None = grind (arith, common_steps, sent_are, fits_given) in
    let all : c.as_slice-all.result.now ≡ (grid_of (plain c.args.show.now)).cues = c.as_slice-all.ensures ∙ ap (λ (g : Grid). g.cues) c.requires.is in (
      none,
      record {
        settings = grind (arith, common_steps);
        names = grind (arith, common_steps);
        cues = omega (arith, ap (λ (cues : List Cue). length cues) all, c.requires.whole.few_cues, ap (λ (g : Grid). length g.cues) c.requires.is);
        duration = c.duration_of-duration.ensures ∙ ap (λ (cues : List Cue). sum (map (λ (cue : Cue). cue.ms) cues)) all;
        trajs = grind (arith, common_steps);
        sent = grind (arith, common_steps, sent_are);
      },
    )
