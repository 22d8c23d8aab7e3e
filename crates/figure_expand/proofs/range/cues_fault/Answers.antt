use Rattle.figure_expand.proofs.Prelude.{common_steps, ◌≡◌, ◌+◌, List, length, drop, arith, sym, ap, ◌∙◌, subst, Point, Job, FitJobs, AreInReach, cue_values, points_after, first_unfit}
use Rattle.figure_expand.proofs.Reach.{next_fits, all_small, points_in_reach, length-points_after}
use Rattle.figure_expand.proofs.Unfit.{cue_here, cue_later}
use Rattle.figure_expand.proofs.range.cues_fault.Goals as goal

pub cue_fault-requires-clause-count : goal.cue_fault-requires-clause-count
cue_fault-requires-clause-count c =
    let next = next_fits (length c.args.points.now) c.args.cues.now c.loop-cue.cue-index c.cue-item.result c.loop-cue-test.true c.cue-item.is c.requires.cues in
    c.loop-cue.invariant.count ∙ sym (ap (length {A = Job}) c.as_slice-jobs.ensures ∙ next.count)

pub cue_fault-requires-clause-points : goal.cue_fault-requires-clause-points
cue_fault-requires-clause-points c = all_small c.loop-cue.cue-index c.loop-cue.points (omega arith) c.loop-cue.invariant.reached

pub cue_fault-requires-clause-jobs : goal.cue_fault-requires-clause-jobs
cue_fault-requires-clause-jobs c =
    let next = next_fits (length c.args.points.now) c.args.cues.now c.loop-cue.cue-index c.cue-item.result c.loop-cue-test.true c.cue-item.is c.requires.cues in
    subst FitJobs (sym c.as_slice-jobs.ensures) next.jobs

pub returns-in-Some : goal.returns-in-Some
returns-in-Some c =
    sym (c.loop-cue.invariant.left ∙ cue_here c.loop-cue.points c.args.cues.now c.loop-cue.cue-index c.cue-item.result c.in-Some.fault c.loop-cue-test.true c.cue-item.is
    (sym (c.in-Some.ensures ∙ ap (λ (jobs : List Job). first_unfit (cue_values c.loop-cue.points jobs)) c.as_slice-jobs.ensures)))

pub advance-requires-clause-count : goal.advance-requires-clause-count
advance-requires-clause-count c =
    let next = next_fits (length c.args.points.now) c.args.cues.now c.loop-cue.cue-index c.cue-item.result c.loop-cue-test.true c.cue-item.is c.requires.cues in
    c.loop-cue.invariant.count ∙ sym (ap (length {A = Job}) c.as_slice-jobs.ensures ∙ next.count)

pub advance-requires-clause-points : goal.advance-requires-clause-points
advance-requires-clause-points c = all_small c.loop-cue.cue-index c.loop-cue.points (omega arith) c.loop-cue.invariant.reached

pub advance-requires-clause-jobs : goal.advance-requires-clause-jobs
advance-requires-clause-jobs c =
    let next = next_fits (length c.args.points.now) c.args.cues.now c.loop-cue.cue-index c.cue-item.result c.loop-cue-test.true c.cue-item.is c.requires.cues in
    subst FitJobs (sym c.as_slice-jobs.ensures) next.jobs

pub loop-cue-preserved : goal.loop-cue-preserved
loop-cue-preserved c =
    let next = next_fits (length c.args.points.now) c.args.cues.now c.loop-cue.cue-index c.cue-item.result c.loop-cue-test.true c.cue-item.is c.requires.cues in
    let count : length c.loop-cue.points ≡ length c.cue-item.result.jobs = c.loop-cue.invariant.count ∙ sym next.count in
    let moves : c.advance.new.points ≡ points_after c.loop-cue.points c.cue-item.result.jobs = c.advance.ensures ∙ ap (points_after c.loop-cue.points) c.as_slice-jobs.ensures in
    record {
      count = ap (length {A = Point}) moves ∙ length-points_after c.loop-cue.points c.cue-item.result.jobs count ∙ c.loop-cue.invariant.count;
      reached = subst (AreInReach (c.loop-cue.cue-index + 1)) (sym moves) (points_in_reach c.loop-cue.cue-index c.loop-cue.points c.cue-item.result.jobs count c.loop-cue.invariant.reached next.jobs);
      left = grind (arith, common_steps, cue_later, drop);
    }
