use Rattle.figure_expand.proofs.Prelude.{common_steps, pos, List, get_or, arith, sym, ap, ◌∙◌, Point, Act, Axis, axes_of, no_job, values_of, first_unfit}
use Rattle.figure_expand.proofs.Reach.{job_fits}
use Rattle.figure_expand.proofs.Unfit.{drone_here, drone_later}
use Rattle.figure_expand.proofs.range.cue_fault.Goals as goal

pub act_of-requires : goal.act_of-requires
act_of-requires c = job_fits c.args.jobs.now c.loop-d.d no_job (omega arith) c.requires.jobs

pub returns-in-Some : goal.returns-in-Some
returns-in-Some c =
    let h1 = c.in-Some.ensures in
    let h2 = c.axes-curves.ensures in
    let here : Point = record { x = pos 0; y = pos 0; z = pos 0; yaw = pos 0 } in
    sym (c.loop-d.invariant ∙ drone_here c.args.points.now c.args.jobs.now c.loop-d.d here no_job c.in-Some.fault (omega arith) (omega arith)
    (sym (c.in-Some.ensures
    ∙ ap (λ (axes : List Axis). first_unfit (values_of (get_or c.args.jobs.now c.loop-d.d no_job).line 0 axes)) (c.axes-curves.ensures ∙ ap (λ (a : Act). axes_of (get_or c.args.points.now c.loop-d.d here) a) c.act_of.ensures.value))))

pub loop-d-preserved : goal.loop-d-preserved
loop-d-preserved c = grind (arith, common_steps, pos, drone_later)
