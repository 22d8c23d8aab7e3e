use Rattle.figure_expand.proofs.Prelude.{common_steps, ◌≡◌, pos, List, get_or, set, arith, ap, ◌∙◌, All-get_or, Point, Act, act_of, end_of, no_job}
use Rattle.figure_expand.proofs.Reach.{job_fits}
use Rattle.figure_expand.proofs.Unfit.{moved, not_moved, moved_more, moved_all}
use Rattle.figure_expand.proofs.range.advance.Goals as goal

pub act_of-requires : goal.act_of-requires
act_of-requires c = job_fits c.args.jobs.now c.loop-d.d no_job (omega arith) c.requires.jobs

pub end_of-requires-clause-point : goal.end_of-requires-clause-point
end_of-requires-clause-point c = grind (arith, common_steps, pos, not_moved, All-get_or)

pub loop-d-preserved : goal.loop-d-preserved
loop-d-preserved c =
    let here : Point = record { x = pos 0; y = pos 0; z = pos 0; yaw = pos 0 } in
    let same : get_or c.loop-d.points c.loop-d.d here ≡ get_or c.args.points.now c.loop-d.d here =
    ap (λ (ps : List Point). get_or ps c.loop-d.d here) c.loop-d.invariant ∙ not_moved c.loop-d.d c.args.points.now c.args.jobs.now here in
    let moves : c.end_of.result ≡ end_of (get_or c.args.points.now c.loop-d.d here) (act_of (get_or c.args.jobs.now c.loop-d.d no_job)) =
    c.end_of.ensures ∙ ap (λ (p : Point). end_of p c.act_of.result) same ∙ ap (λ (a : Act). end_of (get_or c.args.points.now c.loop-d.d here) a) c.act_of.ensures.value in
    grind (arith, common_steps, set, moved, moved_more)

pub returns : goal.returns
returns c = c.loop-d.invariant ∙ moved_all c.loop-d.d c.args.points.now c.args.jobs.now c.requires.count (omega arith)
