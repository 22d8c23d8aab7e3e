use Rattle.figure_expand.proofs.Prelude.{sym, subst, List, length, ◌<◌, ◌+◌, ◌^◌, IsPointUpTo, Job, FitJobs, no_job}
use Rattle.figure_expand.proofs.Reach.{end_small, job_fits}
use Rattle.figure_expand.proofs.expansion.step.Goals as goal

pub act_of-act-requires : goal.act_of-act-requires
act_of-act-requires c =
    let h = c.as_slice-jobs.ensures in
    job_fits c.as_slice-jobs.result.now c.args.d no_job (subst (λ (jobs : List Job). c.args.d < length jobs) (sym c.as_slice-jobs.ensures) c.requires.drone) (subst FitJobs (sym c.as_slice-jobs.ensures) c.requires.jobs)

pub returns-clause-reach : goal.returns-clause-reach
returns-clause-reach c n small =
    subst (IsPointUpTo (n + 2 ^ 30)) (sym c.end_of-end.ensures) (end_small n c.args.point.now c.act_of-act.result small c.act_of-act.ensures.small)
