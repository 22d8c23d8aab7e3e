use Rattle.show_verify.proofs.Prelude.{KeepReach, KeepsApart, clearance_of}
use Rattle.show_plan.proofs.Clearances.{keep_reach, moving}
use Rattle.show_verify.proofs.SecondLemmas.{apart_of}
use Rattle.show_verify.proofs.verifying.judge.Goals as goal

pub returns-in-None-clause-apart : goal.returns-in-None-clause-apart
returns-in-None-clause-apart c = λ done.
    let keeps : KeepsApart c.args.curves.now (clearance_of c.args.fitted.now.settings c.args.fitted.now.trajs) = rw c.in-Valid.is at c.requires.apart in
    let reach : KeepReach (clearance_of c.args.fitted.now.settings c.args.fitted.now.trajs) c.args.fitted.now.trajs =
    keep_reach c.args.fitted.now.settings c.args.fitted.now.trajs c.reach_law.ensures (moving c.args.fitted.now c.requires.valid) in
    apart_of c.args.fitted.now c.args.curves.now c.apart_law.ensures.sent c.requires.valid c.requires.curves reach keeps
