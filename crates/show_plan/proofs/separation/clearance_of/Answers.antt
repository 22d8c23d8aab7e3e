use Rattle.show_plan.proofs.Prelude.{All, subst, sym, Clearance, KeepReach, IsClearance, IsMoving}
use Rattle.show_plan.proofs.Clearances.{exactly, is_clearance, keep_reach, moving}
use Rattle.show_plan.proofs.separation.clearance_of.Goals as goal

pub reach-requires-clause-moving : goal.reach-requires-clause-moving
reach-requires-clause-moving c = subst (All IsMoving) (sym c.as_slice.ensures) (moving c.args.f.now c.requires.valid)

pub returns-clause-exact : goal.returns-clause-exact
returns-clause-exact c = exactly c.args.f.now.settings c.args.f.now.trajs c.as_slice.result.now c.reach.result (rw c.make.ensures at c.reach.ensures.exact) c.as_slice.ensures

pub returns-clause-clear : goal.returns-clause-clear
returns-clause-clear c =
    subst IsClearance (sym (exactly c.args.f.now.settings c.args.f.now.trajs c.as_slice.result.now c.reach.result (rw c.make.ensures at c.reach.ensures.exact) c.as_slice.ensures))
    (is_clearance c.args.f.now.settings c.args.f.now.trajs c.requires.valid.settings)

pub returns-clause-reach : goal.returns-clause-reach
returns-clause-reach c =
    subst (λ (clear : Clearance). KeepReach clear c.args.f.now.trajs)
    (sym (exactly c.args.f.now.settings c.args.f.now.trajs c.as_slice.result.now c.reach.result (rw c.make.ensures at c.reach.ensures.exact) c.as_slice.ensures))
    (keep_reach c.args.f.now.settings c.args.f.now.trajs c.reach_law.ensures (moving c.args.f.now c.requires.valid))
