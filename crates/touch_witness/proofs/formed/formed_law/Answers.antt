use Rattle.touch_witness.proofs.Prelude.{All, List, subst, take_all, Traj, IsFormed}
use Rattle.fleet_curves.proofs.Fleets.{all_more}
use Rattle.touch_witness.proofs.formed.formed_law.Goals as goal

pub loop-t-preserved : goal.loop-t-preserved
loop-t-preserved c =
    all_more (λ (t : Traj). All IsFormed t.segments) c.args.trajs.now c.loop-t.t-index c.t-item.result c.loop-t-test.true c.loop-t.invariant
    (subst (λ (t : Traj). All IsFormed t.segments) c.t-item.is c.formed_law.ensures)

pub returns : goal.returns
returns c = subst (λ (ts : List Traj). All (λ (t : Traj). All IsFormed t.segments) ts) (take_all c.loop-t.t-index c.args.trajs.now c.loop-t-test.false) c.loop-t.invariant
