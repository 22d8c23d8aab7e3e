use Rattle.flight_steps.proofs.Prelude.{values_on}
use Rattle.flight_steps.proofs.Spans.{step-in}
use Rattle.flight_steps.proofs.room.with_curves.Goals as goal

pub loop-t-preserved : goal.loop-t-preserved
loop-t-preserved c =
    step-in (values_on c.args.axis) c.loop-t.all c.with_curve-all.result _ c.args.curves.now c.loop-t.t-index c.t-item.result _ c.loop-t-test.true c.t-item.is
    c.with_curve-all.ensures c.loop-t.invariant
