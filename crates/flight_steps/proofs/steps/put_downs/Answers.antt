use Rattle.flight_steps.proofs.Walks.{put_one}
use Rattle.flight_steps.proofs.Prelude.{refl, down_step, routes}
use Rattle.flight_steps.proofs.steps.put_downs.Goals as goal

pub loop-k-preserved : goal.loop-k-preserved
loop-k-preserved c =
    put_one (down_step (routes c.args.w.now) c.args.w.now.show_ms c.args.all.now) _ _ _ c.loop-k.k c.loop-k.invariant
    (rw (c.in_ok-push.ensures.items, c.in_ok-down.ensures) refl)
