use Rattle.flight_steps.proofs.Walks.{put_more}
use Rattle.flight_steps.proofs.Prelude.{◌∷◌, [], append_assoc, arm_step, up_step, routes}
use Rattle.flight_steps.proofs.steps.put_ups.Goals as goal

pub loop-k-preserved : goal.loop-k-preserved
loop-k-preserved c =
    put_more (λ k. arm_step (routes c.args.w.now) c.args.all.now k ∷ up_step (routes c.args.w.now) c.args.all.now k ∷ []) _ _ _ c.loop-k.k c.loop-k.invariant
    (rw (c.in_ok-push-2.ensures.items, c.in_ok-push.ensures.items, c.in_ok-arm.ensures, c.in_ok-up.ensures) (append_assoc _ (_ ∷ []) (_ ∷ [])))
