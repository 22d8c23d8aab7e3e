use Rattle.flight_director.proofs.Prelude.{◌≡◌, ◌∙◌, ap, set, false}
use Rattle.flight_director.proofs.Walks.{forget-step}
use Rattle.flight_director.proofs.answers.forget.Goals as goal

pub loop-d-preserved : goal.loop-d-preserved
loop-d-preserved c =
    ap (λ bs. set bs c.loop-d.d false) c.loop-d.invariant ∙ forget-step c.args.answered.now c.loop-d.d c.loop-d-test.true
