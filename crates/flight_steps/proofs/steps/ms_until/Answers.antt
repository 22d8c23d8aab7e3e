use Rattle.flight_steps.proofs.Prelude.{◌≡◌, ◌∙◌, ◌+◌, ℕ, suc, ap, arith, ms_until}
use Rattle.flight_model.specs.Directors.{later}
use Rattle.flight_steps.proofs.steps.ms_until.Goals as goal

pub loop-i-preserved : goal.loop-i-preserved
loop-i-preserved c =
    let i : ℕ = c.loop-i.i in
    let next : suc i ≡ i + 1 = omega arith in
    c.later-ms.ensures
    ∙ (ap (λ (n : ℕ). later n c.leg_ms.result) c.loop-i.invariant
    ∙ (ap (λ (n : ℕ). later (ms_until c.args.all.now i) n) c.leg_ms.ensures ∙ ap (λ (n : ℕ). ms_until c.args.all.now n) next))
