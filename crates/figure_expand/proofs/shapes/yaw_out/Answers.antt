use Rattle.figure_expand.proofs.Prelude.{◌≡◌, ℤ, ◌^◌, ◌-ℤ◌, arith, ap, ◌∙◌, forty_seconds}
use Rattle.figure_expand.proofs.Reach.{kept, way_kept, left_kept, wider}
use Rattle.figure_expand.proofs.shapes.yaw_out.Goals as goal

pub returns : goal.returns
returns c =
    let turn : c.forty_seconds-left.result ≡ forty_seconds c.args.n (c.args.e -ℤ c.args.d) =
    c.forty_seconds-left.ensures.value
    ∙ ap (forty_seconds c.args.n) (kept c.turn.result (wider (2 ^ 42) (2 ^ 43) c.turn.result (omega arith) c.turn.ensures.small) ∙ c.turn.ensures.value
    ∙ way_kept c.args.d c.args.e c.requires.d c.requires.e) in
    left_kept c.args.e c.forty_seconds-left.result (wider (2 ^ 28) (2 ^ 40) c.args.e (omega arith) c.requires.e) c.forty_seconds-left.ensures.small
    ∙ ap (λ (s : ℤ). c.args.e -ℤ s) turn
