use Rattle.figure_expand.proofs.Prelude.{◌≡◌, ℤ, ◌^◌, ◌+ℤ◌, ◌-ℤ◌, arith, ap, ◌∙◌, forty_seconds}
use Rattle.figure_expand.proofs.Reach.{kept, way_kept, turned_kept, wider}
use Rattle.figure_expand.proofs.shapes.yaw_in.Goals as goal

pub returns : goal.returns
returns c =
    let turn : c.forty_seconds-turned.result ≡ forty_seconds c.args.n (c.args.e -ℤ c.args.d) =
    c.forty_seconds-turned.ensures.value
    ∙ ap (forty_seconds c.args.n) (kept c.turn.result (wider (2 ^ 42) (2 ^ 43) c.turn.result (omega arith) c.turn.ensures.small) ∙ c.turn.ensures.value
    ∙ way_kept c.args.d c.args.e c.requires.d c.requires.e) in
    turned_kept c.args.d c.forty_seconds-turned.result c.requires.d c.forty_seconds-turned.ensures.small
    ∙ ap (λ (s : ℤ). c.args.d +ℤ s) turn
