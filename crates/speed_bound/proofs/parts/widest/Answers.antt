use Rattle.speed_bound.proofs.Prelude.{◌≡◌, ℕ, ◌-◌, unsigned_abs, arith, ◌∙◌, ap, at, greatest_below, differences, widest}
use Rattle.speed_bound.proofs.parts.widest.Goals as goal

pub returns : goal.returns
unfolding widest
returns g c =
    let all : c.loop-i.i ≡ 8 - g.row.K = omega arith in
    c.loop-i.invariant ∙ ap (λ (n : ℕ). greatest_below n (λ i. unsigned_abs (differences g.row.K (at c.args.curve.now.b) i))) all
