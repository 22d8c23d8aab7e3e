use Rattle.dynamics_bound.proofs.Prelude.{ℕ, ◌≤◌, max, arith, sym, ◌∙◌, ap, Option, acceleration_in, sharp_at}
use Rattle.dynamics_bound.specs.declared.excess.Kind.TheVariants as kind
use Rattle.dynamics_bound.proofs.Excesses.{above_least}
use Rattle.dynamics_bound.proofs.excess.sharp_at.Goals as goal

pub returns : goal.returns
returns c =
    let less : c.min.result ≤ c.in_ok-most.most = omega (arith, c.min.ensures) in
    c.above.ensures (λ axis. max c.min.result (acceleration_in c.args.depth c.args.t.now axis c.args.k)) c.accelerations-values.ensures.exact
    ∙ above_least kind.Acceleration c.in_ok-most.most c.min.result c.args.k (λ axis. acceleration_in c.args.depth c.args.t.now axis c.args.k) less
    ∙ ap (λ (limit : Option ℕ). sharp_at limit c.args.depth c.args.t.now c.args.k) (sym c.in_ok-most.was)
