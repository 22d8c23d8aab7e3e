use Rattle.dynamics_bound.proofs.Prelude.{ℕ, sym, ◌∙◌, ap, Option, jump, jumps_at}
use Rattle.dynamics_bound.proofs.excess.jumps_at.Goals as goal

pub returns : goal.returns
returns c =
    c.above.ensures (λ axis. jump c.args.t.now axis c.args.k) c.jumps.ensures.exact ∙ ap (λ (limit : Option ℕ). jumps_at limit c.args.t.now c.args.k) (sym c.in_ok-most.was)
