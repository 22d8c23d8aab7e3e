use Rattle.dynamics_bound.proofs.Prelude.{common_steps, ◌≡◌, ◌-ℤ◌, rules, sym, ◌∙◌, ap, ◌∷◌, FitsSigned, arith, to_z-of_z, w16, stored, last_step}
use Rattle.traj_codec.specs.declared.traj.Element.{Element}
use Rattle.dynamics_bound.proofs.Velocities.{last_cubic, last_seven, once, thrice, seven_times}
use Rattle.dynamics_bound.proofs.velocity.last_step.Goals as goal

pub returns-in-Linear : goal.returns-in-Linear
returns-in-Linear c =
    let from : FitsSigned w16 c.args.value = c.ranges.value in
    let to : FitsSigned w16 c.in-Linear.v = search rules in
    let exact : c.way.result ≡ c.in-Linear.v -ℤ c.args.value = simp to_z-of_z at c.way.ensures.exact in
    once c.way.result _ c.way.ensures.small exact ∙ ap (λ (e : Element). last_step (c.args.value ∷ stored e)) (sym c.in-Linear.is)

pub returns-in-Cubic : goal.returns-in-Cubic
returns-in-Cubic c = grind (arith, common_steps, to_z-of_z, thrice, last_cubic)

pub returns-in-Seven : goal.returns-in-Seven
returns-in-Seven c = grind (arith, common_steps, to_z-of_z, seven_times, last_seven)
