use Rattle.dynamics_bound.proofs.Prelude.{common_steps, arith, to_z-of_z}
use Rattle.dynamics_bound.proofs.Velocities.{first_cubic, first_seven, once, thrice, seven_times}
use Rattle.dynamics_bound.proofs.velocity.first_step.Goals as goal

pub returns-in-Linear : goal.returns-in-Linear
returns-in-Linear c = grind (arith, common_steps, to_z-of_z, once)

pub returns-in-Cubic : goal.returns-in-Cubic
returns-in-Cubic c = grind (arith, common_steps, to_z-of_z, thrice, first_cubic)

pub returns-in-Seven : goal.returns-in-Seven
returns-in-Seven c = grind (arith, common_steps, to_z-of_z, seven_times, first_seven)
