use Rattle.fleet_world.proofs.Prelude.{common_steps, arith}
use Rattle.upload_model.proofs.Sending.{world-last}
use Rattle.fleet_world.proofs.Points.{on_ok, if_ok}
use Rattle.fleet_world.proofs.world.World.step.Goals as goal

pub returns-clause-stands : goal.returns-clause-stands
returns-clause-stands c = grind (arith, common_steps, on_ok, world-last)

pub returns-clause-answer : goal.returns-clause-answer
returns-clause-answer c = grind (arith, common_steps, if_ok, world-last)
