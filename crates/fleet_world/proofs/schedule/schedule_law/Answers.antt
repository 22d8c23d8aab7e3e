use Rattle.fleet_world.proofs.Unaltered.{unaltered_law}
use Rattle.fleet_world.proofs.schedule.schedule_law.Goals as goal

pub returns : goal.returns
returns c = unaltered_law
