use Rattle.traj_codec.proofs.Prelude.{common_steps, pos, arith, to_z-of_z}
use Rattle.traj_codec.proofs.PositionLemmas.{last-at}
use Rattle.traj_codec.proofs.ends.last_of.Goals as goal

pub returns : goal.returns
returns g c = grind (arith, common_steps, pos, to_z-of_z, last-at)
