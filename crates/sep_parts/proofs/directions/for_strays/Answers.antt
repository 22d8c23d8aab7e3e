use Rattle.sep_parts.proofs.Prelude.{common_steps, pos, arith, to_z-of_z}
use Rattle.sep_parts.proofs.Limits.{strays_small}
use Rattle.sep_parts.proofs.directions.for_strays.Goals as goal

pub returns-clause-small : goal.returns-clause-small
returns-clause-small c = grind (arith, common_steps, to_z-of_z, pos, strays_small)
