use Rattle.bezier_core.proofs.Prelude.{common_steps, arith, to_z-of_z}
use Rattle.bezier_core.proofs.EightLemmas.{weighted_below, weighted_fits}
use Rattle.bezier_core.proofs.weighted.Goals as goal

pub overflow_mul-result : goal.overflow_mul-result
overflow_mul-result c = grind (arith, common_steps, to_z-of_z, weighted_fits)

pub returns : goal.returns
returns c = grind (arith, common_steps, weighted_fits, to_z-of_z, weighted_below)
