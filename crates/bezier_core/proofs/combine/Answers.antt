use Rattle.bezier_core.proofs.Prelude.{common_steps, arith, pos, to_z, to_z-of_z}
use Rattle.bezier_core.proofs.BlendLemmas.{multiple_fits, multiples_fit, cast_count}
use Rattle.bezier_core.proofs.combine.Goals as goal

pub overflow_add-result : goal.overflow_add-result
overflow_add-result c = grind (arith, common_steps, to_z, pos, cast_count, multiple_fits, to_z-of_z, multiples_fit)

pub returns : goal.returns
returns c = grind (arith, common_steps, to_z, pos, cast_count, multiple_fits, multiples_fit, to_z-of_z)
