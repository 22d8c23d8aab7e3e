use Rattle.sep_parts.proofs.Prelude.{common_steps, arith, to_z-of_z, w64}
use Rattle.sep_parts.proofs.NarrowLemmas.{narrow_fits, narrow_product, narrow_value, narrow_weight_fits}
use Rattle.sep_parts.proofs.short.short_product.Goals as goal

pub returns-clause-product : goal.returns-clause-product
returns-clause-product c = grind (arith, common_steps, narrow_value, narrow_weight_fits, narrow_fits, narrow_product, to_z-of_z)

pub returns-clause-small : goal.returns-clause-small
returns-clause-small c = rw (returns-clause-product c) (narrow_product c.args.weight c.args.value c.requires.weight c.requires.value)

pub overflow_mul-result : goal.overflow_mul-result
overflow_mul-result c =
    rw (to_z-of_z w64 c.args.weight (narrow_weight_fits c.args.weight c.requires.weight), to_z-of_z w64 c.args.value (narrow_value c.args.value c.requires.value))
    (narrow_fits _ (narrow_product c.args.weight c.args.value c.requires.weight c.requires.value))
