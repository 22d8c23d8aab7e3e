use Rattle.sep_parts.proofs.Prelude.{◌∙◌, to_z-of_z, w64}
use Rattle.sep_parts.proofs.NarrowLemmas.{long_product, long_product_fits, long_told}
use Rattle.sep_parts.proofs.short.long_product.Goals as goal

pub overflow_mul-result : goal.overflow_mul-result
overflow_mul-result c =
    long_product_fits _ _ c.args.weight c.args.value (c.from.ensures ∙ to_z-of_z w64 c.args.weight c.ranges.weight)
    (c.from-2.ensures ∙ to_z-of_z w64 c.args.value c.ranges.value) c.requires.weight c.ranges.value

pub returns-clause-product : goal.returns-clause-product
returns-clause-product c =
    long_told _ _ c.args.weight c.args.value (c.from.ensures ∙ to_z-of_z w64 c.args.weight c.ranges.weight)
    (c.from-2.ensures ∙ to_z-of_z w64 c.args.value c.ranges.value) c.requires.weight c.ranges.value

pub returns-clause-small : goal.returns-clause-small
returns-clause-small c = rw (returns-clause-product c) (long_product c.args.weight c.args.value c.requires.weight c.ranges.value)
