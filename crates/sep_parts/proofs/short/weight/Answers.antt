use Rattle.sep_parts.proofs.Prelude.{pos, ◌*ℤ◌, to_z-of_z, w64}
use Rattle.sep_parts.proofs.NarrowLemmas.{entry_product, entry_told, narrow_weight_fits}
use Rattle.sep_parts.proofs.short.weight.Goals as goal

pub overflow_mul-result : goal.overflow_mul-result
overflow_mul-result c =
    rw (entry_told _ _ c.args.entry c.args.axis c.from.ensures c.from-2.ensures c.requires.entry c.requires.axis)
    (narrow_weight_fits _ (entry_product c.args.entry c.args.axis c.requires.entry c.requires.axis))

pub returns-clause-exact : goal.returns-clause-exact
returns-clause-exact c =
    rw (entry_told _ _ c.args.entry c.args.axis c.from.ensures c.from-2.ensures c.requires.entry c.requires.axis)
    (to_z-of_z w64 (c.args.entry *ℤ pos c.args.axis) (narrow_weight_fits _ (entry_product c.args.entry c.args.axis c.requires.entry c.requires.axis)))

pub returns-clause-small : goal.returns-clause-small
returns-clause-small c = rw (returns-clause-exact c) (entry_product c.args.entry c.args.axis c.requires.entry c.requires.axis)
