use Rattle.figure_expand.proofs.Prelude.{arith, pos, ◌*ℤ◌}
use Rattle.figure_expand.proofs.Eased.{factors_told, million_told, million_small, product_fits, share_small, sum_fits, sum_told}
use Rattle.figure_expand.proofs.shapes.millionths.Goals as goal

pub overflow_mul-from : goal.overflow_mul-from
overflow_mul-from c = rw (factors_told c.from.result c.args.s c.args.share c.from.ensures (omega (arith, c.requires.share)) c.ranges.s) (product_fits _ (share_small c.args.share c.args.s c.requires.share c.requires.number))

pub overflow_add-from : goal.overflow_add-from
overflow_add-from c = rw (sum_told _ (pos c.args.share *ℤ c.args.s) 500000 (factors_told c.from.result c.args.s c.args.share c.from.ensures (omega (arith, c.requires.share)) c.ranges.s) (share_small c.args.share c.args.s c.requires.share c.requires.number)) (sum_fits _ 500000 (share_small c.args.share c.args.s c.requires.share c.requires.number) (omega arith))

pub div_euclid-requires-clause-no_overflow : goal.div_euclid-requires-clause-no_overflow
div_euclid-requires-clause-no_overflow c = λ same _. absurd (omega (arith, same))

pub returns-clause-value : goal.returns-clause-value
returns-clause-value c =
    million_told c.div_euclid.result _ (pos c.args.share *ℤ c.args.s) (share_small c.args.share c.args.s c.requires.share c.requires.number) (sum_told _ (pos c.args.share *ℤ c.args.s) 500000 (factors_told c.from.result c.args.s c.args.share c.from.ensures c.requires.share c.ranges.s) (share_small c.args.share c.args.s c.requires.share c.requires.number)) c.div_euclid.ensures

pub returns-clause-small : goal.returns-clause-small
returns-clause-small c = million_small (pos c.args.share *ℤ c.args.s) _ (share_small c.args.share c.args.s c.requires.share c.requires.number) (returns-clause-value c)
