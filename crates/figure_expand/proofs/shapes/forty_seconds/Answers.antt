use Rattle.figure_expand.proofs.Prelude.{arith, pos, ◌*ℤ◌}
use Rattle.figure_expand.proofs.Eased.{factors_told, forty_second_small, forty_second_told, product_fits, sum_fits, sum_told, turn_small, wide}
use Rattle.figure_expand.proofs.shapes.forty_seconds.Goals as goal

pub overflow_mul-from : goal.overflow_mul-from
overflow_mul-from c = rw (factors_told c.from.result c.args.s c.args.n c.from.ensures (omega (arith, c.ranges.n.fits)) c.ranges.s) (product_fits _ (wide _ (turn_small c.args.n c.args.s (omega (arith, c.ranges.n.fits)) c.requires)))

pub overflow_add-from : goal.overflow_add-from
overflow_add-from c = rw (sum_told _ (pos c.args.n *ℤ c.args.s) 21 (factors_told c.from.result c.args.s c.args.n c.from.ensures (omega (arith, c.ranges.n.fits)) c.ranges.s) (wide _ (turn_small c.args.n c.args.s (omega (arith, c.ranges.n.fits)) c.requires))) (sum_fits _ 21 (wide _ (turn_small c.args.n c.args.s (omega (arith, c.ranges.n.fits)) c.requires)) (omega arith))

pub div_euclid-requires-clause-no_overflow : goal.div_euclid-requires-clause-no_overflow
div_euclid-requires-clause-no_overflow c = λ same _. absurd (omega (arith, same))

pub returns-clause-value : goal.returns-clause-value
returns-clause-value c =
    forty_second_told c.div_euclid.result _ (pos c.args.n *ℤ c.args.s) (turn_small c.args.n c.args.s (omega (arith, c.ranges.n.fits)) c.requires) (sum_told _ (pos c.args.n *ℤ c.args.s) 21 (factors_told c.from.result c.args.s c.args.n c.from.ensures (omega (arith, c.ranges.n.fits)) c.ranges.s) (wide _ (turn_small c.args.n c.args.s (omega (arith, c.ranges.n.fits)) c.requires))) c.div_euclid.ensures

pub returns-clause-small : goal.returns-clause-small
returns-clause-small c = forty_second_small (pos c.args.n *ℤ c.args.s) _ (turn_small c.args.n c.args.s (omega (arith, c.ranges.n.fits)) c.requires) (returns-clause-value c)
