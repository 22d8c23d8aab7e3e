use Rattle.sep_parts.proofs.Prelude.{arith, ◌*ℤ◌, ints, pos, to_z-of_z, w128}
use Rattle.sep_parts.proofs.Limits.{factor_fits, factor_small, factor_told}
use Rattle.sep_parts.proofs.directions.product.Goals as goal

pub overflow_cast-result : goal.overflow_cast-result
overflow_cast-result c = omega (arith, ints, c.requires.factor)

pub overflow_mul-result : goal.overflow_mul-result
overflow_mul-result c =
    rw (factor_told c.args.factor c.args.x c.requires.factor c.requires.positive c.requires.small)
    (factor_fits c.args.factor c.args.x c.requires.factor c.requires.positive c.requires.small)

pub returns-clause-exact : goal.returns-clause-exact
returns-clause-exact c =
    rw (factor_told c.args.factor c.args.x c.requires.factor c.requires.positive c.requires.small)
    (to_z-of_z w128 (pos c.args.factor *ℤ c.args.x) (factor_fits c.args.factor c.args.x c.requires.factor c.requires.positive c.requires.small))

pub returns-clause-positive : goal.returns-clause-positive
returns-clause-positive c = rw (returns-clause-exact c) (factor_small c.args.factor c.args.x c.requires.factor c.requires.positive c.requires.small).0

pub returns-clause-small : goal.returns-clause-small
returns-clause-small c = rw (returns-clause-exact c) (factor_small c.args.factor c.args.x c.requires.factor c.requires.positive c.requires.small).1
