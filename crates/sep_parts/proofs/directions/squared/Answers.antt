use Rattle.sep_parts.proofs.Prelude.{◌*ℤ◌, to_z-of_z, w128}
use Rattle.sep_parts.proofs.Entries.{square_fits}
use Rattle.sep_parts.proofs.Limits.{weight_fits, weight_square}
use Rattle.sep_parts.proofs.directions.squared.Goals as goal

pub overflow_mul-result : goal.overflow_mul-result
overflow_mul-result c = rw (to_z-of_z w128 c.args.weight (weight_fits c.args.weight c.requires)) (square_fits _ (weight_square c.args.weight c.requires))

pub returns-clause-exact : goal.returns-clause-exact
returns-clause-exact c =
    rw (to_z-of_z w128 c.args.weight (weight_fits c.args.weight c.requires))
    (to_z-of_z w128 (c.args.weight *ℤ c.args.weight) (square_fits _ (weight_square c.args.weight c.requires)))

pub returns-clause-small : goal.returns-clause-small
returns-clause-small c = rw (returns-clause-exact c) (weight_square c.args.weight c.requires)
