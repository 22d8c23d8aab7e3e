use Rattle.pair_search.proofs.Prelude.{common_steps, neg_ℤ, arith, to_z-of_z}
use Rattle.pair_search.proofs.LaneLemmas.{low_fits}
use Rattle.pair_search.proofs.OppositeLemmas.{high_fits, high_never, high_opposite}
use Rattle.pair_search.proofs.opposites.high_of.Goals as goal

pub returns-then-are_opposite-clause-high : goal.returns-then-are_opposite-clause-high
returns-then-are_opposite-clause-high c = grind (arith, common_steps, low_fits, neg_ℤ, to_z-of_z, high_fits, high_opposite)

pub returns-else-are_opposite-clause-high : goal.returns-else-are_opposite-clause-high
returns-else-are_opposite-clause-high c = high_never c.args.lanes.now c.args.i c.args.j (c.requires.lanes c.args.i c.requires.i)
