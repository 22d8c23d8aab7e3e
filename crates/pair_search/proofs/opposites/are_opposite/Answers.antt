use Rattle.pair_search.proofs.Prelude.{common_steps, arith, to_z-of_z}
use Rattle.pair_search.proofs.LaneLemmas.{weight_fits}
use Rattle.pair_search.proofs.opposites.are_opposite.Goals as goal

pub returns : goal.returns
returns c = grind (arith, common_steps, weight_fits, to_z-of_z)
