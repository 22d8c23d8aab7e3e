use Rattle.speed_bound.proofs.Prelude.{common_steps, arith}
use Rattle.speed_bound.proofs.Reaches.{reach_none}
use Rattle.speed_bound.proofs.Walks.{three_told}
use Rattle.speed_bound.proofs.reaching.reach.Goals as goal

pub returns-then-late-eq0 : goal.returns-then-late-eq0
returns-then-late-eq0 c = grind (arith, common_steps, three_told, reach_none)
