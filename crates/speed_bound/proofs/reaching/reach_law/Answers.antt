use Rattle.speed_bound.proofs.Reaches.{reach_law_holds}
use Rattle.speed_bound.proofs.reaching.reach_law.Goals as goal

pub returns : goal.returns
returns c = reach_law_holds
