use Rattle.speed_bound.proofs.Still.{still}
use Rattle.speed_bound.proofs.reaching.still_law.Goals as goal

pub returns : goal.returns
returns c = still
