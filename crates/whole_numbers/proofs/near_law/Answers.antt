use Rattle.whole_numbers.proofs.NearLemmas.{near_lifts}
use Rattle.whole_numbers.proofs.near_law.Goals as goal

pub returns : goal.returns
returns c = near_lifts
