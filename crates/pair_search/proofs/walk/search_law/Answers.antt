use Rattle.pair_search.proofs.SearchLaws.{laws}
use Rattle.pair_search.proofs.walk.search_law.Goals as goal

pub returns : goal.returns
returns c = laws
