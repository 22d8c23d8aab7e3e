use Rattle.pair_search.proofs.EndLemmas.{drop_one}
use Rattle.pair_search.proofs.ends.WaitingEnds.drop_next.Goals as goal

pub returns : goal.returns
returns c = drop_one c.self.inside.top c.self.inside.ends c.args.self.now c.self.view_is
