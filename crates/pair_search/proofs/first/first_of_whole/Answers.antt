use Rattle.pair_search.proofs.Prelude.{root}
use Rattle.pair_search.proofs.Firsts.{first_found}
use Rattle.pair_search.proofs.first.first_of_whole.Goals as goal

pub returns : goal.returns
returns g c = first_found c.args.ruler.now c.args.diff.now root c.args.near c.count.result c.first_left.result c.requires.near c.count.ensures.exact c.first_left.ensures
