use Rattle.pair_search.proofs.Firsts.{early_found}
use Rattle.pair_search.proofs.first.first_early.Goals as goal

pub returns : goal.returns
returns g c =
    early_found c.args.ruler.now c.args.diff.now c.args.near c.count.result c.early_of.result c.first_marked.result c.requires.near c.count.ensures.exact c.early_of.ensures.few.0 c.early_of.ensures.few.1 c.early_of.ensures.enough c.first_marked.ensures
