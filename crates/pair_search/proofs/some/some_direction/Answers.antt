use Rattle.pair_search.proofs.Prelude.{false, arith}
use Rattle.pair_search.proofs.EndLemmas.{both_marked, marked_some}
use Rattle.pair_search.proofs.some.some_direction.Goals as goal

pub returns-in-Some : goal.returns-in-Some
returns-in-Some g c =
    marked_some c.args.ruler.now c.args.diff.now c.args.level.now.place c.args.near.front false c.some_marked.result c.in-Some.dir c.some_marked.ensures c.in-Some.is

pub returns-in-None : goal.returns-in-None
returns-in-None g c =
    both_marked c.args.ruler.now c.args.diff.now c.args.level.now.place c.args.near c.some_marked.result c.some_marked-in-None.result (omega (arith, c.count-count.ensures.exact, c.count-count.ensures.few))
    c.requires.near c.some_marked.ensures c.in-None.is c.some_marked-in-None.ensures
