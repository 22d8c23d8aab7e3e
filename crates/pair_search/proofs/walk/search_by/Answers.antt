use Rattle.pair_search.proofs.SearchLaws.{clear_found}
use Rattle.pair_search.proofs.walk.search_by.Goals as goal

pub returns-then-not-matches-clause-clear : goal.returns-then-not-matches-clause-clear
returns-then-not-matches-clause-clear g c =
    clear_found c.args.ruler.now.clearance c.args.diff.now c.args.ruler.now.directions c.args.depth c.walk-answer.result c.walk-answer.new.nodes.items c.walk-answer.ensures.gives

pub returns-else-not-matches-clause-clear : goal.returns-else-not-matches-clause-clear
returns-else-not-matches-clause-clear g c =
    clear_found c.args.ruler.now.clearance c.args.diff.now c.args.ruler.now.directions c.args.depth c.walk-answer.result c.walk-answer.new.nodes.items c.walk-answer.ensures.gives
