use Rattle.pair_search.proofs.Fleets.{clear_found, blocked_found}
use Rattle.pair_search.proofs.fleet.tree_of.Goals as goal

pub returns-in-Clear-clause-finds : goal.returns-in-Clear-clause-finds
returns-in-Clear-clause-finds g c =
    clear_found c.args.ruler.now c.args.depth c.args.curves.now c.args.slot c.difference_of-diff.result c.difference_of-diff.ensures
    c.in_ok-search_by.field-0 c.search_by.new.nodes.items c.in-Clear.is c.in_ok-search_by.ensures.exact

pub returns-in-Blocked-clause-finds : goal.returns-in-Blocked-clause-finds
returns-in-Blocked-clause-finds g c =
    blocked_found c.args.ruler.now c.args.depth c.args.curves.now c.args.slot c.difference_of-diff.result c.difference_of-diff.ensures
    c.in_ok-search_by.field-0 c.in-Blocked.index c.search_by.new.nodes.items c.in-Blocked.is c.in_ok-search_by.ensures.exact
