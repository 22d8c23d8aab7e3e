use Rattle.show_studies.proofs.ListingLemmas.{blocked_is, clear_is}
use Rattle.show_studies.proofs.blocking.part_in.Goals as goal

pub returns-in-Clear-clause-part : goal.returns-in-Clear-clause-part
returns-in-Clear-clause-part c =
    clear_is c.args.ruler.now c.args.depth c.args.curves.now c.args.slot c.diff-diff.result c.in_ok-search_with.field-0 c.search_with.new.nodes.items c.diff-diff.ensures c.in-Clear.is c.in_ok-search_with.ensures.exact

pub returns-clause-part : goal.returns-clause-part
returns-clause-part c =
    blocked_is c.args.ruler.now c.args.depth c.args.curves.now c.args.slot c.diff-diff.result c.in_ok-search_with.field-0 c.in-Blocked.index c.search_with.new.nodes.items c.diff-diff.ensures c.in-Blocked.is c.in_ok-search_with.ensures.exact
