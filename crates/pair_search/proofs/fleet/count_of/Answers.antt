use Rattle.pair_search.proofs.Prelude.{refl, Ok, difference}
use Rattle.pair_search.proofs.Marks.{root_counted}
use Rattle.pair_search.proofs.Fleets.{counted_found, uncounted_found}
use Rattle.pair_search.proofs.fleet.count_of.Goals as goal

pub returns-in-Ok-clause-finds : goal.returns-in-Ok-clause-finds
returns-in-Ok-clause-finds g c =
    counted_found c.args.ruler.now c.args.depth c.args.curves.now c.args.slot c.difference_of-diff.result c.difference_of-diff.ensures
    c.count_with.result c.in-Ok.count c.in-Ok.is c.count_with.ensures.gives

pub returns-in-Err-clause-finds : goal.returns-in-Err-clause-finds
returns-in-Err-clause-finds g c =
    uncounted_found c.args.ruler.now c.args.depth c.args.curves.now c.args.slot c.difference_of-diff.result c.difference_of-diff.ensures
    c.count_with.result c.in-Err.index c.in-Err.is c.count_with.ensures.gives

pub returns-then-is_far-clause-finds : goal.returns-then-is_far-clause-finds
returns-then-is_far-clause-finds g c =
    counted_found c.args.ruler.now c.args.depth c.args.curves.now c.args.slot (difference c.args.curves.now c.args.slot.a c.args.slot.b c.args.slot.cue) refl
    (Ok 1) 1 refl
    (root_counted c.args.ruler.now.clearance (difference c.args.curves.now c.args.slot.a c.args.slot.b c.args.slot.cue) c.args.ruler.now.directions c.args.depth (c.is_far.ensures c.if-is_far.true))
