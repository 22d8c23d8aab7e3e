use Rattle.pair_search.proofs.Prelude.{◌≡◌, ◌+◌, List, [], Slot, nodes_in, slots_in}
use Rattle.pair_search.proofs.Fleets.{IsPending, left}
use Rattle.pair_search.proofs.fleet.count_all.Given as goal

-- the slots so far aren't blocked, and their nodes are counted; no level waits
abbrev pub invariant-loop-depth : goal.invariant-loop-depth
invariant-loop-depth g l =
    (rest : List Slot) × IsPending l.ruler l.depth l.curves l.slot rest
    × (l.count + nodes_in l.ruler l.depth l.curves rest ≡ nodes_in l.ruler l.depth l.curves (slots_in l.curves))
    × (l.waiting ≡ [])

abbrev pub decreases-loop-depth : goal.decreases-loop-depth
decreases-loop-depth g l = left l.slot
