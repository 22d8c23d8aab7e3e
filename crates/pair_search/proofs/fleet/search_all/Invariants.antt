use Rattle.pair_search.proofs.Prelude.{◌≡◌, List, ◌++◌, map, Slot, best_nodes, slots_in, AreWeighed}
use Rattle.pair_search.proofs.Fleets.{IsPending, left}
use Rattle.pair_search.proofs.fleet.search_all.Given as goal

-- the slots so far aren't blocked, and have their trees; two points are kept, weighed
abbrev pub invariant-loop-depth : goal.invariant-loop-depth
invariant-loop-depth g l =
    (rest : List Slot) × IsPending l.ruler l.depth l.curves l.slot rest
    × (l.trees ++ map (best_nodes l.ruler l.depth l.curves) rest ≡ map (best_nodes l.ruler l.depth l.curves) (slots_in l.curves))
    × AreWeighed l.opposites l.kept

abbrev pub decreases-loop-depth : goal.decreases-loop-depth
decreases-loop-depth g l = left l.slot
