use Rattle.show_studies.proofs.Prelude.{List, blocked_among, blocked_parts, IsAhead, Slot, clearance_of, most_blocked, SaysOf}
use Rattle.pair_search.proofs.Fleets.{left}
use Rattle.show_studies.proofs.ListingLemmas.{IsPending}
use Rattle.show_studies.proofs.blocking.put_slots.Given as goal

-- whatever lines come of the slots that are still to come, they end as those of all
abbrev pub invariant-loop-alloc : goal.invariant-loop-alloc
invariant-loop-alloc l =
    (rest : List Slot) × IsAhead l.curves.drones l.curves.cues l.slot rest
    × IsPending (SaysOf l.fitted l.study.depth l.study.fine) (blocked_among (clearance_of l.fitted.settings l.fitted.trajs) l.study.depth l.curves) most_blocked
    (blocked_parts l.fitted.settings l.study.depth l.fitted.trajs) l.fn.text l.left l.text rest

abbrev pub decreases-loop-alloc : goal.decreases-loop-alloc
decreases-loop-alloc l = left l.slot
