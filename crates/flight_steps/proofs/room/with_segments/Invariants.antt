use Rattle.flight_steps.proofs.Prelude.{◌≡◌, drop, flat_map, element_on, stored, Segment, with_more}
use Rattle.flight_steps.proofs.room.with_segments.Given as goal

abbrev pub invariant-loop-g : goal.invariant-loop-g
invariant-loop-g l =
    with_more l.all (flat_map (λ (g : Segment). stored (element_on g l.axis)) (drop l.g-index l.segments))
    ≡ with_more l.fn.s (flat_map (λ (g : Segment). stored (element_on g l.axis)) l.segments)
