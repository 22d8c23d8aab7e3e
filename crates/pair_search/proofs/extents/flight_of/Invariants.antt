use Rattle.pair_search.proofs.Prelude.{◌<◌, ℕ, curves_at, IsExtent}
use Rattle.pair_search.proofs.extents.flight_of.Given as goal

abbrev pub invariant-loop-cue : goal.invariant-loop-cue
invariant-loop-cue l = record {
  first : IsExtent (curves_at l.curves l.drone 0) l.flight;
  done : (cue : ℕ) → cue < l.cue → IsExtent (curves_at l.curves l.drone cue) l.flight;
}
