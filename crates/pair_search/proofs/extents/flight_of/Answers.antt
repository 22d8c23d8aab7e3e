use Rattle.pair_search.proofs.Prelude.{ℕ, below_more, curves_at, IsExtent}
use Rattle.pair_search.proofs.extents.flight_of.Goals as goal

pub loop-cue-preserved : goal.loop-cue-preserved
loop-cue-preserved c =
    let both = c.wider-flight.ensures _ _ c.loop-cue.invariant.first c.extent_at.ensures in
    record {
      first = both.0;
      done = below_more (λ (cue : ℕ). IsExtent (curves_at c.args.curves.now c.args.drone cue) c.wider-flight.result) c.loop-cue.cue
          (λ cue less. (c.wider-flight.ensures _ _ (c.loop-cue.invariant.done cue less) c.extent_at.ensures).0) both.1;
    }
