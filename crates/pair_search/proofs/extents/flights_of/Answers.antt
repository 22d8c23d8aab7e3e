use Rattle.pair_search.proofs.Prelude.{rules, ◌<◌, ◌≢◌, ℕ, length, arith, below_more, get_or, get_or-set_other, get_or-set_same, slice_set, Extent, IsFlight}
use Rattle.pair_search.proofs.extents.flights_of.Goals as goal

pub loop-drone-preserved : goal.loop-drone-preserved
loop-drone-preserved c =
    let inside : c.loop-drone.drone < length c.loop-drone.flights = omega (arith, c.loop-drone-test.true, c.drones-drone-end.ensures.few, c.loop-drone.invariant.all) in
    record {
      all = search rules;
      done = below_more (λ (drone : ℕ). (none : Extent) → IsFlight c.args.curves.now drone (get_or (slice_set c.loop-drone.flights c.loop-drone.drone c.flight_of.result) drone none)) c.loop-drone.drone
          (λ drone less none. let ne : drone ≢ c.loop-drone.drone = omega (arith, less) in rw get_or-set_other (c.loop-drone.invariant.done drone less none)) (λ none. rw get_or-set_same c.flight_of.ensures);
    }
