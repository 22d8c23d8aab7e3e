use Rattle.pair_search.proofs.Prelude.{◌≡◌, length, HaveFlights}
use Rattle.whole_numbers.specs.Limits.{most_drones}
use Rattle.pair_search.proofs.extents.flights_of.Given as goal

abbrev pub invariant-loop-drone : goal.invariant-loop-drone
invariant-loop-drone l = record {
  all : length l.flights ≡ most_drones;
  done : HaveFlights l.curves l.flights l.drone;
}
