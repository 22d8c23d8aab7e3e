use Rattle.keepout_boxes.proofs.Prelude.{◌≡◌, length, CoverAll}
use Rattle.whole_numbers.specs.Limits.{most_drones}
use Rattle.keepout_boxes.proofs.flight.boxes_of.Given as goal

abbrev pub invariant-loop-drone : goal.invariant-loop-drone
invariant-loop-drone l = record {
  all : length l.boxes ≡ most_drones;
  done : CoverAll l.curves l.boxes l.drone;
}
