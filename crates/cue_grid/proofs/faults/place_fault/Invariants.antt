use Rattle.cue_grid.proofs.Prelude.{◌≡◌, [], drop, take, names_of, first_of, place_faults}
use Rattle.cue_grid.proofs.faults.place_fault.Given as goal

abbrev pub invariant-loop-i : goal.invariant-loop-i
invariant-loop-i l = first_of (place_faults (names_of l.drones) [] l.places) ≡ first_of (place_faults (names_of l.drones) (names_of (take l.i l.places)) (drop l.i l.places))
