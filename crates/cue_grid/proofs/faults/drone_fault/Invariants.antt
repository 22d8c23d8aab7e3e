use Rattle.cue_grid.proofs.Prelude.{◌≡◌, [], drop, take, names_of, first_of, drone_faults}
use Rattle.cue_grid.proofs.faults.drone_fault.Given as goal

abbrev pub invariant-loop-i : goal.invariant-loop-i
invariant-loop-i l = first_of (drone_faults [] l.drones) ≡ first_of (drone_faults (names_of (take l.i l.drones)) (drop l.i l.drones))
