use Rattle.cue_grid.proofs.Prelude.{◌≡◌, [], drop, take, names_of, formation_names, shown, first_of, formation_faults}
use Rattle.cue_grid.proofs.faults.formation_fault.Given as goal

abbrev pub invariant-loop-i : goal.invariant-loop-i
invariant-loop-i l = first_of (formation_faults (names_of (shown l.show).drones) [] l.formations) ≡ first_of (formation_faults (names_of (shown l.show).drones) (formation_names (take l.i l.formations)) (drop l.i l.formations))
