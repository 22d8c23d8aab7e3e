use Rattle.cue_grid.proofs.Prelude.{◌≡◌, take}
use Rattle.cue_grid.proofs.unrolling.copies_of.Given as goal

abbrev pub invariant-loop-drone : goal.invariant-loop-drone
invariant-loop-drone l = l.copies.items ≡ take l.drone-index l.drones
