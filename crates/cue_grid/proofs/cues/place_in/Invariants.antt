use Rattle.cue_grid.proofs.Prelude.{◌≡◌, drop, place_named}
use Rattle.cue_grid.proofs.cues.place_in.Given as goal

abbrev pub invariant-loop-place : goal.invariant-loop-place
invariant-loop-place l = place_named l.places l.drone ≡ place_named (drop l.place-index l.places) l.drone
