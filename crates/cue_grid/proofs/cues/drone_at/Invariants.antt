use Rattle.cue_grid.proofs.Prelude.{◌≡◌, drop, has_name, names_of}
use Rattle.cue_grid.proofs.cues.drone_at.Given as goal

abbrev pub invariant-loop-k : goal.invariant-loop-k
invariant-loop-k l = has_name (names_of l.drones) l.name ≡ has_name (names_of (drop l.k l.drones)) l.name
