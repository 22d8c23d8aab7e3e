use Rattle.cue_grid.proofs.Prelude.{◌≡◌, drop, player}
use Rattle.cue_grid.proofs.cues.player.Given as goal

abbrev pub invariant-loop-i : goal.invariant-loop-i
invariant-loop-i l = player l.roles l.drones l.name ≡ player (drop l.i l.roles) (drop l.i l.drones) l.name
