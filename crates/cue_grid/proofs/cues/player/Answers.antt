use Rattle.cue_grid.proofs.Prelude.{common_steps, arith}
use Rattle.cue_grid.proofs.Written.{role_later, role_behind}
use Rattle.cue_grid.proofs.cues.player.Goals as goal
use Rattle.cue_grid.proofs.cues.player.Goals.{else-i-drones-via-then-i-drones+else-same_name, else-i-drones-via-else-i-drones}

pub loop-i-preserved : goal.loop-i-preserved
loop-i-preserved c =
    grind (arith, common_steps, else-i-drones-via-then-i-drones+else-same_name, role_later, else-i-drones-via-else-i-drones, role_behind)
