use Rattle.cue_grid.proofs.Prelude.{◌≡◌, take, map}
use Rattle.cue_grid.proofs.cues.same_job_each.Given as goal

abbrev pub invariant-loop-drone : goal.invariant-loop-drone
invariant-loop-drone l = l.jobs.items ≡ map (λ d. l.job) (take l.drone-index l.drones)
