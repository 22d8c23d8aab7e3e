use Rattle.cue_grid.proofs.Prelude.{◌≡◌, drop, map, job_of, shown, played}
use Rattle.cue_grid.proofs.cues.cue.Given as goal

abbrev pub invariant-loop-k : goal.invariant-loop-k
invariant-loop-k l = l.jobs.items ≡ map (λ d. job_of (shown l.show).formations (played l.cast) l.line (drop l.k l.acts) d.name) (shown l.show).drones
