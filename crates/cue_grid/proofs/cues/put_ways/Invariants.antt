use Rattle.cue_grid.proofs.Prelude.{◌≡◌, take, place_named, put_acts, way_if}
use Rattle.cue_grid.proofs.cues.put_ways.Given as goal

abbrev pub invariant-loop-k : goal.invariant-loop-k
invariant-loop-k l = l.jobs.items ≡ put_acts (λ n. way_if l.smooth (place_named l.places n)) l.job.line l.job.frame (take l.k l.drones) l.initial.jobs.items
