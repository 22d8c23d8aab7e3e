use Rattle.flight_steps.proofs.Prelude.{arith}
use Rattle.flight_steps.proofs.Walks.{seams_short-shows, seams_short-downs}
use Rattle.flight_steps.proofs.judging.seams_fault.Goals as goal

pub returns-then-d-shows : goal.returns-then-d-shows
returns-then-d-shows c = seams_short-shows c.args.ups.now c.args.shows.now c.args.downs.now c.loop-d.d (omega arith) c.loop-d.invariant

pub returns-then-d-downs : goal.returns-then-d-downs
returns-then-d-downs c = seams_short-downs c.args.ups.now c.args.shows.now c.args.downs.now c.loop-d.d (omega arith) c.loop-d.invariant
