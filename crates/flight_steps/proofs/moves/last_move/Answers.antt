use Rattle.flight_steps.proofs.Prelude.{arith}
use Rattle.flight_steps.proofs.Walks.{last_end}
use Rattle.flight_steps.proofs.moves.last_move.Goals as goal

pub returns : goal.returns
returns c = last_end c.loop-l.last c.args.legs.now c.loop-l.l-index (omega arith) c.loop-l.invariant
