use Rattle.flight_steps.proofs.Prelude.{arith}
use Rattle.flight_steps.proofs.Walks.{other_here, other_end}
use Rattle.flight_steps.proofs.judging.first_other.Goals as goal

pub returns-then-d-b : goal.returns-then-d-b
returns-then-d-b c = other_here c.args.a.now c.args.b.now c.loop-d.d (omega arith) (omega arith) c.loop-d.invariant.same

pub returns-then-a-b : goal.returns-then-a-b
returns-then-a-b c = other_end c.args.a.now c.args.b.now c.loop-d.d (omega arith) (omega arith) c.loop-d.invariant.same
