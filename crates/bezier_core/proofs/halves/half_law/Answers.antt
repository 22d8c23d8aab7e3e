use Rattle.bezier_core.proofs.Prelude.{at}
use Rattle.bezier_core.proofs.PolarLemmas.{left_half, right_half}
use Rattle.bezier_core.proofs.halves.half_law.Goals as goal

pub returns-clause-left : goal.returns-clause-left
returns-clause-left c = left_half (at c.args.b.now.b) c.args.a c.args.c

pub returns-clause-right : goal.returns-clause-right
returns-clause-right c = right_half (at c.args.b.now.b) c.args.a c.args.c

pub returns-clause-left_everywhere : goal.returns-clause-left_everywhere
returns-clause-left_everywhere c f a d = left_half f a d

pub returns-clause-right_everywhere : goal.returns-clause-right_everywhere
returns-clause-right_everywhere c f a d = right_half f a d
