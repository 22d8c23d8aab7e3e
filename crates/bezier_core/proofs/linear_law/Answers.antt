use Rattle.bezier_core.proofs.Prelude.{at, controls}
use Rattle.bezier_core.proofs.CurveLemmas.{linear_sum}
use Rattle.bezier_core.proofs.linear_law.Goals as goal

pub returns-clause-here : goal.returns-clause-here
returns-clause-here c = linear_sum (at (controls c.args.xyz.now 0)) (at (controls c.args.xyz.now 1)) (at (controls c.args.xyz.now 2)) (at c.args.w 0) (at c.args.w 1) (at c.args.w 2) c.args.a c.args.c

pub returns-clause-everywhere : goal.returns-clause-everywhere
returns-clause-everywhere c f g h u v w a d = linear_sum f g h u v w a d
