use Rattle.bezier_core.proofs.Prelude.{common_steps, arith}
use Rattle.bezier_core.proofs.BlendLemmas.{length_bounds}
use Rattle.bezier_core.proofs.RaisedLemmas.{bernstein-raised}
use Rattle.bezier_core.proofs.CurveLemmas.{raise}
use Rattle.bezier_core.proofs.raise_law.Goals as goal

pub returns-clause-here : goal.returns-clause-here
returns-clause-here g c = grind (arith, common_steps, length_bounds, raise)

pub returns-clause-everywhere : goal.returns-clause-everywhere
returns-clause-everywhere g c n f a d low = bernstein-raised n f a d low
