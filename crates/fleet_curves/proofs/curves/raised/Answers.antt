use Rattle.fleet_curves.proofs.Prelude.{common_steps, arith}
use Rattle.fleet_curves.proofs.Small.{told_short}
use Rattle.fleet_curves.proofs.Differences.{same_two}
use Rattle.fleet_curves.proofs.curves.raised.Goals as goal

pub returns-in-Linear-clause-exact : goal.returns-in-Linear-clause-exact
returns-in-Linear-clause-exact c = grind (arith, common_steps, same_two, told_short)
