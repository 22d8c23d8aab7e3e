use Rattle.fleet_curves.proofs.Prelude.{common_steps, ◌≤◌, ◌^◌, length, All, arith, to_z-of_z, Bez, IsBelow, stored, element_on}
use Rattle.fleet_curves.proofs.Small.{three}
use Rattle.fleet_curves.proofs.Differences.{same_curves, three_axes}
use Rattle.fleet_curves.proofs.curves.raised_segment.Goals as goal

pub returns-clause-exact : goal.returns-clause-exact
returns-clause-exact c = grind (arith, common_steps, same_curves, to_z-of_z)

pub returns-clause-formed : goal.returns-clause-formed
returns-clause-formed c = three_axes (λ axis. length (stored (element_on c.args.s.now axis)) ≤ 7) c.raised.ensures.formed c.raised-2.ensures.formed c.raised-3.ensures.formed

pub returns-clause-small : goal.returns-clause-small
returns-clause-small c = three (λ (curve : Bez 8). All (IsBelow (2 ^ 28)) curve.b) c.raised.result c.raised-2.result c.raised-3.result c.raised.ensures.small c.raised-2.ensures.small c.raised-3.ensures.small
