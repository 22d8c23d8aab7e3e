use Rattle.fleet_curves.proofs.Prelude.{◌≤◌, length, stored, element_on}
use Rattle.fleet_curves.proofs.Differences.{three_axes}
use Rattle.fleet_curves.proofs.formed.segment_law.Goals as goal

pub returns : goal.returns
returns c = three_axes (λ axis. length (stored (element_on c.args.s.now axis)) ≤ 7) c.element_law.ensures c.element_law-2.ensures c.element_law-3.ensures
