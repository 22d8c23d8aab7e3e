use Rattle.std.proofs.Common.{◌^◌, All}
use Rattle.bezier_core.specs.declared.Bez.{Bez}
use Rattle.whole_numbers.specs.Numbers.{IsBelow}
use Rattle.fleet_curves.proofs.Small.{three}
use Rattle.safety_tests.proofs.parts_of_cues.aside.Goals as goal

pub returns : goal.returns
returns c = three (λ (curve : Bez 8). All (IsBelow (2 ^ 86)) curve.b) c.row.result c.row-2.result c.row-3.result c.row.ensures c.row-2.ensures c.row-3.ensures
