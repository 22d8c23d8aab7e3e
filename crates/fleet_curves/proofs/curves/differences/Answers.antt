use Rattle.fleet_curves.proofs.Prelude.{◌^◌, All, List, ℤ, IsBelow}
use Rattle.fleet_curves.proofs.Small.{three}
use Rattle.fleet_curves.proofs.curves.differences.Goals as goal

pub of_rows-requires : goal.of_rows-requires
of_rows-requires c = three (λ (row : List ℤ). All (IsBelow (2 ^ 30)) row) c.one_less.result c.one_less-2.result c.one_less-3.result c.one_less.ensures.small c.one_less-2.ensures.small c.one_less-3.ensures.small
