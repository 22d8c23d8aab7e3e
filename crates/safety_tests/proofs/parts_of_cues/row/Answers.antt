use Rattle.std.proofs.Common.{◌^◌, FitsSigned}
use mir.Syntax.{w128}
use Rattle.whole_numbers.specs.Numbers.{IsBelow}
use Rattle.fleet_curves.proofs.Differences.{eight_all}
use Rattle.fleet_curves.proofs.Small.{kept}
use Rattle.safety_tests.proofs.parts_of_cues.row.Goals as goal

pub returns : goal.returns
returns c =
    let value_fits : FitsSigned w128 c.args.value = c.ranges.value in
    let dip_fits : FitsSigned w128 c.args.dip = c.ranges.dip in
    let value = kept (2 ^ 86) c.args.value value_fits c.requires.value in
    eight_all (IsBelow (2 ^ 86)) _ _ _ _ _ _ _ _ value value value (kept (2 ^ 86) c.args.dip dip_fits c.requires.dip) value value value value
