use Rattle.std.proofs.Common.{◌^◌, ℤ, FitsSigned, to_z, of_z}
use Rattle.std.proofs.lemmas.Int.{ints}
use Rattle.std.proofs.Common.{arith}
use mir.Syntax.{w128}
use Rattle.whole_numbers.specs.Numbers.{IsBelow}
use Rattle.fleet_curves.proofs.Differences.{eight_all}
use Rattle.fleet_curves.proofs.Small.{kept}
use Rattle.safety_tests.proofs.searches.raised.Goals as goal

-- a number below 2^30 stays one in the program
stays : (x : ℤ) → IsBelow (2 ^ 30) x → IsBelow (2 ^ 30) (to_z w128 (of_z w128 x))
stays x small = let fits : FitsSigned w128 x = omega (arith, ints) in kept (2 ^ 30) x fits small

pub returns : goal.returns
returns c =
    eight_all (IsBelow (2 ^ 30)) _ _ _ _ _ _ _ _ (stays c.scaled.result c.scaled.ensures) (stays c.scaled-2.result c.scaled-2.ensures)
    (stays c.scaled-3.result c.scaled-3.ensures) (stays c.scaled-4.result c.scaled-4.ensures) (stays c.scaled-5.result c.scaled-5.ensures)
    (stays c.scaled-6.result c.scaled-6.ensures) (stays c.scaled-7.result c.scaled-7.ensures) (stays c.scaled-8.result c.scaled-8.ensures)
