use Rattle.whole_numbers.proofs.Prelude.{◌^◌, ◌≤◌, arith}
use Rattle.std.proofs.Math.Pow.{pow_mono}
use Rattle.whole_numbers.proofs.fine.Fine.parts.Goals as goal

pub returns-clause-few : goal.returns-clause-few
returns-clause-few c = let few : 2 ^ c.self.inside.halvings ≤ 2 ^ 5 = pow_mono c.self.invariant in omega (arith, few)
