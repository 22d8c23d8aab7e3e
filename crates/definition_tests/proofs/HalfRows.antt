-- Half a millimetre, computed.
use Rattle.definition_tests.proofs.Prelude.{arith}
use Rattle.definition_tests.specs.Halves.{HalfRows}

pub half : HalfRows
half = record {
  above = record { below = omega arith; above = omega arith };
  past_above = λ near. let low = near.below in absurd (omega (arith, low));
  below = record { below = omega arith; above = omega arith };
  past_below = λ near. let high = near.above in absurd (omega (arith, high));
  above_over = record { below = omega arith; above = omega arith };
  past_above_over = λ near. let low = near.below in absurd (omega (arith, low));
  below_over = record { below = omega arith; above = omega arith };
  past_below_over = λ near. let high = near.above in absurd (omega (arith, high));
}
