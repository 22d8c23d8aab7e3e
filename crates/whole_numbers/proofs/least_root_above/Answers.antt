use Rattle.whole_numbers.proofs.Prelude.{arith, ℤ, pos, ◌+ℤ◌, to_z, of_z, int_div, ℕ, w128, ints}
use Rattle.whole_numbers.proofs.DivisionLemmas.{square_at_most, square_above, root_least}
use Rattle.whole_numbers.proofs.least_root_above.Goals as goal

-- the code's middle of two numbers
abbrev middle : ℕ → ℕ → ℤ
middle low high = to_z w128 (of_z w128 (int_div (to_z w128 (of_z w128 (to_z w128 low +ℤ to_z w128 high))) (pos 2)))

pub loop-high-smaller-then-middle-v : goal.loop-high-smaller-then-middle-v
loop-high-smaller-then-middle-v c = omega (arith, ints)

pub loop-high-preserved-then-middle-v : goal.loop-high-preserved-then-middle-v
loop-high-preserved-then-middle-v c = record {
  not_negative = omega (arith, ints);
  apart = omega (arith, ints);
  small = omega (arith, ints);
  under = omega (arith, ints, square_at_most (middle c.loop-high.low-bits c.loop-high.high-bits) _ c.if-middle-v.true (omega (arith, ints)) (omega (arith, ints)));
  over = omega (arith, ints);
}

pub loop-high-smaller : goal.loop-high-smaller
loop-high-smaller c = omega (arith, ints)

pub loop-high-preserved : goal.loop-high-preserved
loop-high-preserved c = record {
  not_negative = omega (arith, ints);
  apart = omega (arith, ints);
  small = omega (arith, ints);
  under = omega (arith, ints);
  over = omega (arith, ints, square_above (middle c.loop-high.low-bits c.loop-high.high-bits) _ c.if-middle-v.false (omega (arith, ints)) (omega (arith, ints)));
}

pub returns-clause-least : goal.returns-clause-least
returns-clause-least c t positive above = root_least _ _ _ t c.loop-high.invariant.under (omega (arith, ints)) positive (omega (arith, ints))
