use Rattle.keepout_boxes.proofs.Prelude.{rules, ◌≡◌, ℕ, pos, ◌≤ℤ◌, arith, get_or, below_more, FitsSigned, to_z, of_z, ints, to_z-of_z, w128, IsIn}
use Rattle.keepout_boxes.proofs.flight.wider.Goals as goal

pub loop-k-preserved : goal.loop-k-preserved
loop-k-preserved c =
    let fits : FitsSigned w128 (get_or c.args.curve.now.b c.loop-k.k (pos 0)) = search rules in
    let same : to_z w128 (of_z w128 (get_or c.args.curve.now.b c.loop-k.k (pos 0))) ≡ get_or c.args.curve.now.b c.loop-k.k (pos 0) = to_z-of_z w128 _ fits in
    let low_fits : FitsSigned w128 c.lesser-low.result = search rules in
    let high_fits : FitsSigned w128 c.greater-high.result = search rules in
    let low : c.lesser-low.result ≤ℤ to_z w128 (of_z w128 (get_or c.args.curve.now.b c.loop-k.k (pos 0))) = c.lesser-low.ensures.second in
    let high : to_z w128 (of_z w128 (get_or c.args.curve.now.b c.loop-k.k (pos 0))) ≤ℤ c.greater-high.result = c.greater-high.ensures.second in
    record {
      as_low = omega (arith, ints, c.lesser-low.ensures.first, c.loop-k.invariant.as_low);
      as_high = omega (arith, ints, c.greater-high.ensures.first, c.loop-k.invariant.as_high);
      between = rw (to_z-of_z w128 c.lesser-low.result low_fits, to_z-of_z w128 c.greater-high.result high_fits) (below_more (λ (k : ℕ). IsIn c.lesser-low.result c.greater-high.result (get_or c.args.curve.now.b k (pos 0))) c.loop-k.k
          (λ k less. (omega (arith, ints, c.lesser-low.ensures.first, (c.loop-k.invariant.between k less).0), omega (arith, ints, c.greater-high.ensures.first, (c.loop-k.invariant.between k less).1)))
          (rw same at low, rw same at high));
    }
