use Rattle.sep_parts.proofs.Prelude.{arith, ap, ◌^◌, ◌∙◌, ◌*ℤ◌, ◌≤ℤ◌, FitsSigned, ℤ, ints, pos, to_z-of_z, w128}
use Rattle.sep_parts.proofs.Limits.{product_fits}
use Rattle.sep_parts.proofs.part.scaled.Goals as goal

pub overflow_mul-result : goal.overflow_mul-result
overflow_mul-result c =
    let threshold_fits : FitsSigned w128 c.args.threshold = c.ranges.threshold in
    let scale_fits : FitsSigned w128 c.scale.result = omega (arith, ints, c.scale.ensures.positive, c.scale.ensures.small) in
    let high : c.args.threshold ≤ℤ pos (2 ^ 50) = omega (arith, ints, c.requires.small) in
    rw (to_z-of_z w128 c.args.threshold threshold_fits, to_z-of_z w128 c.scale.result scale_fits)
    (product_fits c.args.threshold c.scale.result c.requires.positive high c.scale.ensures.positive c.scale.ensures.small)

pub returns : goal.returns
returns c =
    let threshold_fits : FitsSigned w128 c.args.threshold = c.ranges.threshold in
    let scale_fits : FitsSigned w128 c.scale.result = omega (arith, ints, c.scale.ensures.positive, c.scale.ensures.small) in
    let high : c.args.threshold ≤ℤ pos (2 ^ 50) = omega (arith, ints, c.requires.small) in
    let fits = product_fits c.args.threshold c.scale.result c.requires.positive high c.scale.ensures.positive c.scale.ensures.small in
    rw (to_z-of_z w128 c.args.threshold threshold_fits, to_z-of_z w128 c.scale.result scale_fits)
    (to_z-of_z w128 (c.args.threshold *ℤ c.scale.result) fits ∙ ap (λ (s : ℤ). c.args.threshold *ℤ s) c.scale.ensures.exact)
