use Rattle.sep_parts.proofs.Prelude.{FitsSigned, ◌∙◌, ap, List, ℤ, int_lt, position, to_z-of_z, w128, first_low, least_value}
use Rattle.sep_parts.proofs.part.low_control.Goals as goal

pub returns : goal.returns
unfolding first_low
returns c =
    let fits : FitsSigned w128 c.args.threshold = c.ranges.threshold in
    simp to_z-of_z at c.first_below.ensures ∙ ap (λ (xs : List ℤ). position (λ v. int_lt v (least_value c.args.threshold c.args.depth)) xs) c.projected.ensures.exact
