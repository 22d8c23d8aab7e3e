use Rattle.sep_parts.proofs.Prelude.{common_steps, arith, rules, ◌≡◌, FitsSigned, to_z-of_z, w128, along_value, curves_of, weights, least_value}
use Rattle.sep_parts.proofs.Lows.{each_place}
use Rattle.sep_parts.proofs.short.separates_by_long_sums.Goals as goal

pub returns : goal.returns
returns c =
    let threshold_fits : FitsSigned w128 c.args.threshold = c.ranges.threshold in
    let least_fits : FitsSigned w128 c.scaled-least.result = search rules in
    let least_is : c.scaled-least.result ≡ least_value c.args.threshold c.args.depth = simp to_z-of_z at c.scaled-least.ensures in
    each_place (along_value (curves_of c.args.rows.now) (weights c.args.n c.args.r c.args.h)) (least_value c.args.threshold c.args.depth) c.all_places.result _ _
    (λ k small yes. grind (arith, common_steps, to_z-of_z)) (λ k small no above. grind (arith, common_steps, to_z-of_z)) c.all_places.ensures.all c.all_places.ensures.one
