use Rattle.sep_parts.proofs.Prelude.{common_steps, arith, rules, ◌≡◌, ◌∙◌, FitsSigned, ap, ℤ, to_z, of_z, to_z-of_z, w64, w128, along_value, curves_of, weights, least_value}
use Rattle.sep_parts.proofs.Lows.{each_place}
use Rattle.sep_parts.proofs.NarrowLemmas.{narrow_least}
use Rattle.sep_parts.proofs.short.separates_by_short_sums.Goals as goal

pub overflow_cast-least : goal.overflow_cast-least
overflow_cast-least c = grind (arith, common_steps, to_z-of_z, narrow_least)

pub returns : goal.returns
returns c =
    let threshold_fits : FitsSigned w128 c.args.threshold = c.ranges.threshold in
    let wide_fits : FitsSigned w128 c.scaled.result = search rules in
    let least_is : c.scaled.result ≡ least_value c.args.threshold c.args.depth = simp to_z-of_z at c.scaled.ensures in
    let least_fits : FitsSigned w64 (least_value c.args.threshold c.args.depth) = narrow_least c.args.threshold c.args.depth c.requires.positive c.requires.small c.requires.depth in
    let same : to_z w64 (of_z w64 (to_z w128 (of_z w128 c.scaled.result))) ≡ least_value c.args.threshold c.args.depth =
    ap (λ (z : ℤ). to_z w64 (of_z w64 z)) (to_z-of_z w128 c.scaled.result wide_fits ∙ least_is) ∙ to_z-of_z w64 (least_value c.args.threshold c.args.depth) least_fits in
    each_place (along_value (curves_of c.args.rows.now) (weights c.args.n c.args.r c.args.h)) (least_value c.args.threshold c.args.depth) c.all_places.result _ _
    (λ k small yes. grind (arith, common_steps, to_z-of_z)) (λ k small no above. grind (arith, common_steps, to_z-of_z)) c.all_places.ensures.all c.all_places.ensures.one
