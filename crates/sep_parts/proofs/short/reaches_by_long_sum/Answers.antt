use Rattle.sep_parts.proofs.Prelude.{rules, ◌≡◌, ℤ, ◌+ℤ◌, ◌*ℤ◌, ◌∙◌, [], FitsSigned, lit<, refl, get_or, to_z-of_z, at, along_value, curves_of, below_at, w64, w128}
use Rattle.sep_parts.proofs.Halved.{rows_along}
use Rattle.sep_parts.proofs.NarrowLemmas.{long_sum, narrow_kept, narrow_weight_fits, long_fits, reach_told}
use Rattle.sep_parts.proofs.short.reaches_by_long_sum.Goals as goal

pub long_product-x-requires : goal.long_product-x-requires
long_product-x-requires c = let small = below_at 4001 c.args.w 0 (lit< tt) c.requires.weights in record { weight = narrow_kept 4001 _ (narrow_weight_fits _ small) small }

pub long_product-y-requires : goal.long_product-y-requires
long_product-y-requires c = let small = below_at 4001 c.args.w 1 (lit< tt) c.requires.weights in record { weight = narrow_kept 4001 _ (narrow_weight_fits _ small) small }

pub long_product-z-requires : goal.long_product-z-requires
long_product-z-requires c = let small = below_at 4001 c.args.w 2 (lit< tt) c.requires.weights in record { weight = narrow_kept 4001 _ (narrow_weight_fits _ small) small }

pub overflow_add-result : goal.overflow_add-result
overflow_add-result c =
    let x_fit : FitsSigned w128 c.long_product-x.result = long_fits _ c.long_product-x.ensures.small in
    let y_fit : FitsSigned w128 c.long_product-y.result = long_fits _ c.long_product-y.ensures.small in
    simp to_z-of_z (long_sum _ _ _ c.long_product-x.ensures.small c.long_product-y.ensures.small c.long_product-z.ensures.small).0

pub overflow_add-result-2 : goal.overflow_add-result-2
overflow_add-result-2 c =
    let x_fit : FitsSigned w128 c.long_product-x.result = long_fits _ c.long_product-x.ensures.small in
    let y_fit : FitsSigned w128 c.long_product-y.result = long_fits _ c.long_product-y.ensures.small in
    let z_fit : FitsSigned w128 c.long_product-z.result = long_fits _ c.long_product-z.ensures.small in
    let fits : FitsSigned w128 (c.long_product-x.result +ℤ c.long_product-y.result) × FitsSigned w128 (c.long_product-x.result +ℤ c.long_product-y.result +ℤ c.long_product-z.result) =
    long_sum _ _ _ c.long_product-x.ensures.small c.long_product-y.ensures.small c.long_product-z.ensures.small in
    let first_fit : FitsSigned w128 (c.long_product-x.result +ℤ c.long_product-y.result) = fits.0 in
    simp to_z-of_z fits.1

pub returns : goal.returns
returns c =
    let x_fit : FitsSigned w128 c.long_product-x.result = long_fits _ c.long_product-x.ensures.small in
    let y_fit : FitsSigned w128 c.long_product-y.result = long_fits _ c.long_product-y.ensures.small in
    let z_fit : FitsSigned w128 c.long_product-z.result = long_fits _ c.long_product-z.ensures.small in
    let fits : FitsSigned w128 (c.long_product-x.result +ℤ c.long_product-y.result) × FitsSigned w128 (c.long_product-x.result +ℤ c.long_product-y.result +ℤ c.long_product-z.result) =
    long_sum _ _ _ c.long_product-x.ensures.small c.long_product-y.ensures.small c.long_product-z.ensures.small in
    let first_fit : FitsSigned w128 (c.long_product-x.result +ℤ c.long_product-y.result) = fits.0 in
    let second_fit : FitsSigned w128 (c.long_product-x.result +ℤ c.long_product-y.result +ℤ c.long_product-z.result) = fits.1 in
    let x_weight : FitsSigned w64 (at c.args.w 0) = narrow_weight_fits _ (below_at 4001 c.args.w 0 (lit< tt) c.requires.weights) in
    let y_weight : FitsSigned w64 (at c.args.w 1) = narrow_weight_fits _ (below_at 4001 c.args.w 1 (lit< tt) c.requires.weights) in
    let z_weight : FitsSigned w64 (at c.args.w 2) = narrow_weight_fits _ (below_at 4001 c.args.w 2 (lit< tt) c.requires.weights) in
    let x : FitsSigned w64 (at (get_or c.args.rows.now 0 []) c.args.k) = search rules in
    let y : FitsSigned w64 (at (get_or c.args.rows.now 1 []) c.args.k) = search rules in
    let z : FitsSigned w64 (at (get_or c.args.rows.now 2 []) c.args.k) = search rules in
    let x_is : c.long_product-x.result ≡ at c.args.w 0 *ℤ at (get_or c.args.rows.now 0 []) c.args.k = simp to_z-of_z at c.long_product-x.ensures.product in
    let y_is : c.long_product-y.result ≡ at c.args.w 1 *ℤ at (get_or c.args.rows.now 1 []) c.args.k = simp to_z-of_z at c.long_product-y.ensures.product in
    let z_is : c.long_product-z.result ≡ at c.args.w 2 *ℤ at (get_or c.args.rows.now 2 []) c.args.k = simp to_z-of_z at c.long_product-z.ensures.product in
    let least_fit : FitsSigned w128 c.args.least = c.ranges.least in
    simp to_z-of_z (reach_told c.args.least (c.long_product-x.result +ℤ c.long_product-y.result +ℤ c.long_product-z.result) (along_value (curves_of c.args.rows.now) c.args.w c.args.k)
    (sums x_is y_is z_is ∙ rows_along c.args.rows.now c.args.w c.args.k _ _ _ refl refl refl))
  where
    sums : {x y z u v w : ℤ} → x ≡ u → y ≡ v → z ≡ w → x +ℤ y +ℤ z ≡ u +ℤ v +ℤ w
    sums {x} {y} {z} {u} {v} {w} p q r = cc
