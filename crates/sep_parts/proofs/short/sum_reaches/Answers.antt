use Rattle.sep_parts.proofs.Prelude.{◌≡◌, ◌^◌, ℕ, ℤ, List, All, ◌+ℤ◌, ◌*ℤ◌, FitsSigned, lit<, to_z-of_z, at, IsBelow, below_at, w64}
use Rattle.sep_parts.proofs.NarrowLemmas.{narrow_fits, narrow_kept, narrow_sum, narrow_value, narrow_weight_fits, reach_told}
use Rattle.sep_parts.proofs.short.sum_reaches.Goals as goal

-- a weight is small
weight : (w : List ℤ) (i : ℕ) → All (IsBelow 4001) w → IsBelow 4001 (at w i)
weight w i small = below_at 4001 w i (lit< tt) small

pub short_product-a-requires : goal.short_product-a-requires
short_product-a-requires c = record {
  weight = narrow_kept 4001 _ (narrow_weight_fits _ (weight c.args.w 0 c.requires.weights)) (weight c.args.w 0 c.requires.weights);
  value = narrow_kept (2 ^ 46) _ (narrow_value _ c.requires.x) c.requires.x;
}

pub short_product-b-requires : goal.short_product-b-requires
short_product-b-requires c = record {
  weight = narrow_kept 4001 _ (narrow_weight_fits _ (weight c.args.w 1 c.requires.weights)) (weight c.args.w 1 c.requires.weights);
  value = narrow_kept (2 ^ 46) _ (narrow_value _ c.requires.y) c.requires.y;
}

pub short_product-c-requires : goal.short_product-c-requires
short_product-c-requires c = record {
  weight = narrow_kept 4001 _ (narrow_weight_fits _ (weight c.args.w 2 c.requires.weights)) (weight c.args.w 2 c.requires.weights);
  value = narrow_kept (2 ^ 46) _ (narrow_value _ c.requires.z) c.requires.z;
}

pub overflow_add-result : goal.overflow_add-result
overflow_add-result c =
    let x_fit : FitsSigned w64 c.short_product-a.result = narrow_fits _ c.short_product-a.ensures.small in
    let y_fit : FitsSigned w64 c.short_product-b.result = narrow_fits _ c.short_product-b.ensures.small in
    let fits = narrow_sum _ _ _ c.short_product-a.ensures.small c.short_product-b.ensures.small c.short_product-c.ensures.small in
    simp to_z-of_z fits.0

pub overflow_add-result-2 : goal.overflow_add-result-2
overflow_add-result-2 c =
    let x_fit : FitsSigned w64 c.short_product-a.result = narrow_fits _ c.short_product-a.ensures.small in
    let y_fit : FitsSigned w64 c.short_product-b.result = narrow_fits _ c.short_product-b.ensures.small in
    let z_fit : FitsSigned w64 c.short_product-c.result = narrow_fits _ c.short_product-c.ensures.small in
    let fits = narrow_sum _ _ _ c.short_product-a.ensures.small c.short_product-b.ensures.small c.short_product-c.ensures.small in
    let first_fit : FitsSigned w64 (c.short_product-a.result +ℤ c.short_product-b.result) = fits.0 in
    simp to_z-of_z fits.1

pub returns : goal.returns
returns c =
    let x_fit : FitsSigned w64 c.short_product-a.result = narrow_fits _ c.short_product-a.ensures.small in
    let y_fit : FitsSigned w64 c.short_product-b.result = narrow_fits _ c.short_product-b.ensures.small in
    let z_fit : FitsSigned w64 c.short_product-c.result = narrow_fits _ c.short_product-c.ensures.small in
    let fits = narrow_sum _ _ _ c.short_product-a.ensures.small c.short_product-b.ensures.small c.short_product-c.ensures.small in
    let first_fit : FitsSigned w64 (c.short_product-a.result +ℤ c.short_product-b.result) = fits.0 in
    let second_fit : FitsSigned w64 (c.short_product-a.result +ℤ c.short_product-b.result +ℤ c.short_product-c.result) = fits.1 in
    let x_weight : FitsSigned w64 (at c.args.w 0) = narrow_weight_fits _ (weight c.args.w 0 c.requires.weights) in
    let y_weight : FitsSigned w64 (at c.args.w 1) = narrow_weight_fits _ (weight c.args.w 1 c.requires.weights) in
    let z_weight : FitsSigned w64 (at c.args.w 2) = narrow_weight_fits _ (weight c.args.w 2 c.requires.weights) in
    let x_value : FitsSigned w64 c.args.x = c.ranges.x in
    let y_value : FitsSigned w64 c.args.y = c.ranges.y in
    let z_value : FitsSigned w64 c.args.z = c.ranges.z in
    let least_fit : FitsSigned w64 c.args.least = c.ranges.least in
    let x_is : c.short_product-a.result ≡ at c.args.w 0 *ℤ c.args.x = simp to_z-of_z at c.short_product-a.ensures.product in
    let y_is : c.short_product-b.result ≡ at c.args.w 1 *ℤ c.args.y = simp to_z-of_z at c.short_product-b.ensures.product in
    let z_is : c.short_product-c.result ≡ at c.args.w 2 *ℤ c.args.z = simp to_z-of_z at c.short_product-c.ensures.product in
    simp to_z-of_z (reach_told c.args.least (c.short_product-a.result +ℤ c.short_product-b.result +ℤ c.short_product-c.result) (at c.args.w 0 *ℤ c.args.x +ℤ at c.args.w 1 *ℤ c.args.y +ℤ at c.args.w 2 *ℤ c.args.z) (sums x_is y_is z_is))
  where
    sums : {x y z u v w : ℤ} → x ≡ u → y ≡ v → z ≡ w → x +ℤ y +ℤ z ≡ u +ℤ v +ℤ w
    sums {x} {y} {z} {u} {v} {w} p q r = cc
