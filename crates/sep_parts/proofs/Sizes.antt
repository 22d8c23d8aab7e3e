-- How large the numbers of a search get.
use Rattle.sep_parts.proofs.Prelude.{ℕ, ◌*◌, ◌^◌, ◌≤◌, ℤ, pos, ◌*ℤ◌, ◌≤ℤ◌, ◌<ℤ◌, unsigned_abs, arith, List, All, lit<, ints, unsigned_abs-mul, mul-le, pow-le-pow_right, at, IsBelow, Bez, controls, controls_below, part_value, IsPlace, Clearance, AreSmall, IsClearance, threshold, least_value}
use Rattle.bezier_core.specs.declared.halves.Place.{Place}
use Rattle.sep_parts.specs.Sizes.{HasSmallNumbers}
use Rattle.sep_parts.proofs.Limits.{threshold_low, threshold_small, weight_small}
use Rattle.sep_parts.proofs.Parts.{part-small}
use Rattle.sep_parts.proofs.Weighted.{product_small, sum_small}

-- a threshold at the scale of a depth
least_small : (t : ℤ) (depth : ℕ) → pos 0 ≤ℤ t → t <ℤ pos (2 ^ 30) → depth ≤ 8 → IsBelow (2 ^ 104) (least_value t depth)
least_small t depth positive small few =
    let seven : 7 * depth ≤ 56 = omega arith in
    let scale : 2 ^ (7 * depth) ≤ 2 ^ 56 = pow-le-pow_right {n = 2} (lit< tt) seven in
    close (5040 * 2 ^ (7 * depth)) (omega arith)
  where
    close : (s : ℕ) → s ≤ 2 ^ 70 → IsBelow (2 ^ 104) (t *ℤ pos s)
    close s low =
        let m : unsigned_abs (t *ℤ pos s) ≤ 2 ^ 30 * 2 ^ 70 = rw (unsigned_abs-mul t (pos s)) (mul-le (unsigned_abs t) (unsigned_abs (pos s)) (2 ^ 30) (2 ^ 70) (omega (arith, ints)) (omega (arith, ints))) in
        (omega (arith, ints), omega (arith, ints))

pub small_numbers : (c : Clearance) (diff : List (Bez 8)) (place : Place) (n : List ℤ) → IsClearance c → AreSmall n →
    IsPlace place.depth place.index → All (λ (curve : Bez 8). All (IsBelow (2 ^ 30)) curve.b) diff → HasSmallNumbers c diff place n
small_numbers c diff place n clear small is_place values = record {
  parts = λ axis k low few. part axis k few;
  sums = λ k few.
      sum_small ((at n 0 *ℤ pos c.h) *ℤ part_value place.depth place.index (at (controls diff 0)) k)
      ((at n 1 *ℤ pos c.h) *ℤ part_value place.depth place.index (at (controls diff 1)) k)
      ((at n 2 *ℤ pos c.r) *ℤ part_value place.depth place.index (at (controls diff 2)) k)
      (product_small (at n 0 *ℤ pos c.h) (part_value place.depth place.index (at (controls diff 0)) k) (weight_small n 0 c.h small (omega arith) clear.upwards) (part 0 k few))
      (product_small (at n 1 *ℤ pos c.h) (part_value place.depth place.index (at (controls diff 1)) k) (weight_small n 1 c.h small (omega arith) clear.upwards) (part 1 k few))
      (product_small (at n 2 *ℤ pos c.r) (part_value place.depth place.index (at (controls diff 2)) k) (weight_small n 2 c.r small (omega arith) clear.across) (part 2 k few));
  reach = (omega (arith, ints, threshold_low c n), threshold_small c n clear small);
  least = least_small (threshold c n) place.depth (threshold_low c n) (threshold_small c n clear small) is_place.0;
}
  where
    part : (axis k : ℕ) → k ≤ 7 → IsBelow (2 ^ 86) (part_value place.depth place.index (at (controls diff axis)) k)
    part axis k few = part-small place.depth place.index k (at (controls diff axis)) is_place few (λ i near. controls_below (2 ^ 30) diff axis i (lit< tt) values)
