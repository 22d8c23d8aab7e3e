use Rattle.keepout_boxes.proofs.Prelude.{arith, ◌≤◌, ◌*◌, ◌^◌, ◌*ℤ◌, ℤ, pos, unsigned_abs, FitsSigned, ints, unsigned_abs-mul, to_z-of_z, mul-le, w32, w128, IsBelow, IsIn}
use Rattle.keepout_boxes.proofs.part.scaled.Goals as goal

product_fits : (limit scale : ℤ) → IsBelow 43001 limit → IsIn (pos 0) (pos (2 ^ 70)) scale → FitsSigned w128 (limit *ℤ scale)
product_fits limit scale small within =
    let most : unsigned_abs (limit *ℤ scale) ≤ 43000 * (2 ^ 70) = rw (unsigned_abs-mul limit scale) (mul-le (unsigned_abs limit) (unsigned_abs scale) 43000 (2 ^ 70) (omega (arith, ints)) (omega (arith, ints))) in
    omega (arith, ints)

wide : (x : ℤ) → IsBelow 43001 x → FitsSigned w128 x
wide x small = omega (arith, ints)

pub overflow_mul-result : goal.overflow_mul-result
overflow_mul-result c =
    rw (to_z-of_z w32 c.args.limit c.ranges.limit, to_z-of_z w128 c.args.limit (wide c.args.limit c.requires.limit), to_z-of_z w128 c.args.scale c.ranges.scale)
    (product_fits c.args.limit c.args.scale c.requires.limit c.requires.scale)

pub returns : goal.returns
returns c =
    rw (to_z-of_z w32 c.args.limit c.ranges.limit, to_z-of_z w128 c.args.limit (wide c.args.limit c.requires.limit), to_z-of_z w128 c.args.scale c.ranges.scale)
    (to_z-of_z w128 _ (product_fits c.args.limit c.args.scale c.requires.limit c.requires.scale))
