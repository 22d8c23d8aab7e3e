use Rattle.bezier_core.proofs.Prelude.{arith, subst, inl, inr, lit<, pow-le-pow_right, ◌≡◌, ℕ, ℤ, pos, ◌-◌, ◌*ℤ◌, ◌^◌, ◌≤◌, FitsSigned, ints, to_z-of_z, w64, w128, IsWithin, IsWord}
use Rattle.bezier_core.proofs.halves.doubled.Goals as goal

-- a word of 64 bits holds the value, the scale and their product
value_short : (bits : ℕ) (x : ℤ) → bits ≡ 64 → IsWithin (pos (2 ^ (bits - 3))) x → FitsSigned w64 x
value_short bits x is within =
    let narrow : IsWithin (pos (2 ^ 61)) x = subst (λ (n : ℕ). IsWithin (pos (2 ^ (n - 3))) x) is within in
    omega (arith, ints, narrow.0, narrow.1)

scale_short : (times : ℕ) → times ≤ 7 → FitsSigned w64 (pos (2 ^ times))
scale_short times few = let most : 2 ^ times ≤ 2 ^ 7 = pow-le-pow_right {n = 2} (lit< tt) few in omega (arith, ints, most)

product_short : (bits : ℕ) (z : ℤ) → bits ≡ 64 → IsWithin (pos (2 ^ (bits - 2))) z → FitsSigned w64 z
product_short bits z is within =
    let narrow : IsWithin (pos (2 ^ 62)) z = subst (λ (n : ℕ). IsWithin (pos (2 ^ (n - 2))) z) is within in
    omega (arith, ints, narrow.0, narrow.1)

-- as one of 128 bits does
product_long : (bits : ℕ) (z : ℤ) → IsWord bits → IsWithin (pos (2 ^ (bits - 2))) z → FitsSigned w128 z
product_long bits z (inl is) within =
    let narrow : IsWithin (pos (2 ^ 62)) z = subst (λ (n : ℕ). IsWithin (pos (2 ^ (n - 2))) z) is within in
    omega (arith, ints, narrow.0, narrow.1)
product_long bits z (inr is) within =
    let wide : IsWithin (pos (2 ^ 126)) z = subst (λ (n : ℕ). IsWithin (pos (2 ^ (n - 2))) z) is within in
    omega (arith, ints, wide.0, wide.1)

widened : (z : ℤ) → FitsSigned w64 z → FitsSigned w128 z
widened z short = omega (arith, ints)

pub power_of_two-scale-requires : goal.power_of_two-scale-requires
power_of_two-scale-requires g c = c.requires.few

pub overflow_cast-x : goal.overflow_cast-x
overflow_cast-x g c = rw (to_z-of_z w128 c.args.x c.ranges.x) (value_short g.row.BITS c.args.x c.if-this-eq64.true c.requires.value)

pub overflow_mul-scale : goal.overflow_mul-scale
overflow_mul-scale g c =
    rw (
      c.power_of_two-scale.ensures,
      to_z-of_z w64 (pos (2 ^ c.args.times)) (scale_short c.args.times c.requires.few),
      to_z-of_z w128 c.args.x c.ranges.x,
      to_z-of_z w64 c.args.x (value_short g.row.BITS c.args.x c.if-this-eq64.true c.requires.value),
    )
    (product_short g.row.BITS _ c.if-this-eq64.true c.requires.room)

pub overflow_mul-result : goal.overflow_mul-result
overflow_mul-result g c =
    let scale : FitsSigned w64 (pos (2 ^ c.args.times)) = scale_short c.args.times c.requires.few in
    rw (
      c.from-else-this-eq64.ensures,
      c.power_of_two-scale.ensures,
      to_z-of_z w64 (pos (2 ^ c.args.times)) scale,
      to_z-of_z w128 (pos (2 ^ c.args.times)) (widened _ scale),
      to_z-of_z w128 c.args.x c.ranges.x,
    )
    (product_long g.row.BITS _ c.requires.word c.requires.room)

pub returns-then-this-eq64 : goal.returns-then-this-eq64
returns-then-this-eq64 g c =
    let product : FitsSigned w64 (pos (2 ^ c.args.times) *ℤ c.args.x) = product_short g.row.BITS _ c.if-this-eq64.true c.requires.room in
    rw (
      c.from.ensures,
      c.power_of_two-scale.ensures,
      to_z-of_z w64 (pos (2 ^ c.args.times)) (scale_short c.args.times c.requires.few),
      to_z-of_z w128 c.args.x c.ranges.x,
      to_z-of_z w64 c.args.x (value_short g.row.BITS c.args.x c.if-this-eq64.true c.requires.value),
      to_z-of_z w64 (pos (2 ^ c.args.times) *ℤ c.args.x) product,
    )
    (to_z-of_z w128 (pos (2 ^ c.args.times) *ℤ c.args.x) (widened _ product))

pub returns-else-this-eq64 : goal.returns-else-this-eq64
returns-else-this-eq64 g c =
    let scale : FitsSigned w64 (pos (2 ^ c.args.times)) = scale_short c.args.times c.requires.few in
    rw (
      c.from-else-this-eq64.ensures,
      c.power_of_two-scale.ensures,
      to_z-of_z w64 (pos (2 ^ c.args.times)) scale,
      to_z-of_z w128 (pos (2 ^ c.args.times)) (widened _ scale),
      to_z-of_z w128 c.args.x c.ranges.x,
    )
    (to_z-of_z w128 (pos (2 ^ c.args.times) *ℤ c.args.x) (product_long g.row.BITS _ c.requires.word c.requires.room))
