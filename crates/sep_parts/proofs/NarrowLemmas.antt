-- What fits into 64 bits of a part that is halved at most twice.
use Rattle.sep_parts.proofs.Prelude.{common_steps, true, ◌≡◌, ℕ, ◌*◌, ◌^◌, zero, suc, ◌≤◌, ℤ, pos, ◌≤ℤ◌, ◌<ℤ◌, ◌+ℤ◌, ◌*ℤ◌, unsigned_abs, FitsSigned, to_z, of_z, arith, ints, unsigned_abs-mul, to_z-of_z, mul-le, refl, w8, w32, w64, w128, IsAxis, IsBelow, least_value}
use Rattle.std.specs.Int.Signed.{le_z}

-- a weight up to 4,000 times a value below 2^46 is below 2^58
pub narrow_product : (w x : ℤ) → IsBelow 4001 w → IsBelow (2 ^ 46) x → IsBelow (2 ^ 58) (w *ℤ x)
narrow_product w x small below =
    let m : unsigned_abs (w *ℤ x) ≤ 4000 * (2 ^ 46) = rw (unsigned_abs-mul w x) (mul-le (unsigned_abs w) (unsigned_abs x) 4000 (2 ^ 46) (omega (arith, ints)) (omega (arith, ints))) in
    (omega (arith, ints), omega (arith, ints))

pub row_fits : (x : ℤ) → FitsSigned w32 x → FitsSigned w64 x
row_fits x fits = omega (arith, ints)

-- three such products and their sum fit
pub narrow_sum : (x y z : ℤ) → IsBelow (2 ^ 58) x → IsBelow (2 ^ 58) y → IsBelow (2 ^ 58) z → FitsSigned w64 (x +ℤ y) × FitsSigned w64 (x +ℤ y +ℤ z)
narrow_sum x y z p q r = (omega (arith, ints), omega (arith, ints))

pub narrow_fits : (x : ℤ) → IsBelow (2 ^ 58) x → FitsSigned w64 x
narrow_fits x below = omega (arith, ints)

pub narrow_weight_fits : (x : ℤ) → IsBelow 4001 x → FitsSigned w64 x
narrow_weight_fits x below = omega (arith, ints)

pub narrow_kept : (n : ℕ) (x : ℤ) → FitsSigned w64 x → IsBelow n x → IsBelow n (to_z w64 (of_z w64 x))
narrow_kept n x fits small = rw (to_z-of_z w64 x fits) small

pub narrow_value_fits : (x : ℤ) → IsBelow (2 ^ 46) x → FitsSigned w128 x
narrow_value_fits x below = omega (arith, ints)

pub narrow_value : (x : ℤ) → IsBelow (2 ^ 46) x → FitsSigned w64 x
narrow_value x below = omega (arith, ints)

-- a value that 64 bits hold, told by 128
pub narrow_told : (x : ℤ) → IsBelow (2 ^ 46) x → to_z w64 (of_z w64 (to_z w128 (of_z w128 x))) ≡ x
narrow_told x below = rw (to_z-of_z w128 x (narrow_value_fits x below)) (to_z-of_z w64 x (narrow_value x below))

-- a threshold at the scale of a depth up to 2
pub narrow_least : (t : ℤ) (depth : ℕ) → pos 0 ≤ℤ t → t <ℤ pos (2 ^ 30) → depth ≤ 2 → FitsSigned w64 (least_value t depth)
narrow_least t zero some small few = omega (arith, ints)
narrow_least t (suc zero) some small few = omega (arith, ints)
narrow_least t (suc (suc zero)) some small few = omega (arith, ints)
narrow_least t (suc (suc (suc depth))) some small few = absurd (omega arith)

-- a comparison of a sum tells of what it is
pub reach_told : (least sum along : ℤ) → sum ≡ along → (le_z least sum ≡ true → least ≤ℤ along) × (least ≤ℤ along → le_z least sum ≡ true)
reach_told least sum along is = grind (arith, common_steps, ints)

-- ---- values of 64 bits, weighed in 128
pub long_product : (w x : ℤ) → IsBelow 4001 w → FitsSigned w64 x → IsBelow (2 ^ 76) (w *ℤ x)
long_product w x small fits =
    let m : unsigned_abs (w *ℤ x) ≤ 4000 * (2 ^ 63) = rw (unsigned_abs-mul w x) (mul-le (unsigned_abs w) (unsigned_abs x) 4000 (2 ^ 63) (omega (arith, ints)) (omega (arith, ints))) in
    (omega (arith, ints), omega (arith, ints))

pub wide_value : (x : ℤ) → FitsSigned w64 x → FitsSigned w128 x
wide_value x fits = omega (arith, ints)

pub long_fits : (x : ℤ) → IsBelow (2 ^ 76) x → FitsSigned w128 x
long_fits x below = omega (arith, ints)

-- a product of two numbers of 64 bits
pub long_told : (p q w x : ℤ) → p ≡ w → q ≡ x → IsBelow 4001 w → FitsSigned w64 x → to_z w128 (of_z w128 (to_z w128 (of_z w128 p) *ℤ to_z w128 (of_z w128 q))) ≡ w *ℤ x
long_told p q w x p_is q_is small below =
    let w_fits : FitsSigned w128 w = omega (arith, ints) in
    let x_fits : FitsSigned w128 x = wide_value x below in
    let fits : FitsSigned w128 (w *ℤ x) = long_fits (w *ℤ x) (long_product w x small below) in
    rw (p_is, q_is, to_z-of_z w128 w w_fits, to_z-of_z w128 x x_fits) (to_z-of_z w128 (w *ℤ x) fits)

-- three such products and their sum fit
pub long_sum : (x y z : ℤ) → IsBelow (2 ^ 76) x → IsBelow (2 ^ 76) y → IsBelow (2 ^ 76) z → FitsSigned w128 (x +ℤ y) × FitsSigned w128 (x +ℤ y +ℤ z)
long_sum x y z p q r = (omega (arith, ints), omega (arith, ints))

-- ---- a weight: an entry of a direction times a half axis
pub entry_product : (entry : ℤ) (axis : ℕ) → IsBelow 3 entry → IsAxis axis → IsBelow 4001 (entry *ℤ pos axis)
entry_product entry axis small is_axis =
    let m : unsigned_abs (entry *ℤ pos axis) ≤ 2 * 2000 = rw (unsigned_abs-mul entry (pos axis)) (mul-le (unsigned_abs entry) axis 2 2000 (omega (arith, ints)) (omega (arith, ints))) in
    (omega (arith, ints), omega (arith, ints))

-- the two numbers of the program are those that it was given
pub entry_told : (p q entry : ℤ) (axis : ℕ) → p ≡ to_z w8 (of_z w8 entry) → q ≡ pos axis → IsBelow 3 entry → IsAxis axis
    → to_z w64 (of_z w64 p) *ℤ to_z w64 (of_z w64 q) ≡ entry *ℤ pos axis
entry_told p q entry axis p_is q_is small is_axis =
    let entry_8 : FitsSigned w8 entry = omega (arith, ints) in
    let entry_64 : FitsSigned w64 entry = omega (arith, ints) in
    let axis_64 : FitsSigned w64 (pos axis) = omega (arith, ints) in
    rw (p_is, q_is, to_z-of_z w8 entry entry_8, to_z-of_z w64 entry entry_64, to_z-of_z w64 (pos axis) axis_64) refl

-- the product before it is read back fits as well
pub long_product_fits : (p q w x : ℤ) → p ≡ w → q ≡ x → IsBelow 4001 w → FitsSigned w64 x → FitsSigned w128 (to_z w128 (of_z w128 p) *ℤ to_z w128 (of_z w128 q))
long_product_fits p q w x p_is q_is small below =
    let w_fits : FitsSigned w128 w = omega (arith, ints) in
    rw (p_is, q_is, to_z-of_z w128 w w_fits, to_z-of_z w128 x (wide_value x below)) (long_fits (w *ℤ x) (long_product w x small below))

-- ---- rows of 64 bits
pub half_fits : (x : ℤ) → IsBelow (2 ^ 62) x → FitsSigned w64 x
half_fits x below = omega (arith, ints)
