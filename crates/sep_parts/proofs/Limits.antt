-- How large thresholds are.
use Rattle.sep_parts.proofs.Prelude.{common_steps, ◌≡◌, ℕ, zero, suc, ◌*◌, ◌^◌, ◌≤◌, ◌<◌, ℤ, pos, negsuc, neg_ℤ, ◌+ℤ◌, ◌-ℤ◌, ◌*ℤ◌, ◌≤ℤ◌, ◌<ℤ◌, Bool, true, false, cond, int_lt, unsigned_abs, arith, ◌∙◌, FitsSigned, to_z, of_z, refl, to_z_pos, ap, List, map, length, get_or, [], All, ints, to_z-of_z, unsigned_abs-mul, mul-le, All-get_or, All-from_get_or, w128, get_or-map, length-map, at, linear, le_mul_ℤ, by_lt, IsBelow, Clearance, AreSmall, IsAxis, IsClearance, IsSquare, for_ellipsoids, for_reach, for_strays, length_squared, limit_along, root_from, root_above, stray_limit, threshold, weights}
use Rattle.sep_parts.proofs.Cauchy.{square_positive}

root_from-least : (v : ℤ) (n k s : ℕ) → k ≤ s → v <ℤ pos (s * s) → root_from v n k ≤ s
root_from-least v zero k s low above = low
root_from-least v (suc n) k s low above =
    go (int_lt v (pos (k * k))) refl (λ later. root_from-least v n (suc k) s later above)
  where
    go : (b : Bool) → int_lt v (pos (k * k)) ≡ b → (k < s → root_from v n (suc k) ≤ s) → cond b k (root_from v n (suc k)) ≤ s
    go true e rest = low
    go false e rest =
        by_lt k s rest
        (λ same. let k_is : k ≡ s = omega arith in absurd (omega (arith, ints, e, above, ap (λ (n : ℕ). n * n) k_is)))

pub root_above-least : (v : ℤ) (s : ℕ) → v <ℤ pos (s * s) → root_above v ≤ s
unfolding root_above
root_above-least v s above = root_from-least v (suc (unsigned_abs v)) 0 s (omega arith) above

-- a root is small where the number is
root_small : (v : ℤ) (s : ℕ) → v <ℤ pos (s * s) → root_above v ≤ s
root_small v s small = root_above-least v s small

entry_square : (z : ℤ) → neg_ℤ (pos 2) ≤ℤ z → z ≤ℤ pos 2 → (z *ℤ z) ≤ℤ pos 4
entry_square (pos zero) low high = omega (arith, ints)
entry_square (pos (suc zero)) low high = omega (arith, ints)
entry_square (pos (suc (suc zero))) low high = omega (arith, ints)
entry_square (pos (suc (suc (suc n)))) low high = absurd (omega (arith, ints))
entry_square (negsuc zero) low high = omega (arith, ints)
entry_square (negsuc (suc zero)) low high = omega (arith, ints)
entry_square (negsuc (suc (suc n))) low high = absurd (omega (arith, ints))

-- n . n
pub length_small : (n : List ℤ) → AreSmall n → length_squared n ≤ℤ pos 12
length_small n small =
    omega (
      arith,
      linear,
      entry_square (at n 0) (small.low 0 (omega arith)) (small.high 0 (omega arith)),
      entry_square (at n 1) (small.low 1 (omega arith)) (small.high 1 (omega arith)),
      entry_square (at n 2) (small.low 2 (omega arith)) (small.high 2 (omega arith)),
    )

axis_square : (r : ℕ) → IsAxis r → r * r ≤ 4000000
axis_square r axis = grind arith

area_small : (x y : ℕ) → x ≤ 4000000 → y ≤ 4000000 → 4 * x * y ≤ 64000000000000
area_small x y small few = grind arith

-- an entry times a half axis
pub weight_small : (n : List ℤ) (k axis : ℕ) → AreSmall n → k ≤ 2 → IsAxis axis → IsBelow 4001 (at n k *ℤ pos axis)
weight_small n k axis small few is_axis = grind (arith, common_steps, ints, neg_ℤ, pos, unsigned_abs, unsigned_abs-mul, mul-le)

-- a weight stays what it is in the program
pub weight_kept : (x : ℤ) → IsBelow 4001 x → IsBelow 4001 (to_z w128 (of_z w128 x))
weight_kept x below = let fits : FitsSigned w128 x = omega (arith, ints) in rw (to_z-of_z w128 x fits) below

-- the square of a weight
pub weight_square : (x : ℤ) → IsBelow 4001 x → IsSquare (x *ℤ x)
weight_square x below =
    let m : unsigned_abs (x *ℤ x) ≤ 4000 * 4000 = rw (unsigned_abs-mul x x) (mul-le (unsigned_abs x) (unsigned_abs x) 4000 4000 (omega (arith, ints)) (omega (arith, ints))) in
    (square_positive x, omega (arith, ints, square_positive x))

-- ---- the three parts of a threshold
pub ellipsoids_small : (c : Clearance) (n : List ℤ) → IsClearance c → AreSmall n → for_ellipsoids c n ≤ℤ pos (2 ^ 25)
ellipsoids_small c n clear small =
    let area : 4 * (c.r * c.r) * (c.h * c.h) ≤ 64000000000000 = area_small (c.r * c.r) (c.h * c.h) (axis_square c.r clear.across) (axis_square c.h clear.upwards) in
    let first : (pos (4 * (c.r * c.r) * (c.h * c.h)) *ℤ length_squared n) ≤ℤ (pos (4 * (c.r * c.r) * (c.h * c.h)) *ℤ pos 12) =
    le_mul_ℤ (pos (4 * (c.r * c.r) * (c.h * c.h))) (length_squared n) (pos 12) (omega (arith, linear)) (length_small n small) in
    let root : root_above (limit_along c.r c.h n) ≤ 2 ^ 25 = root_small (limit_along c.r c.h n) (2 ^ 25) (below (4 * (c.r * c.r) * (c.h * c.h)) _ area first) in
    omega (arith, ints, root)
  where
    below : (a : ℕ) (v : ℤ) → a ≤ 64000000000000 → v ≤ℤ (pos a *ℤ pos 12) → v <ℤ pos (2 ^ 25 * 2 ^ 25)
    below a v area first = omega (arith, ints)

pub strays_small : (c : Clearance) (n : List ℤ) → IsClearance c → AreSmall n → for_strays c n ≤ℤ pos (2 ^ 24)
strays_small c n clear small =
    let x : IsSquare ((at n 0 *ℤ pos c.h) *ℤ (at n 0 *ℤ pos c.h)) = weight_square (at n 0 *ℤ pos c.h) (weight_small n 0 c.h small (omega arith) clear.upwards) in
    let y : IsSquare ((at n 1 *ℤ pos c.h) *ℤ (at n 1 *ℤ pos c.h)) = weight_square (at n 1 *ℤ pos c.h) (weight_small n 1 c.h small (omega arith) clear.upwards) in
    let z : IsSquare ((at n 2 *ℤ pos c.r) *ℤ (at n 2 *ℤ pos c.r)) = weight_square (at n 2 *ℤ pos c.r) (weight_small n 2 c.r small (omega arith) clear.across) in
    let area : 4 * (c.stray * c.stray) ≤ 4000000 = stray_area c.stray clear.stray in
    let first : stray_limit c n ≤ℤ (pos (4 * (c.stray * c.stray)) *ℤ pos 48000000) =
    le_mul_ℤ (pos (4 * (c.stray * c.stray))) (length_squared (weights n c.r c.h)) (pos 48000000) (omega (arith, linear)) (omega (arith, linear, x.1, y.1, z.1)) in
    let root : root_above (stray_limit c n -ℤ pos 1) ≤ 2 ^ 24 = root_small (stray_limit c n -ℤ pos 1) (2 ^ 24) (below (4 * (c.stray * c.stray)) (stray_limit c n) area first) in
    omega (arith, ints, root)
  where
    stray_area : (s : ℕ) → s ≤ 1000 → 4 * (s * s) ≤ 4000000
    stray_area s few = grind arith

    below : (a : ℕ) (v : ℤ) → a ≤ 4000000 → v ≤ℤ (pos a *ℤ pos 48000000) → (v -ℤ pos 1) <ℤ pos (2 ^ 24 * 2 ^ 24)
    below a v area first = omega (arith, ints)

way_small : (w : ℤ) (reach : ℕ) → IsBelow 4001 w → reach ≤ 65536 → unsigned_abs w * reach ≤ 262144000
way_small w reach below few = mul-le (unsigned_abs w) reach 4000 65536 (omega (arith, ints)) few

pub reach_small : (c : Clearance) (n : List ℤ) → IsClearance c → AreSmall n → for_reach c n ≤ℤ pos 786432000
reach_small c n clear small = grind (arith, common_steps, ints, way_small, pos, weight_small)

pub threshold_small : (c : Clearance) (n : List ℤ) → IsClearance c → AreSmall n → threshold c n <ℤ pos (2 ^ 30)
threshold_small c n clear small =
    together (for_ellipsoids c n) (for_strays c n) (for_reach c n) (ellipsoids_small c n clear small) (strays_small c n clear small) (reach_small c n clear small)
  where
    together : (x y z : ℤ) → x ≤ℤ pos (2 ^ 25) → y ≤ℤ pos (2 ^ 24) → z ≤ℤ pos 786432000 → (x +ℤ y +ℤ z) <ℤ pos (2 ^ 30)
    together x y z first second third = omega (arith, ints)

-- and it is not negative
pub threshold_low : (c : Clearance) (n : List ℤ) → pos 0 ≤ℤ threshold c n
threshold_low c n = grind (arith, common_steps, ints, unsigned_abs, pos)

-- an entry of the thresholds of a table
pub threshold_at : (f : List ℤ → ℤ) (ts : List ℤ) (dirs : List (List ℤ)) (i : ℕ) → ts ≡ map f dirs → i < length dirs → at ts i ≡ f (get_or dirs i [])
threshold_at f ts dirs i are inside = rw are (get_or-map f dirs i [] (pos 0) inside)

-- each threshold of a table
pub thresholds_small : (c : Clearance) (ts : List ℤ) (dirs : List (List ℤ)) → IsClearance c → All AreSmall dirs → ts ≡ map (threshold c) dirs →
    All (λ (t : ℤ). (pos 0 ≤ℤ t) × (t <ℤ pos (2 ^ 30))) ts
thresholds_small c ts dirs clear small are =
    All-from_get_or (λ (t : ℤ). (pos 0 ≤ℤ t) × (t <ℤ pos (2 ^ 30))) ts (pos 0) (λ i inside. one i (omega (arith, inside, same)))
  where
    same : length ts ≡ length dirs
    same = rw are (length-map dirs (threshold c))

    one : (i : ℕ) → i < length dirs → (pos 0 ≤ℤ at ts i) × (at ts i <ℤ pos (2 ^ 30))
    one i inside =
        rw (threshold_at (threshold c) ts dirs i are inside)
        (threshold_low c (get_or dirs i []), threshold_small c (get_or dirs i []) clear (All-get_or AreSmall dirs i [] inside small))

stays : (z t : ℤ) → z ≡ t → pos 0 ≤ℤ t → t <ℤ pos (2 ^ 30) → to_z w128 (of_z w128 z) ≡ t
stays z t e positive small = let fits : FitsSigned w128 z = omega (arith, ints) in to_z-of_z w128 z fits ∙ e

-- a threshold as a number of the program
pub threshold_told : (c : Clearance) (ts : List ℤ) (dirs : List (List ℤ)) (dir : ℕ) → IsClearance c → All AreSmall dirs → ts ≡ map (threshold c) dirs → dir < length dirs →
    to_z w128 (of_z w128 (at ts dir)) ≡ threshold c (get_or dirs dir [])
threshold_told c ts dirs dir clear small are inside =
    stays (at ts dir) (threshold c (get_or dirs dir [])) (threshold_at (threshold c) ts dirs dir are inside) (threshold_low c (get_or dirs dir []))
    (threshold_small c (get_or dirs dir []) clear (All-get_or AreSmall dirs dir [] inside small))

-- ---- products that the program makes
pub weight_fits : (x : ℤ) → IsBelow 4001 x → FitsSigned w128 x
weight_fits x below = omega (arith, ints)

-- a number up to 2^50 times one up to 2^70
pub product_small : (f x : ℤ) → pos 0 ≤ℤ f → f ≤ℤ pos (2 ^ 50) → pos 0 ≤ℤ x → x ≤ℤ pos (2 ^ 70) → (pos 0 ≤ℤ (f *ℤ x)) × ((f *ℤ x) ≤ℤ pos (2 ^ 50 * 2 ^ 70))
product_small (pos f) (pos x) f_low f_high x_low x_high =
    let m : f * x ≤ 2 ^ 50 * 2 ^ 70 = mul-le f x (2 ^ 50) (2 ^ 70) (omega (arith, ints)) (omega (arith, ints)) in
    (omega (arith, ints), omega (arith, ints, m))
product_small (negsuc f) x f_low f_high x_low x_high = absurd (omega (arith, ints))
product_small (pos f) (negsuc x) f_low f_high x_low x_high = absurd (omega (arith, ints))

pub product_fits : (f x : ℤ) → pos 0 ≤ℤ f → f ≤ℤ pos (2 ^ 50) → pos 0 ≤ℤ x → x ≤ℤ pos (2 ^ 70) → FitsSigned w128 (f *ℤ x)
product_fits f x f_low f_high x_low x_high =
    let small = product_small f x f_low f_high x_low x_high in
    omega (arith, ints, small.0, small.1)

-- a product that the program holds, of a number and one that it holds
pub product_told : (p v x : ℤ) (f a : ℕ) → f ≡ a → v ≡ x → pos 0 ≤ℤ v → v ≤ℤ pos (2 ^ 26) → p ≡ pos f *ℤ to_z w128 (of_z w128 v)
    → pos 0 ≤ℤ p → p <ℤ pos (2 ^ 100) → to_z w128 (of_z w128 p) ≡ pos a *ℤ x
product_told p v x f a f_is v_is v_low v_high p_is p_low p_high =
    let p_fits : FitsSigned w128 p = omega (arith, ints) in
    let v_fits : FitsSigned w128 v = omega (arith, ints) in
    rw (to_z-of_z w128 p p_fits, p_is, to_z-of_z w128 v v_fits, f_is, v_is) refl

-- a factor that the program reads from its bits, times a number that it holds
pub factor_told : (f : ℕ) (x : ℤ) → f ≤ 2 ^ 50 → pos 0 ≤ℤ x → x ≤ℤ pos (2 ^ 26) → to_z w128 f *ℤ to_z w128 (of_z w128 x) ≡ pos f *ℤ x
factor_told f x small low high =
    let x_fits : FitsSigned w128 x = omega (arith, ints) in
    rw (to_z_pos w128 f (omega arith), to_z-of_z w128 x x_fits) refl

pub factor_small : (f : ℕ) (x : ℤ) → f ≤ 2 ^ 50 → pos 0 ≤ℤ x → x ≤ℤ pos (2 ^ 26) → (pos 0 ≤ℤ (pos f *ℤ x)) × ((pos f *ℤ x) <ℤ pos (2 ^ 100))
factor_small f (pos x) small low high =
    let m : f * x ≤ 2 ^ 50 * 2 ^ 26 = mul-le f x (2 ^ 50) (2 ^ 26) small (omega (arith, ints)) in
    (omega (arith, ints), omega (arith, ints, m))
factor_small f (negsuc x) small low high = absurd (omega (arith, ints))

pub factor_fits : (f : ℕ) (x : ℤ) → f ≤ 2 ^ 50 → pos 0 ≤ℤ x → x ≤ℤ pos (2 ^ 26) → FitsSigned w128 (pos f *ℤ x)
factor_fits f x small low high = let within = factor_small f x small low high in omega (arith, ints, within.0, within.1)

-- a sum of three squares, and a product with it, as the program holds them
pub sum_held : (x : ℤ) → pos 0 ≤ℤ x → x ≤ℤ pos (2 ^ 26) → (pos 0 ≤ℤ to_z w128 (of_z w128 x)) × (to_z w128 (of_z w128 x) ≤ℤ pos (2 ^ 26))
sum_held x low high = let fits : FitsSigned w128 x = omega (arith, ints) in rw (to_z-of_z w128 x fits) (low, high)

pub product_held : (p : ℤ) → pos 0 ≤ℤ p → p <ℤ pos (2 ^ 100) → (pos 0 ≤ℤ to_z w128 (of_z w128 p)) × (to_z w128 (of_z w128 p) <ℤ pos (2 ^ 100))
product_held p low high = let fits : FitsSigned w128 p = omega (arith, ints) in rw (to_z-of_z w128 p fits) (low, high)
