-- Products and their sums that fit an `i128`.
use Rattle.bezier_core.proofs.Prelude.{common_steps, ◌≡◌, ℕ, ◌^◌, ◌<◌, ◌≤◌, ◌+◌, ℤ, pos, ◌+ℤ◌, ◌-ℤ◌, ◌*ℤ◌, ◌<ℤ◌, ◌≤ℤ◌, neg_ℤ, FitsSigned, to_z, arith, refl, sym, ◌∙◌, ap, ints, to_z_pos, w128, ring, linear, le_mul_ℤ, mul_comm_ℤ, mul_neg_ℤ, mul_left_comm_ℤ, zero, suc, ◌*◌, negsuc, lit<, mul-le, IsBelow, power, bernstein, bernstein-same, bernstein-step, IsWithin, FitsTimes}
use Rattle.std.proofs.Math.Nat.{pow-zero, pow-succ', pow-le-pow_left, pow-le-pow_right}
use Rattle.bezier_core.specs.Curves.{IsLength}

-- a product by a factor that is not negative keeps a bound
pub within_mul : (a m x : ℤ) → pos 0 ≤ℤ a → IsWithin m x → IsWithin (a *ℤ m) (a *ℤ x)
within_mul a m x positive within = (omega (arith, linear, le_mul_ℤ a (neg_ℤ m) x positive within.0, mul_neg_ℤ a m), le_mul_ℤ a x m positive within.1)

-- a blend keeps a bound, c times
pub within_blend : (a c m x y : ℤ) → pos 0 ≤ℤ a → a ≤ℤ c → IsWithin m x → IsWithin m y → IsWithin (c *ℤ m) ((c -ℤ a) *ℤ x +ℤ a *ℤ y)
within_blend a c m x y positive within first second =
    let left : IsWithin ((c -ℤ a) *ℤ m) ((c -ℤ a) *ℤ x) = within_mul (c -ℤ a) m x (omega (arith, linear)) first in
    let right : IsWithin (a *ℤ m) (a *ℤ y) = within_mul a m y positive second in
    let whole : (c -ℤ a) *ℤ m +ℤ a *ℤ m ≡ c *ℤ m = parts a c m in
    (omega (arith, linear), omega (arith, linear))
  where
    parts : (a c m : ℤ) → (c -ℤ a) *ℤ m +ℤ a *ℤ m ≡ c *ℤ m
    parts a c m = simp ring (omega (arith, linear))

pub bound_positive : (m x : ℤ) → IsWithin m x → pos 0 ≤ℤ m
bound_positive m x within = omega (arith, linear)

pub fits_part : (b c m x : ℤ) → pos 0 ≤ℤ b → b ≤ℤ c → IsWithin m x → (c *ℤ m) <ℤ pos (2 ^ 127) → FitsSigned w128 (b *ℤ x)
fits_part b c m x positive within bound fits = grind (arith, common_steps, ints, within_mul, le_mul_ℤ, bound_positive, mul_comm_ℤ, pos)

pub fits_blend : (a c x y : ℤ) → pos 0 ≤ℤ a → a ≤ℤ c → FitsTimes c x y → FitsSigned w128 ((c -ℤ a) *ℤ x +ℤ a *ℤ y)
fits_blend a c x y positive within room =
    close ((c -ℤ a) *ℤ x +ℤ a *ℤ y) (c *ℤ room.bound) (within_blend a c room.bound x y positive within room.first room.second) room.fits
  where
    close : (z q : ℤ) → IsWithin q z → q <ℤ pos (2 ^ 127) → FitsSigned w128 z
    close z q within fits = omega (arith, ints)

-- ---- the value
-- one step keeps the sum
pub sum_kept : (n : ℕ) (f g : ℕ → ℤ) (a c total : ℤ) → ((i : ℕ) → i < suc n → g i ≡ (c -ℤ a) *ℤ f i +ℤ a *ℤ f (i + 1)) →
    bernstein (suc n) f a c ≡ total → bernstein n g a c ≡ total
sum_kept n f g a c total steps whole =
    bernstein-same n g _ a c (λ k small. steps k (omega arith) ∙ ap (λ (j : ℕ). (c -ℤ a) *ℤ f k +ℤ a *ℤ f j) (omega arith))
    ∙ sym (bernstein-step n f a c) ∙ whole

-- one step multiplies the bound by c
pub bound_kept : (r : ℕ) (a c x y z : ℤ) → pos 0 ≤ℤ a → a ≤ℤ c → z ≡ (c -ℤ a) *ℤ x +ℤ a *ℤ y →
    IsWithin (pos 32768 *ℤ power c r) x → IsWithin (pos 32768 *ℤ power c r) y → IsWithin (pos 32768 *ℤ power c (suc r)) z
bound_kept r a c x y z positive within e first second =
    rw (e, mul_left_comm_ℤ (pos 32768) c (power c r)) (within_blend a c (pos 32768 *ℤ power c r) x y positive within first second)

pub power_pos : (n r : ℕ) → power (pos n) r ≡ pos (n ^ r)
power_pos n zero = ap pos (sym (pow-zero n))
power_pos n (suc r) = rw (power_pos n r, pow-succ') refl

room_in : (n r : ℕ) → n ≤ 65535 → r ≤ 6 → pos (n * (32768 * n ^ r)) <ℤ pos (2 ^ 127)
room_in n r short few =
    let left : n ^ r ≤ 65535 ^ r = pow-le-pow_left short r in
    let right : 65535 ^ r ≤ 65535 ^ 6 = pow-le-pow_right {n = 65535} (lit< tt) few in
    let whole : n * (32768 * n ^ r) ≤ 65535 * (32768 * 65535 ^ 6) = mul-le n (32768 * n ^ r) 65535 (32768 * 65535 ^ 6) short (omega arith) in
    omega (arith, ints)

-- six steps leave room for a seventh
pub room_left : (c : ℤ) (r : ℕ) → pos 0 ≤ℤ c → c ≤ℤ pos 65535 → r ≤ 6 → (c *ℤ (pos 32768 *ℤ power c r)) <ℤ pos (2 ^ 127)
room_left (pos n) r positive short few = rw (power_pos n r) (room_in n r (omega (arith, ints)) few)
room_left (negsuc n) r positive short few = absurd (omega (arith, ints))

-- the value of a curve of degree seven or less is below 2^127
pub value_below : (c v : ℤ) (r : ℕ) → pos 0 ≤ℤ c → c ≤ℤ pos 65535 → r ≤ 7 → IsWithin (pos 32768 *ℤ power c r) v → IsBelow (2 ^ 127) v
value_below c v zero positive short few within = grind (arith, common_steps, ints, pos)
value_below c v (suc r) positive short few within =
    close v (c *ℤ (pos 32768 *ℤ power c r)) (rw (mul_left_comm_ℤ (pos 32768) c (power c r)) at within) (room_left c r positive short (omega arith))
  where
    close : (z q : ℤ) → IsWithin q z → q <ℤ pos (2 ^ 127) → IsBelow (2 ^ 127) z
    close z q within fits = (omega (arith, ints), omega (arith, ints))

-- a curve has at most eight control values
pub length_bounds : (n : ℕ) → IsLength n → (1 ≤ n) × (n ≤ 8)
length_bounds n h = (omega arith, omega arith)

-- ---- two multiples
pub multiple_fits : (i : ℕ) (x : ℤ) → i ≤ 5040 → IsWithin (pos (2 ^ 113)) x → FitsSigned w128 (pos i *ℤ x)
multiple_fits i x few within =
    let bound : IsWithin (pos i *ℤ pos (2 ^ 113)) (pos i *ℤ x) = within_mul (pos i) (pos (2 ^ 113)) x (omega (arith, linear)) within in
    omega (arith, ints)

pub multiples_fit : (i j : ℕ) (x y : ℤ) → i + j ≤ 5040 → IsWithin (pos (2 ^ 113)) x → IsWithin (pos (2 ^ 113)) y → FitsSigned w128 (pos i *ℤ x +ℤ pos j *ℤ y)
multiples_fit i j x y few first second = grind (arith, common_steps, ints, pos, within_mul)

pub cast_count : (i : ℕ) → i ≤ 5040 → to_z w128 i ≡ pos i
cast_count i few = to_z_pos w128 i (omega arith)
