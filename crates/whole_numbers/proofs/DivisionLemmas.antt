-- Floors of quotients, and roots, over whole numbers.
use Rattle.whole_numbers.proofs.Prelude.{◌≡◌, ◌<◌, ℤ, pos, ◌+ℤ◌, ◌-ℤ◌, ◌*ℤ◌, ◌<ℤ◌, ◌≤ℤ◌, neg_ℤ, unsigned_abs, int_div, int_rem, arith, sym, ◌∙◌, ap, ints, by_lt_z, quot-rem, rem_below, quot_fits, fits_signed_mul, to_z-of_z, true, false, to_z, of_z, lit<, le_z, FitsSigned, ◌^◌, w128}
use Rattle.whole_numbers.proofs.RingLemmas.{linear, le_mul_ℤ, le_mul_pos, mul_comm_ℤ, add_mul_ℤ}

-- a positive factor is cancelled from an order
pub lt_from_mul_ℤ : (x y b : ℤ) → pos 0 <ℤ b → (x *ℤ b) <ℤ (y *ℤ b) → x <ℤ y
lt_from_mul_ℤ x y b positive below = by_lt_z x y (λ h. h)
    (λ h. absurd (omega (arith, linear, le_mul_ℤ b y x (omega (arith, linear)) h, mul_comm_ℤ b x, mul_comm_ℤ b y)))

-- a product one factor less
expand : (q b : ℤ) → (q -ℤ pos 1) *ℤ b ≡ q *ℤ b -ℤ b
expand q b = rw (add_mul_ℤ q (neg_ℤ (pos 1)) b) (omega (arith, ints))

-- a product one factor more
expand_up : (q b : ℤ) → (q +ℤ pos 1) *ℤ b ≡ q *ℤ b +ℤ b
expand_up q b = rw (add_mul_ℤ q (pos 1) b) (omega (arith, ints))

-- a remainder lies strictly between the divisor's two signs
rem_bound : (a b : ℤ) → pos 0 <ℤ b → (neg_ℤ b <ℤ int_rem a b) × (int_rem a b <ℤ b)
rem_bound a b positive = let r : unsigned_abs (int_rem a b) < unsigned_abs b = rem_below a b (omega (arith, ints)) in (omega (arith, ints), omega (arith, ints))

-- with a negative remainder, one less than the quotient is not too large
pub floor_below_negative : (a b : ℤ) → pos 0 <ℤ b → int_rem a b <ℤ pos 0 → ((int_div a b -ℤ pos 1) *ℤ b) ≤ℤ a
floor_below_negative a b positive negative = omega (arith, linear, expand (int_div a b) b, quot-rem a b, rem_bound a b positive)

-- with another remainder the quotient is not too large
pub floor_below : (a b : ℤ) → pos 0 <ℤ b → pos 0 ≤ℤ int_rem a b → (int_div a b *ℤ b) ≤ℤ a
floor_below a b positive other = omega (arith, linear, quot-rem a b)

-- with a negative remainder, nothing above one less than the quotient is small enough
pub floor_greatest_negative : (a b : ℤ) → pos 0 <ℤ b → int_rem a b <ℤ pos 0 → (q : ℤ) → (q *ℤ b) ≤ℤ a → q ≤ℤ (int_div a b -ℤ pos 1)
floor_greatest_negative a b positive negative q below =
    let less : q <ℤ int_div a b = lt_from_mul_ℤ q (int_div a b) b positive (omega (arith, linear, quot-rem a b)) in
    omega (arith, linear)

-- with another remainder, nothing above the quotient is small enough
pub floor_greatest : (a b : ℤ) → pos 0 <ℤ b → pos 0 ≤ℤ int_rem a b → (q : ℤ) → (q *ℤ b) ≤ℤ a → q ≤ℤ int_div a b
floor_greatest a b positive other q below =
    let less : q <ℤ (int_div a b +ℤ pos 1) = lt_from_mul_ℤ q (int_div a b +ℤ pos 1) b positive (omega (arith, linear, quot-rem a b, expand_up (int_div a b) b, rem_bound a b positive)) in
    omega (arith, linear)

-- the floor fits where the quotient is rounded down
pub fits_less : (a b : ℤ) → FitsSigned w128 a → pos 0 <ℤ b → int_rem a b <ℤ pos 0 → FitsSigned w128 (int_div a b -ℤ pos 1)
fits_less a b fits positive negative =
    let least : ℤ = neg_ℤ (pos (2 ^ 127)) in
    let under : (pos (2 ^ 127) *ℤ pos 1) ≤ℤ (pos (2 ^ 127) *ℤ b) = le_mul_pos (2 ^ 127) (pos 1) b (omega (arith, ints)) in
    let low : least ≤ℤ (int_div a b -ℤ pos 1) = floor_greatest_negative a b positive negative least (omega (arith, ints, under)) in
    let high : FitsSigned w128 (int_div a b) = quot_fits w128 a b fits positive in
    omega (arith, ints)

-- ---- squares
-- squares keep the order of numbers that are not negative
pub square_le : (x y : ℤ) → pos 0 ≤ℤ x → x ≤ℤ y → (x *ℤ x) ≤ℤ (y *ℤ y)
square_le x y positive below = omega (arith, linear, le_mul_ℤ x x y positive below, le_mul_ℤ y x y (omega (arith, linear)) below, mul_comm_ℤ x y)

-- the squares that the search makes fit
square_fits : (m : ℤ) → pos 0 ≤ℤ m → m ≤ℤ pos (2 ^ 50) → FitsSigned w128 (m *ℤ m)
square_fits m positive small = fits_signed_mul w128 m m (2 ^ 50) (2 ^ 50) (omega (arith, ints)) (omega (arith, ints)) (lit< tt)

-- the test on a square, where it holds
pub square_at_most : (m x : ℤ) → le_z (to_z w128 (of_z w128 (m *ℤ m))) x ≡ true → pos 0 ≤ℤ m → m ≤ℤ pos (2 ^ 50) → (m *ℤ m) ≤ℤ x
square_at_most m x test positive small = omega (arith, ints, sym (ap (λ (z : ℤ). le_z z x) (to_z-of_z w128 (m *ℤ m) (square_fits m positive small))) ∙ test)

-- the test on a square, where it fails
pub square_above : (m x : ℤ) → le_z (to_z w128 (of_z w128 (m *ℤ m))) x ≡ false → pos 0 ≤ℤ m → m ≤ℤ pos (2 ^ 50) → x <ℤ (m *ℤ m)
square_above m x test positive small = omega (arith, ints, sym (ap (λ (z : ℤ). le_z z x) (to_z-of_z w128 (m *ℤ m) (square_fits m positive small))) ∙ test)

-- where two neighbours enclose the root, the upper one is the least above
pub root_least : (v low high t : ℤ) → (low *ℤ low) ≤ℤ v → high ≤ℤ (low +ℤ pos 1) → pos 0 ≤ℤ t → v <ℤ (t *ℤ t) → high ≤ℤ t
root_least v low high t under near positive above = by_lt_z t high
    (λ less. absurd (omega (arith, linear, square_le t low positive (omega (arith, linear)))))
    (λ h. h)
