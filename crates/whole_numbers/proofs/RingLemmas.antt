-- The laws of a ring for whole numbers, and the two rule sets that close polynomial identities:
-- `simp ring (omega (arith, linear))`.
use Rattle.whole_numbers.proofs.Prelude.{◌≡◌, ℕ, ◌+◌, ◌*◌, ℤ, pos, negsuc, ◌+ℤ◌, ◌-ℤ◌, ◌*ℤ◌, neg_ℤ, arith, sym, ◌∙◌, ap, subst, ◌≤ℤ◌, ◌<ℤ◌, ints, by_lt_z}
use Rattle.std.proofs.Math.Nat.{mul-le-mul_left}
use borrow.Author.Differences.{up, down, sum_is_lem, product_is, neg_is, same_in, same_out, Apart-out, lt_out, le_out, below_in, at_most_in}

-- the difference of two naturals
diff : ℕ → ℕ → ℤ
diff p q = pos p -ℤ pos q

-- what a difference is, in naturals
diff-is : (p q : ℕ) → up (diff p q) + q ≡ down (diff p q) + p
unfolding diff
diff-is p q = omega (arith, ints)

-- each integer is the difference of its two parts
diff_of : (z : ℤ) → z ≡ diff (up z) (down z)
diff_of z = omega (arith, ints, diff-is (up z) (down z))

-- the sum of two differences
diff-add : (p q r s : ℕ) → diff p q +ℤ diff r s ≡ diff (p + r) (q + s)
diff-add p q r s = omega (arith, ints, diff-is p q, diff-is r s, diff-is (p + r) (q + s))

-- two differences are one where their crossed sums are
same_diff : (p q r s : ℕ) → p + s ≡ r + q → diff p q ≡ diff r s
same_diff p q r s e = omega (arith, ints, diff-is p q, diff-is r s)

-- the product of two differences
diff-mul : (p q r s : ℕ) → diff p q *ℤ diff r s ≡ diff (p * r + q * s) (p * s + q * r)
diff-mul p q r s = same_in _ _ (go (up (diff p q)) (down (diff p q)) (up (diff r s)) (down (diff r s)) (up (diff (p * r + q * s) (p * s + q * r))) (down (diff (p * r + q * s) (p * s + q * r)))
    (up (diff p q *ℤ diff r s)) (down (diff p q *ℤ diff r s)) (diff-is p q) (diff-is r s) (diff-is _ _) (product_is (diff p q) (diff r s)).0 (product_is (diff p q) (diff r s)).1)
  where
    go : (u d v e w f x y : ℕ) → u + q ≡ d + p → v + s ≡ e + r → w + (p * s + q * r) ≡ f + (p * r + q * s) → x ≡ u * v + d * e → y ≡ u * e + d * v → x + f ≡ w + y
    go u d v e w f x y h1 h2 h3 h4 h5 = omega (arith, ap (λ (n : ℕ). n * v) h1, ap (λ (n : ℕ). n * e) h1, ap (λ (n : ℕ). p * n) h2, ap (λ (n : ℕ). q * n) h2)

-- what holds of each difference holds of each integer
by_diff : (P : ℤ → Type 0) → ((p q : ℕ) → P (diff p q)) → (z : ℤ) → P z
by_diff P h z = subst P (sym (diff_of z)) (h (up z) (down z))

-- associativity, for differences
mul_assoc_of : (p q r s t u : ℕ) → (diff p q *ℤ diff r s) *ℤ diff t u ≡ diff p q *ℤ (diff r s *ℤ diff t u)
mul_assoc_of p q r s t u = simp diff-mul (same_diff _ _ _ _ (omega arith))

-- multiplication is associative
pub mul_assoc_ℤ : (a b c : ℤ) → (a *ℤ b) *ℤ c ≡ a *ℤ (b *ℤ c)
mul_assoc_ℤ a b c = rw (diff_of a, diff_of b, diff_of c) (mul_assoc_of (up a) (down a) (up b) (down b) (up c) (down c))

-- distributivity, for differences
mul_add_of : (p q r s t u : ℕ) → diff p q *ℤ (diff r s +ℤ diff t u) ≡ diff p q *ℤ diff r s +ℤ diff p q *ℤ diff t u
mul_add_of p q r s t u = simp (diff-mul, diff-add) (same_diff _ _ _ _ (omega arith))

-- multiplication distributes over a sum on its right
pub mul_add_ℤ : (a b c : ℤ) → a *ℤ (b +ℤ c) ≡ a *ℤ b +ℤ a *ℤ c
mul_add_ℤ a b c = by_diff (λ a. a *ℤ (b +ℤ c) ≡ a *ℤ b +ℤ a *ℤ c) (λ p q. by_diff (λ b. diff p q *ℤ (b +ℤ c) ≡ diff p q *ℤ b +ℤ diff p q *ℤ c) (λ r s. by_diff (λ c. diff p q *ℤ (diff r s +ℤ c) ≡ diff p q *ℤ diff r s +ℤ diff p q *ℤ c) (λ t u. mul_add_of p q r s t u) c) b) a

-- multiplication commutes
pub mul_comm_ℤ : (a b : ℤ) → a *ℤ b ≡ b *ℤ a
mul_comm_ℤ a b = omega (arith, ints)

-- multiplication distributes over a sum on its left
pub add_mul_ℤ : (a b c : ℤ) → (a +ℤ b) *ℤ c ≡ a *ℤ c +ℤ b *ℤ c
add_mul_ℤ a b c = rw (mul_comm_ℤ (a +ℤ b) c, mul_add_ℤ c a b, mul_comm_ℤ c a, mul_comm_ℤ c b)

-- two factors change places in front of a third
pub mul_left_comm_ℤ : (a b c : ℤ) → a *ℤ (b *ℤ c) ≡ b *ℤ (a *ℤ c)
mul_left_comm_ℤ a b c = sym (mul_assoc_ℤ a b c) ∙ ap (λ (x : ℤ). x *ℤ c) (mul_comm_ℤ a b) ∙ mul_assoc_ℤ b a c

-- the negative of a difference
diff-neg : (p q : ℕ) → neg_ℤ (diff p q) ≡ diff q p
diff-neg p q = omega (arith, ints, diff-is p q, diff-is q p)

-- a sign goes in front of a product, for differences
neg_mul_of : (p q r s : ℕ) → neg_ℤ (diff p q) *ℤ diff r s ≡ neg_ℤ (diff p q *ℤ diff r s)
neg_mul_of p q r s = simp (diff-neg, diff-mul) (same_diff _ _ _ _ (omega arith))

-- the left factor's sign goes in front of a product
pub neg_mul_ℤ : (a b : ℤ) → neg_ℤ a *ℤ b ≡ neg_ℤ (a *ℤ b)
neg_mul_ℤ a b = by_diff (λ a. neg_ℤ a *ℤ b ≡ neg_ℤ (a *ℤ b)) (λ p q. by_diff (λ b. neg_ℤ (diff p q) *ℤ b ≡ neg_ℤ (diff p q *ℤ b)) (λ r s. neg_mul_of p q r s) b) a

-- the right factor's sign goes in front of a product
pub mul_neg_ℤ : (a b : ℤ) → a *ℤ neg_ℤ b ≡ neg_ℤ (a *ℤ b)
mul_neg_ℤ a b = mul_comm_ℤ a (neg_ℤ b) ∙ neg_mul_ℤ b a ∙ ap neg_ℤ (mul_comm_ℤ b a)

-- 0 times a number
pub zero_mul_ℤ : (a : ℤ) → pos 0 *ℤ a ≡ pos 0
zero_mul_ℤ a = omega (arith, ints)

-- a number times 0
pub mul_zero_ℤ : (a : ℤ) → a *ℤ pos 0 ≡ pos 0
mul_zero_ℤ a = mul_comm_ℤ a (pos 0) ∙ zero_mul_ℤ a

-- 1 times a number
pub one_mul_ℤ : (a : ℤ) → pos 1 *ℤ a ≡ a
one_mul_ℤ a = omega (arith, ints)

-- Products are multiplied out, and their factors sorted. What is left is linear in the products, and `omega (arith, linear)` closes it.
pub ruleset ring = (mul_add_ℤ, add_mul_ℤ, neg_mul_ℤ, mul_neg_ℤ, mul_assoc_ℤ, mul_comm_ℤ, mul_left_comm_ℤ)

-- a multiple
pub multiple_is : (k : ℕ) (z : ℤ) → (up (pos k *ℤ z) ≡ k * up z) × (down (pos k *ℤ z) ≡ k * down z)
multiple_is k z = omega (arith, ints)

-- the set `ints` without products of two unknowns, casts and tests: each product is an unknown
pub ruleset linear = (same_out, Apart-out, lt_out, le_out, same_in, below_in, at_most_in, sum_is_lem, neg_is, multiple_is)

-- ---- order
-- a natural factor keeps the order
pub le_mul_pos : (n : ℕ) (x y : ℤ) → x ≤ℤ y → (pos n *ℤ x) ≤ℤ (pos n *ℤ y)
le_mul_pos n x y below = omega (arith, ints, mul-le-mul_left n (le_out x y below))

-- a factor that is not negative keeps the order
pub le_mul_ℤ : (a x y : ℤ) → pos 0 ≤ℤ a → x ≤ℤ y → (a *ℤ x) ≤ℤ (a *ℤ y)
le_mul_ℤ (pos n) x y positive below = le_mul_pos n x y below
le_mul_ℤ (negsuc n) x y positive below = absurd (omega (arith, le_out (pos 0) (negsuc n) positive))

-- a positive factor keeps the order, strictly
pub lt_mul_ℤ : (x y b : ℤ) → pos 0 <ℤ b → x <ℤ y → (x *ℤ b) <ℤ (y *ℤ b)
lt_mul_ℤ x y b positive less =
    let h : (b *ℤ (x +ℤ pos 1)) ≤ℤ (b *ℤ y) = le_mul_ℤ b (x +ℤ pos 1) y (omega (arith, linear)) (omega (arith, linear)) in
    omega (arith, linear, h, mul_add_ℤ b x (pos 1), mul_comm_ℤ b x, mul_comm_ℤ b y, mul_comm_ℤ b (pos 1))

-- what is at most after both were multiplied was so before
pub le_from_mul_ℤ : (x y b : ℤ) → pos 0 <ℤ b → (x *ℤ b) ≤ℤ (y *ℤ b) → x ≤ℤ y
le_from_mul_ℤ x y b positive below = by_lt_z y x (λ more. absurd (omega (arith, linear, lt_mul_ℤ y x b positive more))) (λ h. h)

-- signs of products
pub mul_positive : (x y : ℤ) → pos 0 <ℤ x → pos 0 <ℤ y → pos 0 <ℤ (x *ℤ y)
mul_positive x y first second = omega (arith, linear, lt_mul_ℤ (pos 0) x y second first, zero_mul_ℤ y)

pub mul_not_negative : (x y : ℤ) → pos 0 ≤ℤ x → pos 0 ≤ℤ y → pos 0 ≤ℤ (x *ℤ y)
mul_not_negative x y first second = omega (arith, linear, le_mul_ℤ x (pos 0) y first second, mul_comm_ℤ x (pos 0), zero_mul_ℤ x)
