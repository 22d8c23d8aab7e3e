-- Laws of sums and powers.
use Rattle.whole_numbers.proofs.Prelude.{◌≡◌, ℕ, zero, suc, ◌<◌, ℤ, pos, ◌+ℤ◌, ◌*ℤ◌, ◌≤ℤ◌, ◌<ℤ◌, ◌+◌, arith, refl, sym, ◌∙◌, ap, ints, sum_below, power}
use Rattle.whole_numbers.proofs.RingLemmas.{ring, linear, mul_add_ℤ, mul_assoc_ℤ, mul_not_negative, mul_positive, one_mul_ℤ}

-- the sum depends on no more than its terms
pub sum_below-same : (n : ℕ) (f g : ℕ → ℤ) → ((k : ℕ) → k < n → f k ≡ g k) → sum_below n f ≡ sum_below n g
sum_below-same zero f g same = refl
sum_below-same (suc n) f g same =
    let rest : sum_below n f ≡ sum_below n g = sum_below-same n f g (λ k small. same k (omega arith)) in
    let last : f n ≡ g n = same n (omega arith) in
    cc

-- the sum of sums
pub sum_below-add : (n : ℕ) (f g : ℕ → ℤ) → sum_below n (λ k. f k +ℤ g k) ≡ sum_below n f +ℤ sum_below n g
sum_below-add zero f g = refl
sum_below-add (suc n) f g = omega (arith, linear, sum_below-add n f g)

-- a factor goes in front of a sum
pub sum_below-scale : (n : ℕ) (x : ℤ) (f : ℕ → ℤ) → sum_below n (λ k. x *ℤ f k) ≡ x *ℤ sum_below n f
sum_below-scale zero x f = omega (arith, ints)
sum_below-scale (suc n) x f = rw (mul_add_ℤ x (sum_below n f) (f n)) (omega (arith, linear, sum_below-scale n x f))

-- a sum is its first term and the rest
pub sum_below-first : (n : ℕ) (f : ℕ → ℤ) → sum_below (suc n) f ≡ f 0 +ℤ sum_below n (λ k. f (suc k))
sum_below-first zero f = omega (arith, linear)
sum_below-first (suc n) f = omega (arith, linear, sum_below-first n f)

-- powers of one number multiply by adding the exponents
pub power-add : (x : ℤ) (m n : ℕ) → power x (m + n) ≡ power x m *ℤ power x n
power-add x zero n = let e : 0 + n ≡ n = omega arith in rw e (sym (one_mul_ℤ (power x n)))
power-add x (suc m) n =
    let e : suc m + n ≡ suc (m + n) = omega arith in
    rw e (ap (λ (z : ℤ). x *ℤ z) (power-add x m n) ∙ sym (mul_assoc_ℤ x (power x m) (power x n)))

-- the power of a product
pub power-mul : (x y : ℤ) (n : ℕ) → power (x *ℤ y) n ≡ power x n *ℤ power y n
power-mul x y zero = refl
power-mul x y (suc n) = rw (power-mul x y n) (regroup x y (power x n) (power y n))
  where
    regroup : (x y p q : ℤ) → (x *ℤ y) *ℤ (p *ℤ q) ≡ (x *ℤ p) *ℤ (y *ℤ q)
    regroup x y p q = simp ring refl

-- signs of powers
pub power_positive : (c : ℤ) (n : ℕ) → pos 0 <ℤ c → pos 0 <ℤ power c n
power_positive c zero positive = omega (arith, linear)
power_positive c (suc n) positive = mul_positive c (power c n) positive (power_positive c n positive)

pub power_natural : (n k : ℕ) → pos 0 ≤ℤ power (pos n) k
power_natural n zero = omega (arith, linear)
power_natural n (suc k) = mul_not_negative (pos n) (power (pos n) k) (omega (arith, ints)) (power_natural n k)
