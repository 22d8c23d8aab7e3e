-- Homogeneous polynomials in two unknowns as lists of coefficients: sums, multiples and products of them, and the
-- list of a
-- Bernstein sum. The list p 0, .., p n stands for the sum of p k u^k w^(n - k), so its degree is one below its length.
use Rattle.definition_tests.proofs.Prelude.{◌≡◌, ℕ, zero, suc, ◌+◌, ℤ, pos, ◌+ℤ◌, ◌-ℤ◌, ◌*ℤ◌, List, [], ◌∷◌, length, arith, refl, sym, ap, ◌∙◌, power, bernstein, bernstein-suc, bernstein-zero, linear, ring, mul_assoc_ℤ, mul_comm_ℤ, mul_zero_ℤ, one_mul_ℤ, zero_mul_ℤ}

-- the value at u and w
abbrev pub value : List ℤ → ℤ → ℤ → ℤ
value [] u w = pos 0
value (x ∷ p) u w = x *ℤ power w (length p) +ℤ u *ℤ value p u w

-- ---- sums
abbrev pub plus : List ℤ → List ℤ → List ℤ
plus [] q = q
plus (x ∷ p) [] = x ∷ p
plus (x ∷ p) (y ∷ q) = (x +ℤ y) ∷ plus p q

pub length-plus : (p q : List ℤ) → length p ≡ length q → length (plus p q) ≡ length q
length-plus [] q same = refl
length-plus (x ∷ p) [] same = same
length-plus (x ∷ p) (y ∷ q) same = omega (arith, length-plus p q (omega (arith, same)))

value_plus : (x y v u f g s : ℤ) → s ≡ f +ℤ g → (x +ℤ y) *ℤ v +ℤ u *ℤ s ≡ (x *ℤ v +ℤ u *ℤ f) +ℤ (y *ℤ v +ℤ u *ℤ g)
value_plus x y v u f g s is = rw is (simp ring (omega (arith, linear)))

pub value-plus : (p q : List ℤ) (u w : ℤ) → length p ≡ length q → value (plus p q) u w ≡ value p u w +ℤ value q u w
value-plus [] q u w same = omega (arith, linear)
value-plus (x ∷ p) [] u w same = absurd (omega (arith, same))
value-plus (x ∷ p) (y ∷ q) u w same =
    let short : length p ≡ length q = omega (arith, same) in
    rw (length-plus p q short, short) (value_plus x y (power w (length q)) u (value p u w) (value q u w) (value (plus p q) u w) (value-plus p q u w short))

-- ---- multiples
abbrev pub times : ℤ → List ℤ → List ℤ
times x [] = []
times x (y ∷ p) = (x *ℤ y) ∷ times x p

pub length-times : (x : ℤ) (p : List ℤ) → length (times x p) ≡ length p
length-times x [] = refl
length-times x (y ∷ p) = omega (arith, length-times x p)

value_times : (x y v u f s : ℤ) → s ≡ x *ℤ f → (x *ℤ y) *ℤ v +ℤ u *ℤ s ≡ x *ℤ (y *ℤ v +ℤ u *ℤ f)
value_times x y v u f s is = rw is (simp ring (omega (arith, linear)))

pub value-times : (x : ℤ) (p : List ℤ) (u w : ℤ) → value (times x p) u w ≡ x *ℤ value p u w
value-times x [] u w = sym (mul_zero_ℤ x)
value-times x (y ∷ p) u w =
    rw (length-times x p) (value_times x y (power w (length p)) u (value p u w) (value (times x p) u w) (value-times x p u w))

-- ---- times u and times w
abbrev pub times_u : List ℤ → List ℤ
times_u p = pos 0 ∷ p

pub value-times_u : (p : List ℤ) (u w : ℤ) → value (times_u p) u w ≡ u *ℤ value p u w
value-times_u p u w = omega (arith, linear, zero_mul_ℤ (power w (length p)))

abbrev pub times_w : List ℤ → List ℤ
times_w [] = pos 0 ∷ []
times_w (x ∷ p) = x ∷ times_w p

pub length-times_w : (p : List ℤ) → length (times_w p) ≡ suc (length p)
length-times_w [] = refl
length-times_w (x ∷ p) = omega (arith, length-times_w p)

value_times_w : (x v u w f s : ℤ) → s ≡ w *ℤ f → x *ℤ (w *ℤ v) +ℤ u *ℤ s ≡ w *ℤ (x *ℤ v +ℤ u *ℤ f)
value_times_w x v u w f s is = rw is (simp ring (omega (arith, linear)))

pub value-times_w : (p : List ℤ) (u w : ℤ) → value (times_w p) u w ≡ w *ℤ value p u w
value-times_w [] u w = omega (arith, linear, zero_mul_ℤ (pos 1), mul_zero_ℤ u, mul_zero_ℤ w)
value-times_w (x ∷ p) u w =
    rw (length-times_w p) (value_times_w x (power w (length p)) u w (value p u w) (value (times_w p) u w) (value-times_w p u w))

-- ---- times a power of w
abbrev pub times_power : ℕ → List ℤ → List ℤ
times_power zero p = p
times_power (suc n) p = times_w (times_power n p)

pub length-times_power : (n : ℕ) (p : List ℤ) → length (times_power n p) ≡ n + length p
length-times_power zero p = omega arith
length-times_power (suc n) p = omega (arith, length-times_w (times_power n p), length-times_power n p)

pub value-times_power : (n : ℕ) (p : List ℤ) (u w : ℤ) → value (times_power n p) u w ≡ power w n *ℤ value p u w
value-times_power zero p u w = sym (one_mul_ℤ (value p u w))
value-times_power (suc n) p u w =
    value-times_w (times_power n p) u w ∙ ap (λ (z : ℤ). w *ℤ z) (value-times_power n p u w) ∙ sym (mul_assoc_ℤ w (power w n) (value p u w))

-- ---- products
abbrev pub product : List ℤ → List ℤ → List ℤ
product [] q = []
product (x ∷ []) q = times x q
product (x ∷ y ∷ p) q = plus (times_power (suc (length p)) (times x q)) (times_u (product (y ∷ p) q))

pub length-product : (x : ℤ) (p q : List ℤ) → length (product (x ∷ p) q) ≡ length p + length q
length-product x [] q = omega (arith, length-times x q)
length-product x (y ∷ p) q =
    let rest : length (product (y ∷ p) q) ≡ length p + length q = length-product y p q in
    let front : length (times_power (suc (length p)) (times x q)) ≡ suc (length p) + length q =
    omega (arith, length-times_power (suc (length p)) (times x q), length-times x q) in
    omega (arith, rest, length-plus (times_power (suc (length p)) (times x q)) (times_u (product (y ∷ p) q)) (omega (arith, front, rest)))

pub value-product : (p q : List ℤ) (u w : ℤ) → value (product p q) u w ≡ value p u w *ℤ value q u w
value-product [] q u w = sym (zero_mul_ℤ (value q u w))
value-product (x ∷ []) q u w = value-times x q u w ∙ ap (λ (z : ℤ). z *ℤ value q u w) (alone x u)
  where
    alone : (x u : ℤ) → x ≡ x *ℤ pos 1 +ℤ u *ℤ pos 0
    alone x u = omega (arith, linear, mul_zero_ℤ u, mul_comm_ℤ x (pos 1))
value-product (x ∷ y ∷ p) q u w =
    let rest : length (product (y ∷ p) q) ≡ length p + length q = length-product y p q in
    let front : length (times_power (suc (length p)) (times x q)) ≡ suc (length p) + length q =
    omega (arith, length-times_power (suc (length p)) (times x q), length-times x q) in
    value-plus (times_power (suc (length p)) (times x q)) (times_u (product (y ∷ p) q)) u w (omega (arith, front, rest))
    ∙ joined x (power w (suc (length p))) u (value (y ∷ p) u w) (value q u w) _ _
    (value-times_power (suc (length p)) (times x q) u w ∙ ap (λ (z : ℤ). power w (suc (length p)) *ℤ z) (value-times x q u w))
    (value-times_u (product (y ∷ p) q) u w ∙ ap (λ (z : ℤ). u *ℤ z) (value-product (y ∷ p) q u w))
  where
    joined : (x v u f g s t : ℤ) → s ≡ v *ℤ (x *ℤ g) → t ≡ u *ℤ (f *ℤ g) → s +ℤ t ≡ (x *ℤ v +ℤ u *ℤ f) *ℤ g
    joined x v u f g s t first second = rw (first, second) (simp ring (omega (arith, linear)))

-- ---- the powers of u + w
abbrev pub binomial : ℕ → List ℤ
binomial zero = pos 1 ∷ []
binomial (suc n) = plus (times_w (binomial n)) (times_u (binomial n))

pub length-binomial : (n : ℕ) → length (binomial n) ≡ suc n
length-binomial zero = refl
length-binomial (suc n) =
    let same : length (times_w (binomial n)) ≡ suc (length (binomial n)) = length-times_w (binomial n) in
    omega (arith, length-binomial n, length-plus (times_w (binomial n)) (times_u (binomial n)) (omega (arith, same)))

pub value-binomial : (n : ℕ) (u w : ℤ) → value (binomial n) u w ≡ power (u +ℤ w) n
value-binomial zero u w = omega (arith, linear, mul_zero_ℤ u)
value-binomial (suc n) u w =
    value-plus (times_w (binomial n)) (times_u (binomial n)) u w (length-times_w (binomial n))
    ∙ joined u w (value (binomial n) u w) _ _ (value-times_w (binomial n) u w) (value-times_u (binomial n) u w)
    ∙ ap (λ (z : ℤ). (u +ℤ w) *ℤ z) (value-binomial n u w)
  where
    joined : (u w f s t : ℤ) → s ≡ w *ℤ f → t ≡ u *ℤ f → s +ℤ t ≡ (u +ℤ w) *ℤ f
    joined u w f s t first second = rw (first, second) (simp ring (omega (arith, linear)))

-- ---- the coefficients of the Bernstein sum of degree n of f 0 to f n, at u = a and w = c - a
abbrev pub coefficients : ℕ → (ℕ → ℤ) → List ℤ
coefficients zero f = f 0 ∷ []
coefficients (suc n) f = plus (times_w (coefficients n f)) (times_u (coefficients n (λ k. f (suc k))))

pub length-coefficients : (n : ℕ) (f : ℕ → ℤ) → length (coefficients n f) ≡ suc n
length-coefficients zero f = refl
length-coefficients (suc n) f =
    let back : length (coefficients n (λ k. f (suc k))) ≡ suc n = length-coefficients n (λ k. f (suc k)) in
    let front : length (times_w (coefficients n f)) ≡ suc (suc n) = omega (arith, length-times_w (coefficients n f), length-coefficients n f) in
    omega (arith, back, length-plus (times_w (coefficients n f)) (times_u (coefficients n (λ k. f (suc k)))) (omega (arith, front, back)))

pub value-coefficients : (n : ℕ) (f : ℕ → ℤ) (a c : ℤ) → value (coefficients n f) a (c -ℤ a) ≡ bernstein n f a c
value-coefficients zero f a c = omega (arith, linear, mul_zero_ℤ a, mul_comm_ℤ (f 0) (pos 1)) ∙ sym (bernstein-zero f a c)
value-coefficients (suc n) f a c =
    let u : ℤ = c -ℤ a in
    let later : ℕ → ℤ = λ k. f (suc k) in
    let back : length (coefficients n later) ≡ suc n = length-coefficients n later in
    let front : length (times_w (coefficients n f)) ≡ suc (suc n) = omega (arith, length-times_w (coefficients n f), length-coefficients n f) in
    value-plus (times_w (coefficients n f)) (times_u (coefficients n later)) a u (omega (arith, front, back))
    ∙ joined _ _ _ _ (value-times_w (coefficients n f) a u ∙ ap (λ (z : ℤ). u *ℤ z) (value-coefficients n f a c))
    (value-times_u (coefficients n later) a u ∙ ap (λ (z : ℤ). a *ℤ z) (value-coefficients n later a c))
    ∙ sym (bernstein-suc n f a c)
  where
    joined : (s t x y : ℤ) → s ≡ x → t ≡ y → s +ℤ t ≡ x +ℤ y
    joined s t x y first second = cc
