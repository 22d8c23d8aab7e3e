-- Bounds of a curve bound its parts and its values, and a part of a half is a part of the whole.
use Rattle.bezier_core.proofs.Prelude.{◌≡◌, ℕ, suc, ◌+◌, ◌-◌, ◌*◌, ◌^◌, ◌≤◌, ◌<◌, ℤ, pos, negsuc, neg_ℤ, ◌+ℤ◌, ◌-ℤ◌, ◌*ℤ◌, ◌≤ℤ◌, arith, sym, subst, ◌∙◌, ap, zero, refl, ints, pow-suc, power, bernstein, ring, linear, mul_assoc_ℤ, neg_mul_ℤ, one_mul_ℤ, add_mul_ℤ, mul_comm_ℤ, power-add, power-mul, bernstein-at_least, bernstein-scale, bernstein-zero, bernstein-suc, polar, part_value, pow-add, IsWithin}
use Rattle.bezier_core.proofs.PolarLemmas.{polar-blossom, bernstein-blossom}
use Rattle.bezier_core.proofs.HalfLemmas.{bernstein-within}

-- scaling both numbers scales the sum
scale_ring : (x p a u f g : ℤ) → (x *ℤ u) *ℤ (p *ℤ f) +ℤ (x *ℤ a) *ℤ (p *ℤ g) ≡ (x *ℤ p) *ℤ (u *ℤ f +ℤ a *ℤ g)
scale_ring x p a u f g = simp ring (omega (arith, linear))

scale_minus : (x a c : ℤ) → x *ℤ c -ℤ x *ℤ a ≡ x *ℤ (c -ℤ a)
scale_minus x a c = simp ring (omega (arith, linear))

pub bernstein-scaled : (n : ℕ) (f : ℕ → ℤ) (x a c : ℤ) → bernstein n f (x *ℤ a) (x *ℤ c) ≡ power x n *ℤ bernstein n f a c
bernstein-scaled zero f x a c = bernstein-zero f (x *ℤ a) (x *ℤ c) ∙ sym (one_mul_ℤ (bernstein 0 f a c) ∙ bernstein-zero f a c)
bernstein-scaled (suc n) f x a c =
    bernstein-suc n f (x *ℤ a) (x *ℤ c)
    ∙ rw (bernstein-scaled n f x a c, bernstein-scaled n (λ k. f (suc k)) x a c, scale_minus x a c, bernstein-suc n f a c)
    (scale_ring x (power x n) a (c -ℤ a) (bernstein n f a c) (bernstein n (λ k. f (suc k)) a c))

-- the sum over the control values of a part, at the instant of the part
place_ring : (m s a c : ℤ) → m *ℤ (c -ℤ (s *ℤ a -ℤ m *ℤ c)) +ℤ (m +ℤ pos 1) *ℤ (s *ℤ a -ℤ m *ℤ c) ≡ s *ℤ a
place_ring m s a c = between (s *ℤ a -ℤ m *ℤ c) ∙ omega (arith, linear)
  where
    between : (x : ℤ) → m *ℤ (c -ℤ x) +ℤ (m +ℤ pos 1) *ℤ x ≡ m *ℤ c +ℤ x
    between x = rw (add_mul_ℤ m (pos 1) x, one_mul_ℤ x) (simp ring (omega (arith, linear)))

pub part-instant : (e m : ℕ) (f : ℕ → ℤ) (a c : ℤ) →
    bernstein 7 (part_value e m f) (pos (2 ^ e) *ℤ a -ℤ pos m *ℤ c) c ≡ power (pos (2 ^ e)) 7 *ℤ bernstein 7 f a c
part-instant e m f a c =
    bernstein-blossom 7 f (pos m) (pos (m + 1)) (pos (2 ^ e)) (pos (2 ^ e) *ℤ a -ℤ pos m *ℤ c) c
    ∙ ap (λ (z : ℤ). bernstein 7 f z (pos (2 ^ e) *ℤ c)) (place_ring (pos m) (pos (2 ^ e)) a c)
    ∙ bernstein-scaled 7 f (pos (2 ^ e)) a c

pub power_seven : (e : ℕ) → power (pos (2 ^ e)) 7 ≡ pos (2 ^ (7 * e))
power_seven zero = refl
power_seven (suc e) =
    let d : 7 * suc e ≡ 7 * e + 7 = omega arith in
    rw (d, pow-add 2 (7 * e) 7, pow-suc 2 e) (doubled (pos (2 ^ e)) ∙ ap (λ (z : ℤ). z *ℤ pos 128) (power_seven e))
  where
    doubled : (x : ℤ) → power (x *ℤ pos 2) 7 ≡ power x 7 *ℤ pos 128
    doubled x = power-mul x (pos 2) 7

minus_one : (x : ℤ) → negsuc 0 *ℤ x ≡ neg_ℤ x
minus_one x = neg_mul_ℤ (pos 1) x ∙ ap (λ (z : ℤ). neg_ℤ z) (one_mul_ℤ x)

-- Where each control value is at most `high`, the sum is at most high c^n.
pub bernstein-at_most : (n : ℕ) (f : ℕ → ℤ) (high a c : ℤ) → pos 0 ≤ℤ a → a ≤ℤ c → ((k : ℕ) → k ≤ n → f k ≤ℤ high) → bernstein n f a c ≤ℤ (high *ℤ power c n)
bernstein-at_most n f high a c positive within below =
    let turned : (neg_ℤ high *ℤ power c n) ≤ℤ bernstein n (λ k. negsuc 0 *ℤ f k) a c =
    bernstein-at_least n (λ k. negsuc 0 *ℤ f k) (neg_ℤ high) a c positive within (λ k small. omega (arith, linear, below k small, minus_one (f k))) in
    omega (arith, linear, turned, bernstein-scale n (negsuc 0) f a c, minus_one (bernstein n f a c), neg_mul_ℤ high (power c n))

power_split : (s : ℤ) (k : ℕ) → k ≤ 7 → power s k *ℤ power s (7 - k) ≡ power s 7
power_split s k small = let e : k + (7 - k) ≡ 7 = omega arith in sym (power-add s k (7 - k)) ∙ ap (λ (n : ℕ). power s n) e

whole_scale : (e k : ℕ) (x : ℤ) → k ≤ 7 → (x *ℤ power (pos (2 ^ e)) k) *ℤ power (pos (2 ^ e)) (7 - k) ≡ x *ℤ pos (2 ^ (7 * e))
whole_scale e k x small = mul_assoc_ℤ x (power (pos (2 ^ e)) k) (power (pos (2 ^ e)) (7 - k)) ∙ ap (λ (z : ℤ). x *ℤ z) (power_split (pos (2 ^ e)) k small ∙ power_seven e)

-- a lower bound of the control values, scaled, is one of those of each part
pub part-at_least : (e m k : ℕ) (f : ℕ → ℤ) (low : ℤ) → m < 2 ^ e → k ≤ 7 → ((i : ℕ) → i ≤ 7 → low ≤ℤ f i) → (low *ℤ pos (2 ^ (7 * e))) ≤ℤ part_value e m f k
unfolding polar
part-at_least e m k f low inside small above =
    subst (λ (z : ℤ). z ≤ℤ part_value e m f k) (whole_scale e k low small)
    (bernstein-at_least (7 - k) (λ i. bernstein k (λ l. f (i + l)) (pos (m + 1)) (pos (2 ^ e))) (low *ℤ power (pos (2 ^ e)) k) (pos m) (pos (2 ^ e)) (omega (arith, ints)) (omega (arith, ints))
    (λ i near. bernstein-at_least k (λ l. f (i + l)) low (pos (m + 1)) (pos (2 ^ e)) (omega (arith, ints)) (omega (arith, ints)) (λ l few. above (i + l) (omega arith))))

-- an upper bound, scaled, too
pub part-at_most : (e m k : ℕ) (f : ℕ → ℤ) (high : ℤ) → m < 2 ^ e → k ≤ 7 → ((i : ℕ) → i ≤ 7 → f i ≤ℤ high) → part_value e m f k ≤ℤ (high *ℤ pos (2 ^ (7 * e)))
unfolding polar
part-at_most e m k f high inside small below =
    subst (λ (z : ℤ). part_value e m f k ≤ℤ z) (whole_scale e k high small)
    (bernstein-at_most (7 - k) (λ i. bernstein k (λ l. f (i + l)) (pos (m + 1)) (pos (2 ^ e))) (high *ℤ power (pos (2 ^ e)) k) (pos m) (pos (2 ^ e)) (omega (arith, ints)) (omega (arith, ints))
    (λ i near. bernstein-at_most k (λ l. f (i + l)) high (pos (m + 1)) (pos (2 ^ e)) (omega (arith, ints)) (omega (arith, ints)) (λ l few. below (i + l) (omega arith))))

-- ---- a part of a half is a part of the whole
place_in_half : (r m : ℕ) (t : ℤ) → pos r *ℤ (t -ℤ pos m) +ℤ pos (r + 1) *ℤ pos m ≡ t *ℤ pos r +ℤ pos m
place_in_half r m t = simp ring (omega (arith, linear, split r (pos m)))
  where
    split : (r : ℕ) (z : ℤ) → pos (r + 1) *ℤ z ≡ pos r *ℤ z +ℤ z
    split r z = omega (arith, linear)

pub part-half : (e r m k : ℕ) (f : ℕ → ℤ) → k ≤ 7 → part_value e m (part_value 1 r f) k ≡ part_value (suc e) (2 ^ e * r + m) f k
part-half e r m k f small =
    polar-blossom (7 - k) k 7 f (pos r) (pos (r + 1)) (pos 2) (pos m) (pos (m + 1)) (pos (2 ^ e)) (omega arith)
    ∙ places (place_in_half r m (pos (2 ^ e)) ∙ place_is e r m) (place_in_half r (m + 1) (pos (2 ^ e)) ∙ place_is e r (m + 1) ∙ ap (λ (n : ℕ). pos n) (regroup (2 ^ e * r) m)) (scale_is e)
  where
    place_is : (e r m : ℕ) → pos (2 ^ e) *ℤ pos r +ℤ pos m ≡ pos (2 ^ e * r + m)
    place_is e r m = omega (arith, ints)

    regroup : (x m : ℕ) → x + (m + 1) ≡ x + m + 1
    regroup x m = omega arith

    scale_is : (e : ℕ) → pos 2 *ℤ pos (2 ^ e) ≡ pos (2 ^ suc e)
    scale_is e = rw (pow-suc 2 e) (omega (arith, ints))

    places : {b d s b' d' s' : ℤ} → b ≡ b' → d ≡ d' → s ≡ s' → polar (7 - k) k f b d s ≡ polar (7 - k) k f b' d' s'
    places {b} {d} {s} {b'} {d'} {s'} p q r = cc

-- a bound of the control values, scaled, bounds those of each part
pub part-within : (e m k : ℕ) (f : ℕ → ℤ) (b : ℤ) → m < 2 ^ e → k ≤ 7 → ((i : ℕ) → i ≤ 7 → IsWithin b (f i)) → IsWithin (pos (2 ^ (7 * e)) *ℤ b) (part_value e m f k)
unfolding polar
part-within e m k f b inside small within =
    let s : ℤ = pos (2 ^ e) in
    let inner : (i : ℕ) → i ≤ 7 - k → IsWithin (power s k *ℤ b) (bernstein k (λ l. f (i + l)) (pos (m + 1)) s) =
    λ i low. bernstein-within k (λ l. f (i + l)) b (pos (m + 1)) s (omega (arith, ints)) (omega (arith, ints)) (λ l few. within (i + l) (omega arith)) in
    let outer : IsWithin (power s (7 - k) *ℤ (power s k *ℤ b)) (part_value e m f k) =
    bernstein-within (7 - k) (λ i. bernstein k (λ l. f (i + l)) (pos (m + 1)) s) (power s k *ℤ b) (pos m) s (omega (arith, ints)) (omega (arith, ints)) inner in
    let e1 : power s (7 - k) *ℤ (power s k *ℤ b) ≡ pos (2 ^ (7 * e)) *ℤ b =
    sym (mul_assoc_ℤ (power s (7 - k)) (power s k) b) ∙ ap (λ (z : ℤ). z *ℤ b) (mul_comm_ℤ (power s (7 - k)) (power s k) ∙ power_split s k small ∙ power_seven e) in
    rw e1 at outer
