-- The polar form, step by step: the order of the steps does not matter, a part of a part is a part of the whole, and
-- halving along a path gives the part at its end.
use Rattle.bezier_core.proofs.Prelude.{common_steps, ◌≡◌, ℕ, zero, suc, ◌<◌, ◌≤◌, ◌+◌, ◌-◌, ◌*◌, ◌/◌, ◌%◌, ◌^◌, ℤ, pos, ◌+ℤ◌, ◌-ℤ◌, ◌*ℤ◌, arith, refl, sym, ◌∙◌, ap, ints, bernstein, ring, linear, one_mul_ℤ, bernstein-zero, bernstein-same, bernstein-mix, bernstein-step, bernstein-at_zero, bernstein-at_end, zero-add, pow-suc, power, polar, part_value, halved_along}

-- one step of de Casteljau's rule at b / s
abbrev pub step : ℤ → ℤ → (ℕ → ℤ) → ℕ → ℤ
step b s f i = (s -ℤ b) *ℤ f i +ℤ b *ℤ f (suc i)

-- the polar form depends on no more than its control values
pub polar-same : (j k : ℕ) (f g : ℕ → ℤ) (b d s : ℤ) → ((i : ℕ) → i ≤ j + k → f i ≡ g i) → polar j k f b d s ≡ polar j k g b d s
unfolding polar
polar-same j k f g b d s same = grind (arith, common_steps, bernstein-same)

-- a step at the first place
pub polar-suc_first : (j k : ℕ) (f : ℕ → ℤ) (b d s : ℤ) → polar (suc j) k f b d s ≡ polar j k (step b s f) b d s
unfolding polar
polar-suc_first j k f b d s =
    bernstein-step j (λ i. bernstein k (λ l. f (i + l)) d s) b s
    ∙ bernstein-same j _ _ b s (λ i small.
    sym (bernstein-mix k (s -ℤ b) b (λ l. f (i + l)) (λ l. f (suc i + l)) d s)
    ∙ bernstein-same k _ _ d s (λ l low. ap (λ (n : ℕ). (s -ℤ b) *ℤ f (i + l) +ℤ b *ℤ f n) (omega arith)))

-- a step at the second place
pub polar-suc_second : (j k : ℕ) (f : ℕ → ℤ) (b d s : ℤ) → polar j (suc k) f b d s ≡ polar j k (step d s f) b d s
unfolding polar
polar-suc_second j k f b d s = grind (arith, common_steps, bernstein-same, bernstein-step)

-- of degree 0 it is the one control value
pub polar-none : (f : ℕ → ℤ) (b d s : ℤ) → polar 0 0 f b d s ≡ f 0
unfolding polar
polar-none f b d s = bernstein-zero _ b s ∙ bernstein-zero _ d s

-- the control values of degree n of the part between b / s and d / s
abbrev pub blossom : ℕ → (ℕ → ℤ) → ℤ → ℤ → ℤ → ℕ → ℤ
blossom n f b d s j = polar (n - j) j f b d s

-- the polar form of a sum of multiples of two curves
pub polar-mix : (j k : ℕ) (x y : ℤ) (f g : ℕ → ℤ) (b d s : ℤ) → polar j k (λ i. x *ℤ f i +ℤ y *ℤ g i) b d s ≡ x *ℤ polar j k f b d s +ℤ y *ℤ polar j k g b d s
unfolding polar
polar-mix j k x y f g b d s =
    bernstein-same j _ _ b s (λ i small. bernstein-mix k x y (λ l. f (i + l)) (λ l. g (i + l)) d s)
    ∙ bernstein-mix j x y (λ i. bernstein k (λ l. f (i + l)) d s) (λ i. bernstein k (λ l. g (i + l)) d s) b s

-- the identity after a step over a part
step_ring : (s t b d p x y : ℤ) → (t -ℤ p) *ℤ ((s -ℤ b) *ℤ x +ℤ b *ℤ y) +ℤ p *ℤ ((s -ℤ d) *ℤ x +ℤ d *ℤ y)
    ≡ (s *ℤ t -ℤ (b *ℤ (t -ℤ p) +ℤ d *ℤ p)) *ℤ x +ℤ (b *ℤ (t -ℤ p) +ℤ d *ℤ p) *ℤ y
step_ring s t b d p x y = simp ring (omega (arith, linear))

-- a step over the control values of a part is a step over the whole
pub step-blossom : (n j : ℕ) (f : ℕ → ℤ) (b d s p t : ℤ) → j ≤ n →
    step p t (blossom (suc n) f b d s) j ≡ blossom n (step (b *ℤ (t -ℤ p) +ℤ d *ℤ p) (s *ℤ t) f) b d s j
step-blossom n j f b d s p t small =
    let e : suc n - j ≡ suc (n - j) = omega arith in
    let h : suc n - suc j ≡ n - j = omega arith in
    rw (e, h, polar-suc_first (n - j) j f b d s, polar-suc_second (n - j) j f b d s)
    (sym (polar-mix (n - j) j (t -ℤ p) p (step b s f) (step d s f) b d s)
    ∙ polar-same (n - j) j _ _ b d s (λ i low. step_ring s t b d p (f i) (f (suc i))))

-- The part of a part is a part of the whole.
pub polar-blossom_second : (k : ℕ) (f : ℕ → ℤ) (b d s p q t : ℤ) →
    polar 0 k (blossom k f b d s) p q t ≡ polar 0 k f (b *ℤ (t -ℤ p) +ℤ d *ℤ p) (b *ℤ (t -ℤ q) +ℤ d *ℤ q) (s *ℤ t)
polar-blossom_second zero f b d s p q t = polar-none _ p q t ∙ polar-none f b d s ∙ sym (polar-none f _ _ _)
polar-blossom_second (suc k) f b d s p q t = grind (arith, common_steps, polar-suc_second, blossom, polar-same, step, step-blossom, (polar-blossom_second k (step (b *ℤ (t -ℤ q) +ℤ d *ℤ q) (s *ℤ t) f) b d s p q t))

pub polar-blossom : (j k n : ℕ) (f : ℕ → ℤ) (b d s p q t : ℤ) → n ≡ j + k →
    polar j k (blossom n f b d s) p q t ≡ polar j k f (b *ℤ (t -ℤ p) +ℤ d *ℤ p) (b *ℤ (t -ℤ q) +ℤ d *ℤ q) (s *ℤ t)
polar-blossom zero k n f b d s p q t e = let same : n ≡ k = omega arith in rw same (polar-blossom_second k f b d s p q t)
polar-blossom (suc j) k n f b d s p q t e =
    let same : n ≡ suc (j + k) = omega arith in
    rw same (polar-suc_first j k (blossom (suc (j + k)) f b d s) p q t
    ∙ polar-same j k _ (blossom (j + k) (step (b *ℤ (t -ℤ p) +ℤ d *ℤ p) (s *ℤ t) f) b d s) p q t (λ i small. step-blossom (j + k) i f b d s p t small)
    ∙ polar-blossom j k (j + k) (step (b *ℤ (t -ℤ p) +ℤ d *ℤ p) (s *ℤ t) f) b d s p q t refl
    ∙ sym (polar-suc_first j k f _ _ _))

-- with no second place it is the Bernstein sum
pub polar-first : (n : ℕ) (f : ℕ → ℤ) (b d s : ℤ) → polar n 0 f b d s ≡ bernstein n f b s
unfolding polar
polar-first n f b d s = bernstein-same n _ f b s (λ i small. bernstein-zero _ d s ∙ ap f (omega arith))

-- the sum over the control values of a part is the sum of the whole, further along
pub bernstein-blossom : (n : ℕ) (f : ℕ → ℤ) (b d s a c : ℤ) → bernstein n (blossom n f b d s) a c ≡ bernstein n f (b *ℤ (c -ℤ a) +ℤ d *ℤ a) (s *ℤ c)
bernstein-blossom n f b d s a c =
    sym (polar-first n (blossom n f b d s) a c c)
    ∙ polar-blossom n 0 n f b d s a c c (omega arith)
    ∙ polar-first n f _ _ _

-- where the left half's a / c lies in the whole
left_place : (a c : ℤ) → pos 0 *ℤ (c -ℤ a) +ℤ pos 1 *ℤ a ≡ a
left_place a c = omega (arith, linear)

-- where the right half's a / c lies in the whole
right_place : (a c : ℤ) → pos 1 *ℤ (c -ℤ a) +ℤ pos 2 *ℤ a ≡ a +ℤ c
right_place a c = omega (arith, linear)

-- the left half at a / c is the whole at a / (2 c)
pub left_half : (f : ℕ → ℤ) (a c : ℤ) → bernstein 7 (part_value 1 0 f) a c ≡ bernstein 7 f a (pos 2 *ℤ c)
left_half f a c = bernstein-blossom 7 f (pos 0) (pos 1) (pos 2) a c ∙ ap (λ (z : ℤ). bernstein 7 f z (pos 2 *ℤ c)) (left_place a c)

-- the right half at a / c is the whole at (a + c) / (2 c)
pub right_half : (f : ℕ → ℤ) (a c : ℤ) → bernstein 7 (part_value 1 1 f) a c ≡ bernstein 7 f (a +ℤ c) (pos 2 *ℤ c)
right_half f a c = bernstein-blossom 7 f (pos 1) (pos 2) (pos 2) a c ∙ ap (λ (z : ℤ). bernstein 7 f z (pos 2 *ℤ c)) (right_place a c)

-- a power of 1
one_power : (n : ℕ) → power (pos 1) n ≡ pos 1
one_power zero = refl
one_power (suc n) = rw (one_power n) refl

-- the whole is its own part
pub part-whole : (f : ℕ → ℤ) (k : ℕ) → part_value 0 0 f k ≡ f k
unfolding polar
part-whole f k = grind (arith, common_steps, bernstein-at_zero, one_power, bernstein-at_end, one_mul_ℤ, zero-add)

-- the two ends of a half, in parts of the next depth
next_place : (h r : ℕ) → r ≤ 1 → (pos h *ℤ (pos 2 -ℤ pos r) +ℤ pos (h + 1) *ℤ pos r ≡ pos (2 * h + r)) × (pos h *ℤ (pos 2 -ℤ pos (r + 1)) +ℤ pos (h + 1) *ℤ pos (r + 1) ≡ pos (2 * h + r + 1))
next_place h zero small = (omega (arith, ints), omega (arith, ints))
next_place h (suc zero) small = (omega (arith, ints), omega (arith, ints))
next_place h (suc (suc r)) small = absurd (omega arith)

-- a half of a part is a part of the next depth
pub part-part : (e h r k : ℕ) (f : ℕ → ℤ) → r ≤ 1 → k ≤ 7 → part_value 1 r (part_value e h f) k ≡ part_value (suc e) (2 * h + r) f k
part-part e h r k f small within =
    polar-blossom (7 - k) k 7 f (pos h) (pos (h + 1)) (pos (2 ^ e)) (pos r) (pos (r + 1)) (pos 2) (omega arith)
    ∙ rw ((next_place h r small).0, (next_place h r small).1) (ap (λ (n : ℕ). polar (7 - k) k f (pos (2 * h + r)) (pos (2 * h + r + 1)) (pos n)) (sym (pow-suc 2 e)))

-- halving along a path gives the part
pub chain : (e m k : ℕ) (f : ℕ → ℤ) → m < 2 ^ e → k ≤ 7 → halved_along e m f k ≡ part_value e m f k
chain zero m k f inside within = let same : m ≡ 0 = omega arith in rw same (sym (part-whole f k))
chain (suc e) m k f inside within =
    let whole : 2 * (m / 2) + m % 2 ≡ m = omega arith in
    let half : m / 2 < 2 ^ e = omega (arith, pow-suc 2 e) in
    polar-same (7 - k) k (halved_along e (m / 2) f) (part_value e (m / 2) f) (pos (m % 2)) (pos (m % 2 + 1)) (pos 2) (λ i small. chain e (m / 2) i f half (omega arith))
    ∙ part-part e (m / 2) (m % 2) k f (omega arith) within
    ∙ ap (λ (n : ℕ). part_value (suc e) n f k) whole
