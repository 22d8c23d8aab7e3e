-- Raising the degree, one degree at a time, gives the control values that the definition tells.
use Rattle.bezier_core.proofs.Prelude.{common_steps, ◌≡◌, ℕ, zero, suc, ◌<◌, ◌≤◌, ◌+◌, ◌-◌, ◌*◌, ◌/◌, ◌^◌, ℤ, pos, ◌+ℤ◌, ◌*ℤ◌, arith, refl, sym, ◌∙◌, ap, subst, ints, sum_below, power, choose, bernstein, ring, linear, mul_add_ℤ, add_mul_ℤ, mul_assoc_ℤ, one_mul_ℤ, zero_mul_ℤ, mul_zero_ℤ, mul_comm_ℤ, raised_once, bernstein-raised_once, bernstein-same, bernstein-scale, choose_above, by_lt, IsWithin, fact, raised_value}
use Rattle.whole_numbers.proofs.SumLemmas.{sum_below-same, sum_below-add, sum_below-scale}
use Rattle.bezier_core.proofs.BlendLemmas.{within_mul}

-- the control values of degree n + r, by r steps
abbrev pub raised_by : ℕ → ℕ → (ℕ → ℤ) → ℕ → ℤ
raised_by zero n f = f
raised_by (suc r) n f = raised_once (n + r) (raised_by r n f)

-- the sum over j of C(n, j) C(r, k - j) f j
abbrev pub spread : ℕ → ℕ → (ℕ → ℤ) → ℕ → ℤ
spread n r f k = sum_below (suc k) (λ j. pos (choose n j * choose r (k - j)) *ℤ f j)

-- Pascal's rule for one term
pascal_term : (m a b : ℕ) (x : ℤ) → pos (m * (a + b)) *ℤ x ≡ pos (m * a) *ℤ x +ℤ pos (m * b) *ℤ x
pascal_term m a b x = omega (arith, ints)

pub spread-suc : (n r k : ℕ) (f : ℕ → ℤ) → spread n (suc r) f (suc k) ≡ spread n r f k +ℤ spread n r f (suc k)
spread-suc n r k f =
    let parts : sum_below (suc k) (λ j. pos (choose n j * choose (suc r) (suc k - j)) *ℤ f j)
    ≡ sum_below (suc k) (λ j. pos (choose n j * choose r (k - j)) *ℤ f j +ℤ pos (choose n j * choose r (suc k - j)) *ℤ f j) =
    sum_below-same (suc k) _ _ (λ j small. let e : suc k - j ≡ suc (k - j) = omega arith in rw e (pascal_term (choose n j) (choose r (k - j)) (choose r (suc (k - j))) (f j))) in
    let apart : sum_below (suc k) (λ j. pos (choose n j * choose r (k - j)) *ℤ f j +ℤ pos (choose n j * choose r (suc k - j)) *ℤ f j)
    ≡ spread n r f k +ℤ sum_below (suc k) (λ j. pos (choose n j * choose r (suc k - j)) *ℤ f j) =
    sum_below-add (suc k) _ _ in
    let last : pos (choose n (suc k) * choose (suc r) (suc k - suc k)) *ℤ f (suc k) ≡ pos (choose n (suc k) * choose r (suc k - suc k)) *ℤ f (suc k) =
    let e : suc k - suc k ≡ 0 = omega arith in rw e refl in
    omega (arith, linear, parts, apart, last)

-- no step: one term is left
pub spread-none : (n k : ℕ) (f : ℕ → ℤ) → spread n 0 f k ≡ pos (choose n k) *ℤ f k
spread-none n k f =
    let none : sum_below k (λ j. pos (choose n j * choose 0 (k - j)) *ℤ f j) ≡ sum_below k (λ j. pos 0 *ℤ f j) =
    sum_below-same k _ _ (λ j small. let e : k - j ≡ suc (k - suc j) = omega arith in rw e (empty (choose n j) (f j))) in
    let zeros : sum_below k (λ j. pos 0 *ℤ f j) ≡ pos 0 *ℤ sum_below k f = sum_below-scale k (pos 0) f in
    let last : pos (choose n k * choose 0 (k - k)) *ℤ f k ≡ pos (choose n k) *ℤ f k = let e : k - k ≡ 0 = omega arith in rw e (one (choose n k) (f k)) in
    omega (arith, linear, none, zeros, last)
  where
    empty : (m : ℕ) (x : ℤ) → pos (m * 0) *ℤ x ≡ pos 0 *ℤ x
    empty m x = omega (arith, ints)

    one : (m : ℕ) (x : ℤ) → pos (m * 1) *ℤ x ≡ pos m *ℤ x
    one m x = omega (arith, ints)

-- C(n, k) k! (n - k)! is n!
pub choose-fact : (n k d : ℕ) → n ≡ k + d → choose n k * (fact k * fact d) ≡ fact n
choose-fact n zero d e = let same : d ≡ n = omega arith in rw same (omega arith)
choose-fact zero (suc k) d e = absurd (omega arith)
choose-fact (suc n) (suc k) zero e =
    let front : choose n k * (fact k * fact zero) ≡ fact n = choose-fact n k zero (omega arith) in
    let none : choose n (suc k) ≡ 0 = choose_above n (suc k) (omega arith) in
    let same : n ≡ k = omega arith in
    rw none (last (choose n k) (fact k) k (fact n) n front same)
  where
    last : (c f k g n : ℕ) → c * (f * 1) ≡ g → n ≡ k → (c + 0) * ((suc k * f) * 1) ≡ suc n * g
    last c f k g n front same = rw same (omega (arith, ap (λ (x : ℕ). suc k * x) front))
choose-fact (suc n) (suc k) (suc d) e =
    let front : choose n k * (fact k * fact (suc d)) ≡ fact n = choose-fact n k (suc d) (omega arith) in
    let back : choose n (suc k) * (fact (suc k) * fact d) ≡ fact n = choose-fact n (suc k) d (omega arith) in
    join (choose n k) (choose n (suc k)) (fact k) (fact d) k d n (fact n) front back (omega arith)
  where
    join : (a b f g k d n h : ℕ) → a * (f * (suc d * g)) ≡ h → b * ((suc k * f) * g) ≡ h → n ≡ k + suc d →
        (a + b) * ((suc k * f) * (suc d * g)) ≡ suc n * h
    join a b f g k d n h front back e = rw e (omega (arith, ap (λ (x : ℕ). suc k * x) front, ap (λ (x : ℕ). suc d * x) back))

-- beyond the degree nothing is left
spread-above : (n r k : ℕ) (f : ℕ → ℤ) → n + r < k → spread n r f k ≡ pos 0
spread-above n r k f above =
    sum_below-same (suc k) _ (λ j. pos 0 *ℤ f j) (λ j small. by_lt n j
    (λ (far : n < j). let none : choose n j ≡ 0 = choose_above n j far in rw none (gone (choose r (k - j)) (f j)))
    (λ (near : j ≤ n). let none : choose r (k - j) ≡ 0 = choose_above r (k - j) (omega arith) in rw none (empty (choose n j) (f j))))
    ∙ sum_below-scale (suc k) (pos 0) f ∙ zero_mul_ℤ (sum_below (suc k) f)
  where
    empty : (m : ℕ) (x : ℤ) → pos (m * 0) *ℤ x ≡ pos 0 *ℤ x
    empty m x = omega (arith, ints)

    gone : (m : ℕ) (x : ℤ) → pos (0 * m) *ℤ x ≡ pos 0 *ℤ x
    gone m x = omega (arith, ints)

-- a product of naturals computes to the product of their integers, so these are laws of ℤ
start_ring : (c f g x : ℤ) → (c *ℤ (f *ℤ g)) *ℤ x ≡ (f *ℤ g) *ℤ (c *ℤ x)
start_ring c f g x = simp ring refl

start_term : (c f g h : ℕ) (x : ℤ) → c * (f * g) ≡ h → pos h *ℤ x ≡ pos (f * g) *ℤ (pos c *ℤ x)
start_term c f g h x e = rw (← e) (start_ring (pos c) (pos f) (pos g) x)

first_ring : (m g x y : ℤ) → pos 0 *ℤ y +ℤ m *ℤ ((pos 1 *ℤ g) *ℤ x) ≡ (pos 1 *ℤ (m *ℤ g)) *ℤ x
first_ring m g x y = rw (one_mul_ℤ g, one_mul_ℤ (m *ℤ g), mul_assoc_ℤ m g x) (omega (arith, linear))

later_ring : (k t f g x y : ℤ) → k *ℤ ((f *ℤ (t *ℤ g)) *ℤ x) +ℤ t *ℤ (((k *ℤ f) *ℤ g) *ℤ y) ≡ ((k *ℤ f) *ℤ (t *ℤ g)) *ℤ (x +ℤ y)
later_ring k t f g x y = simp ring (omega (arith, linear))

last_ring : (k f x y z : ℤ) → z ≡ pos 0 → k *ℤ ((f *ℤ pos 1) *ℤ x) +ℤ pos 0 *ℤ y ≡ ((k *ℤ f) *ℤ pos 1) *ℤ (x +ℤ z)
last_ring k f x y z none = rw (none, mul_comm_ℤ f (pos 1), mul_comm_ℤ (k *ℤ f) (pos 1), one_mul_ℤ f, one_mul_ℤ (k *ℤ f), mul_add_ℤ (k *ℤ f) x (pos 0), mul_assoc_ℤ k f x) (omega (arith, linear, mul_zero_ℤ (k *ℤ f)))

-- The control values that the steps make.
pub raised_by-value : (r n k : ℕ) (f : ℕ → ℤ) → k ≤ n + r →
    raised_by r n (λ i. pos (fact n) *ℤ f i) k ≡ pos (fact k * fact (n + r - k)) *ℤ spread n r f k
raised_by-value zero n k f within =
    let e : n + 0 - k ≡ n - k = omega arith in
    rw (e, spread-none n k f) (start_term (choose n k) (fact k) (fact (n - k)) (fact n) (f k) (choose-fact n k (n - k) (omega arith)))
raised_by-value (suc r) n zero f within =
    let e : n + suc r - 0 ≡ suc (n + r) = omega arith in
    let d : suc (n + r) - 0 ≡ suc (n + r) = omega arith in
    let b : n + r - 0 ≡ n + r = omega arith in
    let before : raised_by r n (λ i. pos (fact n) *ℤ f i) 0 ≡ pos (fact 0 * fact (n + r)) *ℤ spread n r f 0 = raised_by-value r n 0 f (omega arith) ∙ rw b refl in
    rw (e, d, before) (first_ring (pos (suc (n + r))) (pos (fact (n + r))) (spread n r f 0) (pos (fact 0 * fact (n + r)) *ℤ spread n r f 0))
raised_by-value (suc r) n (suc k) f within = by_lt k (n + r)
    (λ (inside : k < n + r).
    let t : ℕ = n + r - suc k in
    let e : n + suc r - suc k ≡ suc t = omega arith in
    let d : suc (n + r) - suc k ≡ suc t = omega arith in
    let b : n + r - k ≡ suc t = omega arith in
    let j : suc k - 1 ≡ k = omega arith in
    let before : raised_by r n (λ i. pos (fact n) *ℤ f i) k ≡ pos (fact k * fact (suc t)) *ℤ spread n r f k = raised_by-value r n k f (omega arith) ∙ rw b refl in
    let here : raised_by r n (λ i. pos (fact n) *ℤ f i) (suc k) ≡ pos (fact (suc k) * fact t) *ℤ spread n r f (suc k) = raised_by-value r n (suc k) f (omega arith) in
    rw (e, d, j, before, here, spread-suc n r k f) (later_ring (pos (suc k)) (pos (suc t)) (pos (fact k)) (pos (fact t)) (spread n r f k) (spread n r f (suc k))))
    (λ (edge : n + r ≤ k).
    let e : n + suc r - suc k ≡ 0 = omega arith in
    let d : suc (n + r) - suc k ≡ 0 = omega arith in
    let b : n + r - k ≡ 0 = omega arith in
    let j : suc k - 1 ≡ k = omega arith in
    let before : raised_by r n (λ i. pos (fact n) *ℤ f i) k ≡ pos (fact k * fact 0) *ℤ spread n r f k = raised_by-value r n k f (omega arith) ∙ rw b refl in
    rw (e, d, j, before, spread-suc n r k f) (last_ring (pos (suc k)) (pos (fact k)) (spread n r f k) (raised_by r n (λ i. pos (fact n) *ℤ f i) (suc k)) (spread n r f (suc k)) (spread-above n r (suc k) f (omega arith))))

-- 5,040 / C(7, k) is k! (7 - k)!
seventh : (k : ℕ) → k ≤ 7 → 5040 / choose 7 k ≡ fact k * fact (7 - k)
seventh (suc (suc (suc (suc (suc (suc (suc (suc k)))))))) within = absurd (omega arith)
seventh k within = refl

raised_value-spread : (n k : ℕ) (f : ℕ → ℤ) → raised_value n f k ≡ pos (5040 / choose 7 k) *ℤ spread n (7 - n) f k
unfolding raised_value
raised_value-spread n k f =
    sum_below-same (suc k) _ _ (λ j small. regroup (pos (5040 / choose 7 k)) (pos (choose n j)) (pos (choose (7 - n) (k - j))) (f j))
    ∙ sum_below-scale (suc k) (pos (5040 / choose 7 k)) _
  where
    regroup : (s a b x : ℤ) → ((s *ℤ a) *ℤ b) *ℤ x ≡ s *ℤ ((a *ℤ b) *ℤ x)
    regroup s a b x = simp ring refl

-- the steps up to degree seven make the control values that the definition tells
pub raised_by-seven : (n k : ℕ) (f : ℕ → ℤ) → n ≤ 7 → k ≤ 7 → raised_by (7 - n) n (λ i. pos (fact n) *ℤ f i) k ≡ raised_value n f k
raised_by-seven n k f low within = grind (arith, common_steps, raised_by-value, raised_value-spread, seventh)

-- (n + 1) (n + 2) .. (n + r)
abbrev pub rising : ℕ → ℕ → ℕ
rising n zero = 1
rising n (suc r) = suc (n + r) * rising n r

pub rising-fact : (n r : ℕ) → rising n r * fact n ≡ fact (n + r)
rising-fact n zero = let e : n + 0 ≡ n = omega arith in rw e (omega arith)
rising-fact n (suc r) =
    let e : n + suc r ≡ suc (n + r) = omega arith in
    rw e (omega (arith, ap (λ (x : ℕ). suc (n + r) * x) (rising-fact n r)))

bernstein-raised_by : (r n : ℕ) (f : ℕ → ℤ) (a c : ℤ) → bernstein (n + r) (raised_by r n f) a c ≡ pos (rising n r) *ℤ (power c r *ℤ bernstein n f a c)
bernstein-raised_by zero n f a c =
    let e : n + 0 ≡ n = omega arith in
    rw (e, one_mul_ℤ (pos 1 *ℤ bernstein n f a c), one_mul_ℤ (bernstein n f a c)) refl
bernstein-raised_by (suc r) n f a c =
    let e : n + suc r ≡ suc (n + r) = omega arith in
    rw (e, bernstein-raised_once (n + r) (raised_by r n f) a c, bernstein-raised_by r n f a c)
    (regroup (pos (suc (n + r))) c (pos (rising n r)) (power c r) (bernstein n f a c))
  where
    regroup : (m c g p x : ℤ) → m *ℤ (c *ℤ (g *ℤ (p *ℤ x))) ≡ (m *ℤ g) *ℤ ((c *ℤ p) *ℤ x)
    regroup m c g p x = simp ring refl

-- The sum of the raised control values is 5,040 c^(7 - n) times the sum of the curve.
pub bernstein-raised : (n : ℕ) (f : ℕ → ℤ) (a c : ℤ) → n ≤ 7 →
    bernstein 7 (raised_value n f) a c ≡ pos 5040 *ℤ (power c (7 - n) *ℤ bernstein n f a c)
bernstein-raised n f a c low =
    let e : n + (7 - n) ≡ 7 = omega arith in
    let whole : rising n (7 - n) * fact n ≡ 5040 = rising-fact n (7 - n) ∙ ap fact e in
    let sum : bernstein (n + (7 - n)) (raised_by (7 - n) n (λ i. pos (fact n) *ℤ f i)) a c
    ≡ pos (rising n (7 - n)) *ℤ (power c (7 - n) *ℤ bernstein n (λ i. pos (fact n) *ℤ f i) a c) =
    bernstein-raised_by (7 - n) n (λ i. pos (fact n) *ℤ f i) a c in
    sym (bernstein-same 7 _ _ a c (λ k within. raised_by-seven n k f low within))
    ∙ (rw e at sum)
    ∙ ap (λ (x : ℤ). pos (rising n (7 - n)) *ℤ (power c (7 - n) *ℤ x)) (bernstein-scale n (pos (fact n)) f a c)
    ∙ regroup (pos (rising n (7 - n))) (pos (fact n)) (power c (7 - n)) (bernstein n f a c)
    ∙ ap (λ (m : ℕ). pos m *ℤ (power c (7 - n) *ℤ bernstein n f a c)) whole
  where
    regroup : (g h p x : ℤ) → g *ℤ (p *ℤ (h *ℤ x)) ≡ (g *ℤ h) *ℤ (p *ℤ x)
    regroup g h p x = simp ring refl

-- ---- bounds
first_within : (i : ℕ) (m x : ℤ) → IsWithin m x → IsWithin (pos i *ℤ m) (pos i *ℤ x +ℤ pos 0)
first_within i m x within =
    let b : IsWithin (pos i *ℤ m) (pos i *ℤ x) = within_mul (pos i) m x (omega (arith, linear)) within in
    (omega (arith, linear), omega (arith, linear))

both_within : (i j : ℕ) (m x y : ℤ) → IsWithin m x → IsWithin m y → IsWithin (pos (i + j) *ℤ m) (pos i *ℤ x +ℤ pos j *ℤ y)
both_within i j m x y first second =
    let b : IsWithin (pos i *ℤ m) (pos i *ℤ x) = within_mul (pos i) m x (omega (arith, linear)) first in
    let d : IsWithin (pos j *ℤ m) (pos j *ℤ y) = within_mul (pos j) m y (omega (arith, linear)) second in
    let e : pos (i + j) *ℤ m ≡ pos i *ℤ m +ℤ pos j *ℤ m = add_mul_ℤ (pos i) (pos j) m in
    (omega (arith, linear), omega (arith, linear))

pub raised_by-within : (r n k : ℕ) (g : ℕ → ℤ) (m : ℤ) → ((i : ℕ) → i ≤ n → IsWithin m (g i)) → k ≤ n + r → IsWithin (pos (rising n r) *ℤ m) (raised_by r n g k)
raised_by-within zero n k g m within small = rw (one_mul_ℤ m) (within k (omega arith))
raised_by-within (suc r) n k g m within small = by_lt k (suc (n + r))
    (λ (inside : k < suc (n + r)).
    let e : k + (suc (n + r) - k) ≡ suc (n + r) = omega arith in
    let b : IsWithin (pos (k + (suc (n + r) - k)) *ℤ (pos (rising n r) *ℤ m)) (raised_once (n + r) (raised_by r n g) k) =
    both_within k (suc (n + r) - k) (pos (rising n r) *ℤ m) _ _
    (raised_by-within r n (k - 1) g m within (omega arith)) (raised_by-within r n k g m within (omega arith)) in
    rw (mul_assoc_ℤ (pos (suc (n + r))) (pos (rising n r)) m) (rw e at b))
    (λ (edge : suc (n + r) ≤ k).
    let e : k ≡ suc (n + r) = omega arith in
    let none : suc (n + r) - k ≡ 0 = omega arith in
    let b : IsWithin (pos k *ℤ (pos (rising n r) *ℤ m)) (pos k *ℤ raised_by r n g (k - 1) +ℤ pos 0) =
    first_within k (pos (rising n r) *ℤ m) _ (raised_by-within r n (k - 1) g m within (omega arith)) in
    rw (none, zero_mul_ℤ (raised_by r n g k), mul_assoc_ℤ (pos (suc (n + r))) (pos (rising n r)) m) (subst (λ (j : ℕ). IsWithin (pos j *ℤ (pos (rising n r) *ℤ m)) (pos k *ℤ raised_by r n g (k - 1) +ℤ pos 0)) e b))

fact_up : (n : ℕ) → fact n ≤ fact (suc n)
fact_up n = grind arith

fact_to : (d n : ℕ) → n + d ≡ 7 → fact n ≤ 5040
fact_to zero n e = let same : n ≡ 7 = omega arith in rw same (omega arith)
fact_to (suc d) n e = omega (arith, fact_up n, fact_to d (suc n) (omega arith))

fact_seven : (n : ℕ) → n ≤ 7 → fact n ≤ 5040
fact_seven n small = fact_to (7 - n) n (omega arith)

-- on the way the control values stay small
pub raised_by-small : (n d k : ℕ) (f : ℕ → ℤ) → n ≤ d → d ≤ 7 → k ≤ d → ((i : ℕ) → i ≤ n → IsWithin (pos (2 ^ 100)) (f i)) →
    IsWithin (pos (2 ^ 113)) (raised_by (d - n) n (λ i. pos (fact n) *ℤ f i) k)
raised_by-small n d k f low high small within =
    let e : n + (d - n) ≡ d = omega arith in
    let whole : rising n (d - n) * fact n ≡ fact d = rising-fact n (d - n) ∙ ap fact e in
    let b : IsWithin (pos (rising n (d - n)) *ℤ (pos (fact n) *ℤ pos (2 ^ 100))) (raised_by (d - n) n (λ i. pos (fact n) *ℤ f i) k) =
    raised_by-within (d - n) n k (λ i. pos (fact n) *ℤ f i) (pos (fact n) *ℤ pos (2 ^ 100))
    (λ i near. within_mul (pos (fact n)) (pos (2 ^ 100)) (f i) (omega (arith, linear)) (within i near)) (omega arith) in
    close (rising n (d - n)) (fact n) (fact d) (raised_by (d - n) n (λ i. pos (fact n) *ℤ f i) k) whole (fact_seven d high) b
  where
    close : (g h m : ℕ) (x : ℤ) → g * h ≡ m → m ≤ 5040 → IsWithin (pos g *ℤ (pos h *ℤ pos (2 ^ 100))) x → IsWithin (pos (2 ^ 113)) x
    close g h m x whole few b =
        let e : g * (h * 2 ^ 100) ≡ m * 2 ^ 100 = omega (arith, whole, ap (λ (n : ℕ). n * 2 ^ 100) whole) in
        (omega (arith, ints), omega (arith, ints))

-- the code's step is the definition's, where it began with the same values
pub raise_matches : (d k : ℕ) (f g : ℕ → ℤ) → k ≤ d + 1 → ((i : ℕ) → i ≤ d → f i ≡ g i) → pos k *ℤ f (k - 1) +ℤ pos (d + 1 - k) *ℤ f k ≡ raised_once d g k
raise_matches d k f g small same = by_lt d k
    (λ (edge : d < k).
    let none : d + 1 - k ≡ 0 = omega arith in
    let gone : suc d - k ≡ 0 = omega arith in
    rw (none, gone, same (k - 1) (omega arith), zero_mul_ℤ (f k), zero_mul_ℤ (g k)) refl)
    (λ (inside : k ≤ d).
    let e : d + 1 - k ≡ suc d - k = omega arith in
    rw (e, same (k - 1) (omega arith), same k inside) refl)

-- the same at the next degree
pub next_matches : (n d k : ℕ) (f g : ℕ → ℤ) → n ≤ d → k ≤ d + 1 → ((i : ℕ) → i ≤ d → f i ≡ raised_by (d - n) n g i) →
    pos k *ℤ f (k - 1) +ℤ pos (d + 1 - k) *ℤ f k ≡ raised_by (d + 1 - n) n g k
next_matches n d k f g low small same =
    let e : d + 1 - n ≡ suc (d - n) = omega arith in
    let b : n + (d - n) ≡ d = omega arith in
    rw (e, b) (raise_matches d k f (raised_by (d - n) n g) small same)
