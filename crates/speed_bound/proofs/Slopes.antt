-- How much a curve of degree seven changes between two instants, by the widest step between neighbours among its control values.
use Rattle.speed_bound.proofs.Prelude.{◌≡◌, ℕ, zero, suc, ◌+◌, ◌*◌, ◌^◌, ◌≤◌, ℤ, pos, ◌+ℤ◌, ◌-ℤ◌, ◌*ℤ◌, ◌≤ℤ◌, neg_ℤ, arith, refl, sym, ◌∙◌, ap, zero-add, ints, by_lt_z, power, bernstein, ring, linear, le_mul_ℤ, mul_assoc_ℤ, one_mul_ℤ, zero_mul_ℤ, mul_comm_ℤ, neg_mul_ℤ, pow-add, power-add, bernstein-zero, bernstein-same, IsWithin, bound_positive, within_mul, polar, bernstein-within, step, polar-same, polar-suc_first, polar-suc_second, polar-mix, polar-first}

-- two differences
pub minus_same : {x y z w : ℤ} → x ≡ y → z ≡ w → x -ℤ z ≡ y -ℤ w
minus_same {x} {y} {z} {w} p q = cc

-- the scale of the next depth
pub next_scale : (e : ℕ) → pos (2 ^ (7 * e)) *ℤ pos 128 ≡ pos (2 ^ (7 * suc e))
next_scale e = let more : 7 * suc e ≡ 7 * e + 7 = omega arith in rw (more, pow-add 2 (7 * e) 7) (omega (arith, ints))

-- the steps between neighbours
abbrev pub steps : (ℕ → ℤ) → ℕ → ℤ
steps f i = f (suc i) -ℤ f i

-- one argument of the polar form exchanged for another: in numbers, and with a factor of one
exchange_ring : (s b d x y : ℤ) → (s -ℤ b) *ℤ x +ℤ b *ℤ y ≡ ((s -ℤ d) *ℤ x +ℤ d *ℤ y) +ℤ (b -ℤ d) *ℤ (y -ℤ x)
exchange_ring s b d x y = simp ring (omega (arith, linear))

exchanged_once : (s b d x y : ℤ) → (s -ℤ b) *ℤ x +ℤ b *ℤ y ≡ pos 1 *ℤ ((s -ℤ d) *ℤ x +ℤ d *ℤ y) +ℤ (b -ℤ d) *ℤ (y -ℤ x)
exchanged_once s b d x y = exchange_ring s b d x y ∙ ap (λ (z : ℤ). z +ℤ (b -ℤ d) *ℤ (y -ℤ x)) (sym (one_mul_ℤ ((s -ℤ d) *ℤ x +ℤ d *ℤ y)))

-- One argument b of the polar form exchanged for a d: what it adds is b - d times the polar form of the steps.
pub exchange : (j k : ℕ) (f : ℕ → ℤ) (b d s : ℤ) → polar (suc j) k f b d s ≡ polar j (suc k) f b d s +ℤ (b -ℤ d) *ℤ polar j k (steps f) b d s
exchange j k f b d s =
    polar-suc_first j k f b d s
    ∙ polar-same j k (step b s f) (λ i. pos 1 *ℤ step d s f i +ℤ (b -ℤ d) *ℤ steps f i) b d s (λ i small. exchanged_once s b d (f i) (f (suc i)))
    ∙ polar-mix j k (pos 1) (b -ℤ d) (step d s f) (steps f) b d s
    ∙ ap (λ (z : ℤ). z +ℤ (b -ℤ d) *ℤ polar j k (steps f) b d s) (one_mul_ℤ (polar j k (step d s f) b d s) ∙ sym (polar-suc_second j k f b d s))

-- A polar form of values within a bound is within the bound, scaled.
pub polar-within : (j k : ℕ) (f : ℕ → ℤ) (m b d s : ℤ) → pos 0 ≤ℤ b → b ≤ℤ s → pos 0 ≤ℤ d → d ≤ℤ s → ((i : ℕ) → i ≤ j + k → IsWithin m (f i)) →
    IsWithin (power s (j + k) *ℤ m) (polar j k f b d s)
unfolding polar
polar-within j k f m b d s b_low b_high d_low d_high within =
    rw (power-add s j k, mul_assoc_ℤ (power s j) (power s k) m)
    (bernstein-within j (λ i. bernstein k (λ l. f (i + l)) d s) (power s k *ℤ m) b s b_low b_high
    (λ i small. bernstein-within k (λ l. f (i + l)) m d s d_low d_high (λ l low. within (i + l) (omega arith))))

-- two bounds add
pub within_add : (m n x y : ℤ) → IsWithin m x → IsWithin n y → IsWithin (m +ℤ n) (x +ℤ y)
within_add m n x y first second = (omega (arith, linear), omega (arith, linear))

-- the same number within the same bound
pub within_same : {m n x y : ℤ} → m ≡ n → x ≡ y → IsWithin m x → IsWithin n y
within_same {m} {n} {x} {y} bounds values within = (omega (arith, linear), omega (arith, linear))

-- one more of a number
pub count_more : (j : ℕ) (z : ℤ) → pos j *ℤ z +ℤ z ≡ pos (suc j) *ℤ z
count_more j z = omega (arith, ints)

-- a number added before the last one is taken off
regroup_sum : (x y z u : ℤ) → z ≡ x +ℤ y → (x -ℤ u) +ℤ y ≡ z -ℤ u
regroup_sum x y z u e = omega (arith, linear)

-- where nothing is exchanged nothing is left
none_left : (x y z : ℤ) → x ≡ y → IsWithin (pos 0 *ℤ z) (x -ℤ y)
none_left x y z e = (omega (arith, linear, zero_mul_ℤ z), omega (arith, linear, zero_mul_ℤ z))

-- the product of two bounds
pub within_product : (w t m x : ℤ) → IsWithin w t → IsWithin m x → IsWithin (w *ℤ m) (t *ℤ x)
within_product w t m x first second =
    let some : pos 0 ≤ℤ m = bound_positive m x second in
    by_lt_z t (pos 0)
    (λ less.
    let one : IsWithin (neg_ℤ t *ℤ m) (neg_ℤ t *ℤ x) = within_mul (neg_ℤ t) m x (omega (arith, linear)) second in
    let more : (m *ℤ neg_ℤ t) ≤ℤ (m *ℤ w) = le_mul_ℤ m (neg_ℤ t) w some (omega (arith, linear)) in
    turned (neg_ℤ t *ℤ m) (w *ℤ m) (neg_ℤ t *ℤ x) (t *ℤ x) one (omega (arith, linear, more, mul_comm_ℤ m (neg_ℤ t), mul_comm_ℤ m w)) (neg_mul_ℤ t x))
    (λ not_less.
    let one : IsWithin (t *ℤ m) (t *ℤ x) = within_mul t m x not_less second in
    let more : (m *ℤ t) ≤ℤ (m *ℤ w) = le_mul_ℤ m t w some (omega (arith, linear)) in
    wider (t *ℤ m) (w *ℤ m) (t *ℤ x) one (omega (arith, linear, more, mul_comm_ℤ m t, mul_comm_ℤ m w)))
  where
    wider : (p q x : ℤ) → IsWithin p x → p ≤ℤ q → IsWithin q x
    wider p q x within more = (omega (arith, linear), omega (arith, linear))

    turned : (p q x y : ℤ) → IsWithin p x → p ≤ℤ q → x ≡ neg_ℤ y → IsWithin q y
    turned p q x y within more e = (omega (arith, linear), omega (arith, linear))

-- j of the arguments exchanged; w bounds how far apart the two are
pub exchanged : (j k n : ℕ) (f : ℕ → ℤ) (m w b d s : ℤ) → j + k ≡ suc n → pos 0 ≤ℤ b → b ≤ℤ s → pos 0 ≤ℤ d → d ≤ℤ s → IsWithin w (b -ℤ d) →
    ((i : ℕ) → i ≤ n → IsWithin m (steps f i)) → IsWithin (pos j *ℤ (w *ℤ (power s n *ℤ m))) (polar j k f b d s -ℤ polar 0 (suc n) f b d s)
exchanged zero k n f m w b d s e b_low b_high d_low d_high near within =
    let same : k ≡ suc n = omega arith in
    none_left (polar 0 k f b d s) (polar 0 (suc n) f b d s) (w *ℤ (power s n *ℤ m)) (ap (λ (i : ℕ). polar 0 i f b d s) same)
exchanged (suc j) k n f m w b d s e b_low b_high d_low d_high near within =
    let rest : j + k ≡ n = omega arith in
    let one : IsWithin (w *ℤ (power s (j + k) *ℤ m)) ((b -ℤ d) *ℤ polar j k (steps f) b d s) =
    within_product w (b -ℤ d) (power s (j + k) *ℤ m) (polar j k (steps f) b d s) near
    (polar-within j k (steps f) m b d s b_low b_high d_low d_high (λ i small. within i (omega arith))) in
    within_same
    (ap (λ (i : ℕ). pos j *ℤ (w *ℤ (power s n *ℤ m)) +ℤ w *ℤ (power s i *ℤ m)) rest ∙ count_more j (w *ℤ (power s n *ℤ m)))
    (regroup_sum (polar j (suc k) f b d s) ((b -ℤ d) *ℤ polar j k (steps f) b d s) (polar (suc j) k f b d s) (polar 0 (suc n) f b d s) (exchange j k f b d s))
    (within_add _ _ _ _ (exchanged j (suc k) n f m w b d s (omega arith) b_low b_high d_low d_high near within) one)

-- With no first argument the polar form is the sum too.
pub polar-second : (n : ℕ) (f : ℕ → ℤ) (b d s : ℤ) → polar 0 n f b d s ≡ bernstein n f d s
unfolding polar
polar-second n f b d s = bernstein-zero (λ i. bernstein n (λ l. f (i + l)) d s) b s ∙ bernstein-same n (λ l. f (0 + l)) f d s (λ l small. ap f (zero-add l))

-- A curve of degree seven changes by at most seven times its widest step, times the part of the time that passes.
pub slope : (f : ℕ → ℤ) (m b d s : ℤ) → pos 0 ≤ℤ d → d ≤ℤ b → b ≤ℤ s → ((i : ℕ) → i ≤ 6 → IsWithin m (steps f i)) →
    IsWithin (pos 7 *ℤ ((b -ℤ d) *ℤ (power s 6 *ℤ m))) (bernstein 7 f b s -ℤ bernstein 7 f d s)
slope f m b d s low order high within =
    within_same refl (minus_same (polar-first 7 f b d s) (polar-second 7 f b d s))
    (exchanged 7 0 6 f m (b -ℤ d) b d s refl (omega (arith, linear)) high low (omega (arith, linear)) (omega (arith, linear), omega (arith, linear)) within)
