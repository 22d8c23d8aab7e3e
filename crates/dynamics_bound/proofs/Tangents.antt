-- How far a curve departs from its tangent: by the widest bend among its control values.
use Rattle.dynamics_bound.proofs.Prelude.{◌≡◌, ℕ, zero, suc, ◌+◌, ◌≤◌, ℤ, pos, ◌+ℤ◌, ◌-ℤ◌, ◌*ℤ◌, ◌≤ℤ◌, arith, refl, ◌∙◌, ap, ints, power, bernstein, ring, linear, zero_mul_ℤ, IsWithin, polar, polar-first, steps, count_more, exchange, exchanged, minus_same, polar-second, within_add, within_product, within_same, bend}

-- ---- the tangent
-- 0 + 1 + .. + (j - 1)
pub before : ℕ → ℕ
before zero = 0
before (suc j) = before j + j

-- one argument more: what is left of the tangent
tangent_ring : (u j t v p q r : ℤ) → r ≡ p +ℤ t *ℤ q → ((p -ℤ u) -ℤ j *ℤ (t *ℤ v)) +ℤ t *ℤ (q -ℤ v) ≡ (r -ℤ u) -ℤ (j *ℤ (t *ℤ v) +ℤ t *ℤ v)
tangent_ring u j t v p q r e = rw e (expand u (j *ℤ (t *ℤ v)) t v p q)
  where
    expand : (u y t v p q : ℤ) → ((p -ℤ u) -ℤ y) +ℤ t *ℤ (q -ℤ v) ≡ ((p +ℤ t *ℤ q) -ℤ u) -ℤ (y +ℤ t *ℤ v)
    expand u y t v p q = simp ring (omega (arith, linear))

tangent_room : (i j : ℕ) (w c : ℤ) → pos i *ℤ (w *ℤ (w *ℤ c)) +ℤ w *ℤ (pos j *ℤ (w *ℤ c)) ≡ pos (i + j) *ℤ (w *ℤ (w *ℤ c))
tangent_room i j w c = ap (λ (z : ℤ). pos i *ℤ (w *ℤ (w *ℤ c)) +ℤ z) (front w (pos j) (w *ℤ c)) ∙ together i j (w *ℤ (w *ℤ c))
  where
    front : (w j y : ℤ) → w *ℤ (j *ℤ y) ≡ j *ℤ (w *ℤ y)
    front w j y = simp ring refl

    together : (i j : ℕ) (y : ℤ) → pos i *ℤ y +ℤ pos j *ℤ y ≡ pos (i + j) *ℤ y
    together i j y = omega (arith, ints)

no_tangent : (x y t z : ℤ) → x ≡ y → IsWithin (pos 0 *ℤ z) ((x -ℤ y) -ℤ pos 0 *ℤ t)
no_tangent x y t z e = (omega (arith, linear, zero_mul_ℤ z, zero_mul_ℤ t), omega (arith, linear, zero_mul_ℤ z, zero_mul_ℤ t))

-- j of the arguments moved along the tangent at d / s: f has degree n + 2
pub along_tangent : (j k n : ℕ) (f : ℕ → ℤ) (m w b d s : ℤ) → j + k ≡ suc (suc n) → pos 0 ≤ℤ b → b ≤ℤ s → pos 0 ≤ℤ d → d ≤ℤ s → IsWithin w (b -ℤ d) →
    ((i : ℕ) → i ≤ n → IsWithin m (steps (steps f) i)) →
    IsWithin (pos (before j) *ℤ (w *ℤ (w *ℤ (power s n *ℤ m))))
    ((polar j k f b d s -ℤ polar 0 (suc (suc n)) f b d s) -ℤ pos j *ℤ ((b -ℤ d) *ℤ bernstein (suc n) (steps f) d s))
unfolding before
along_tangent zero k n f m w b d s e b_low b_high d_low d_high near within =
    let same : k ≡ suc (suc n) = omega arith in
    no_tangent (polar 0 k f b d s) (polar 0 (suc (suc n)) f b d s) ((b -ℤ d) *ℤ bernstein (suc n) (steps f) d s) (w *ℤ (w *ℤ (power s n *ℤ m))) (ap (λ (i : ℕ). polar 0 i f b d s) same)
along_tangent (suc j) k n f m w b d s e b_low b_high d_low d_high near within =
    let v : ℤ = bernstein (suc n) (steps f) d s in
    let slopes : IsWithin (pos j *ℤ (w *ℤ (power s n *ℤ m))) (polar j k (steps f) b d s -ℤ v) =
    within_same refl (ap (λ (z : ℤ). polar j k (steps f) b d s -ℤ z) (polar-second (suc n) (steps f) b d s))
    (exchanged j k n (steps f) m w b d s (omega arith) b_low b_high d_low d_high near within) in
    within_same (tangent_room (before j) j w (power s n *ℤ m))
    (tangent_ring (polar 0 (suc (suc n)) f b d s) (pos j) (b -ℤ d) v (polar j (suc k) f b d s) (polar j k (steps f) b d s) (polar (suc j) k f b d s) (exchange j k f b d s)
    ∙ ap (λ (z : ℤ). (polar (suc j) k f b d s -ℤ polar 0 (suc (suc n)) f b d s) -ℤ z) (count_more j ((b -ℤ d) *ℤ v)))
    (within_add _ _ _ _
    (along_tangent j (suc k) n f m w b d s (omega arith) b_low b_high d_low d_high near within)
    (within_product w (b -ℤ d) _ _ near slopes))

-- A curve of degree seven departs from its tangent by at most 21 times its widest bend, times the square of the part of the time.
pub tangent : (f : ℕ → ℤ) (m w b d s : ℤ) → pos 0 ≤ℤ b → b ≤ℤ s → pos 0 ≤ℤ d → d ≤ℤ s → IsWithin w (b -ℤ d) →
    ((i : ℕ) → i ≤ 5 → IsWithin m (bend f i)) →
    IsWithin (pos 21 *ℤ (w *ℤ (w *ℤ (power s 5 *ℤ m))))
    ((bernstein 7 f b s -ℤ bernstein 7 f d s) -ℤ pos 7 *ℤ ((b -ℤ d) *ℤ bernstein 6 (steps f) d s))
unfolding before
tangent f m w b d s b_low b_high d_low d_high near within =
    within_same refl (ap (λ (z : ℤ). z -ℤ pos 7 *ℤ ((b -ℤ d) *ℤ bernstein 6 (steps f) d s)) (minus_same (polar-first 7 f b d s) (polar-second 7 f b d s)))
    (along_tangent 7 0 5 f m w b d s refl b_low b_high d_low d_high near within)
