-- How much a curve of degree seven changes between two instants, by the widest step of its parts.
use Rattle.speed_bound.proofs.Prelude.{◌≡◌, ℕ, zero, suc, ◌*◌, ◌^◌, ℤ, pos, ◌+ℤ◌, ◌-ℤ◌, ◌*ℤ◌, ◌≤ℤ◌, arith, refl, sym, ◌∙◌, ap, ints, by_lt_z, pow-suc, power, bernstein, ring, linear, le_mul_ℤ, mul_not_negative, mul_add_ℤ, add_mul_ℤ, one_mul_ℤ, mul_comm_ℤ, IsWithin, part_value, left_half, right_half, bernstein-scaled}
use Rattle.speed_bound.proofs.Slopes.{minus_same, next_scale, slope, within_add, within_same}
use Rattle.speed_bound.proofs.Differences.{AreWithin, within-half, within-whole}

-- how much a curve may change while `time` passes, at a bound on the steps of its parts of a depth
abbrev pub change : ℕ → ℤ → ℤ → ℤ
change e time w = pos 7 *ℤ (pos (2 ^ e) *ℤ (time *ℤ w))

same_change : (e : ℕ) {time time' : ℤ} (w : ℤ) → time ≡ time' → change e time w ≡ change e time' w
same_change e w same = ap (λ (z : ℤ). change e z w) same

change_add : (e : ℕ) (x y w : ℤ) → change e x w +ℤ change e y w ≡ change e (x +ℤ y) w
change_add e x y w = omega (arith, linear, add x y w, mul_add_ℤ (pos (2 ^ e)) (x *ℤ w) (y *ℤ w), ap (λ (z : ℤ). pos (2 ^ e) *ℤ z) (add_mul_ℤ x y w))
  where
    add : (x y w : ℤ) → (x +ℤ y) *ℤ w ≡ x *ℤ w +ℤ y *ℤ w
    add x y w = add_mul_ℤ x y w

scaled_minus : (q x y z : ℤ) → q *ℤ (y -ℤ x) +ℤ q *ℤ (z -ℤ y) ≡ q *ℤ (z -ℤ x)
scaled_minus q x y z = simp ring (omega (arith, linear))

-- what is known of both halves is known of the whole, at twice the scale
join_halves : (e : ℕ) (g : ℤ → ℤ) (q w s : ℤ) →
    ((x y : ℤ) → pos 0 ≤ℤ x → x ≤ℤ y → y ≤ℤ s → IsWithin (change e (y -ℤ x) w) (q *ℤ (g y -ℤ g x))) →
    ((x y : ℤ) → s ≤ℤ x → x ≤ℤ y → y ≤ℤ (pos 2 *ℤ s) → IsWithin (change e (y -ℤ x) w) (q *ℤ (g y -ℤ g x))) →
    (x y : ℤ) → pos 0 ≤ℤ x → x ≤ℤ y → y ≤ℤ (pos 2 *ℤ s) → IsWithin (change e (y -ℤ x) w) (q *ℤ (g y -ℤ g x))
join_halves e g q w s left right x y low order high =
    by_lt_z x s
    (λ first. by_lt_z s y
    (λ second. within_same (change_add e (s -ℤ x) (y -ℤ s) w ∙ same_change e w (times x s y)) (scaled_minus q (g x) (g s) (g y))
    (within_add _ _ _ _ (left x s low (omega (arith, linear)) (omega (arith, linear))) (right s y (omega (arith, linear)) (omega (arith, linear)) high)))
    (λ before. left x y low order before))
    (λ after. right x y after order high)
  where
    times : (x s y : ℤ) → (s -ℤ x) +ℤ (y -ℤ s) ≡ y -ℤ x
    times x s y = omega (arith, linear)

half_scale : (p b d w : ℤ) → p *ℤ ((pos 2 *ℤ b -ℤ pos 2 *ℤ d) *ℤ w) ≡ (pos 2 *ℤ p) *ℤ ((b -ℤ d) *ℤ w)
half_scale p b d w = ring_of (pos 2) p b d w
  where
    ring_of : (t p b d w : ℤ) → p *ℤ ((t *ℤ b -ℤ t *ℤ d) *ℤ w) ≡ (t *ℤ p) *ℤ ((b -ℤ d) *ℤ w)
    ring_of t p b d w = simp ring (omega (arith, linear))

half_value : (q h x y : ℤ) → q *ℤ (h *ℤ x -ℤ h *ℤ y) ≡ (q *ℤ h) *ℤ (x -ℤ y)
half_value q h x y = simp ring (omega (arith, linear))

-- Where no part of a depth has a wider step than m, the curve changes by at most 7 2^e m times the part of the time that passes.
pub steep : (e : ℕ) (f : ℕ → ℤ) (m d b s : ℤ) → pos 0 ≤ℤ d → d ≤ℤ b → b ≤ℤ s → AreWithin 1 e f m →
    IsWithin (change e (b -ℤ d) (power s 6 *ℤ m)) (pos (2 ^ (7 * e)) *ℤ (bernstein 7 f b s -ℤ bernstein 7 f d s))
steep zero f m d b s low order high flat =
    within_same (ap (λ (z : ℤ). pos 7 *ℤ z) (sym (one_mul_ℤ ((b -ℤ d) *ℤ (power s 6 *ℤ m))))) (sym (one_mul_ℤ (bernstein 7 f b s -ℤ bernstein 7 f d s)))
    (slope f m b d s low order high (λ i small. within-whole 1 i f m flat (omega arith)))
steep (suc e) f m d b s low order high flat =
    let w : ℤ = power s 6 *ℤ m in
    let q : ℤ = pos (2 ^ (7 * e)) in
    let g : ℤ → ℤ = λ (x : ℤ). bernstein 7 f x (pos 2 *ℤ s) in
    let both : IsWithin (change e (pos 2 *ℤ b -ℤ pos 2 *ℤ d) w) (q *ℤ (g (pos 2 *ℤ b) -ℤ g (pos 2 *ℤ d))) =
    join_halves e g q w s
    (λ x y x_low x_y y_high. within_same refl (ap (λ (z : ℤ). q *ℤ z) (minus_same (left_half f y s) (left_half f x s)))
    (steep e (part_value 1 0 f) m x y s x_low x_y y_high (within-half 1 e 0 f m (omega arith) flat)))
    (λ x y x_low x_y y_high. within_same (same_change e w (shifted x y s)) (ap (λ (z : ℤ). q *ℤ z) (minus_same (right_half f (y -ℤ s) s ∙ ap g (back y s)) (right_half f (x -ℤ s) s ∙ ap g (back x s))))
    (steep e (part_value 1 1 f) m (x -ℤ s) (y -ℤ s) s (omega (arith, linear)) (omega (arith, linear)) (omega (arith, linear)) (within-half 1 e 1 f m (omega arith) flat)))
    (pos 2 *ℤ d) (pos 2 *ℤ b) (omega (arith, linear)) (omega (arith, linear)) (omega (arith, linear)) in
    within_same (ap (λ (z : ℤ). pos 7 *ℤ z) (half_scale (pos (2 ^ e)) b d w ∙ ap (λ (z : ℤ). z *ℤ ((b -ℤ d) *ℤ w)) (next_power e)))
    (ap (λ (z : ℤ). q *ℤ z) (minus_same (bernstein-scaled 7 f (pos 2) b s) (bernstein-scaled 7 f (pos 2) d s)) ∙ half_value q (pos 128) (bernstein 7 f b s) (bernstein 7 f d s)
    ∙ ap (λ (z : ℤ). z *ℤ (bernstein 7 f b s -ℤ bernstein 7 f d s)) (next_scale e))
    both
  where
    shifted : (x y s : ℤ) → (y -ℤ s) -ℤ (x -ℤ s) ≡ y -ℤ x
    shifted x y s = omega (arith, linear)

    back : (x s : ℤ) → (x -ℤ s) +ℤ s ≡ x
    back x s = omega (arith, linear)

    next_power : (e : ℕ) → pos 2 *ℤ pos (2 ^ e) ≡ pos (2 ^ suc e)
    next_power e = rw (pow-suc 2 e) (omega (arith, ints))

-- Between a / c and b / d a curve of degree seven changes by at most so much: the positions are numerators over c^7 and d^7.
pub steep_between : (e : ℕ) (f : ℕ → ℤ) (m a c b d : ℤ) → pos 0 ≤ℤ a → a ≤ℤ c → pos 0 ≤ℤ b → b ≤ℤ d → (d *ℤ a) ≤ℤ (c *ℤ b) → AreWithin 1 e f m →
    IsWithin (change e (c *ℤ b -ℤ d *ℤ a) (power (c *ℤ d) 6 *ℤ m)) (pos (2 ^ (7 * e)) *ℤ (power c 7 *ℤ bernstein 7 f b d -ℤ power d 7 *ℤ bernstein 7 f a c))
steep_between e f m a c b d a_low a_high b_low b_high order flat =
    within_same refl
    (ap (λ (z : ℤ). pos (2 ^ (7 * e)) *ℤ z)
    (minus_same (bernstein-scaled 7 f c b d) (ap (λ (z : ℤ). bernstein 7 f (d *ℤ a) z) (mul_comm_ℤ c d) ∙ bernstein-scaled 7 f d a c)))
    (steep e f m (d *ℤ a) (c *ℤ b) (c *ℤ d) (mul_not_negative d a (omega (arith, linear)) a_low) order (le_mul_ℤ c b d (omega (arith, linear)) b_high) flat)
