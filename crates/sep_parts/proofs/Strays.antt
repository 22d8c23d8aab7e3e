-- What strays and late starts take from a distance along a direction: the algebra, over plain whole numbers.
use Rattle.sep_parts.proofs.Prelude.{◌≡◌, ℕ, suc, ◌≤◌, ℤ, pos, negsuc, neg_ℤ, ◌+ℤ◌, ◌-ℤ◌, ◌*ℤ◌, ◌≤ℤ◌, ◌<ℤ◌, unsigned_abs, arith, refl, ints, by_lt_z, IsIn, ring, linear, le_mul_ℤ, lt_mul_ℤ, le_from_mul_ℤ, mul_positive, mul_not_negative, mul_comm_ℤ, mul_assoc_ℤ, mul_neg_ℤ, neg_mul_ℤ}
use Rattle.sep_parts.proofs.Cauchy.{cauchy, square_positive}

-- the sum of three products: of weights with the values on the three axes
abbrev pub dot : (ℕ → ℤ) → (ℕ → ℤ) → ℤ
dot w f = w 0 *ℤ f 0 +ℤ w 1 *ℤ f 1 +ℤ w 2 *ℤ f 2

-- ---- a square root
square_lt : (x y : ℤ) → pos 0 ≤ℤ x → x <ℤ y → (x *ℤ x) <ℤ (y *ℤ y)
square_lt x y low less =
    omega (arith, linear, le_mul_ℤ x x y low (omega (arith, linear)), lt_mul_ℤ x y y (omega (arith, linear)) less)

square_neg : (x : ℤ) → neg_ℤ x *ℤ neg_ℤ x ≡ x *ℤ x
square_neg x = simp ring (omega (arith, linear))

pub root_within : (x y : ℤ) → pos 0 ≤ℤ y → (x *ℤ x) ≤ℤ (y *ℤ y) → IsIn (neg_ℤ y) y x
root_within x y low squares = (
  by_lt_z x (neg_ℤ y) (λ less. absurd (omega (arith, linear, squares, square_neg x, square_lt y (neg_ℤ x) low (omega (arith, linear))))) (λ h. h),
  by_lt_z y x (λ less. absurd (omega (arith, linear, squares, square_lt y x low less))) (λ h. h),
)

-- ---- a stray, seen along a direction
four_ring : (x : ℤ) → (pos 2 *ℤ x) *ℤ (pos 2 *ℤ x) ≡ pos 4 *ℤ (x *ℤ x)
four_ring x = four (x *ℤ x) (two_twice (pos 2) x)
  where
    two_twice : (k x : ℤ) → (k *ℤ x) *ℤ (k *ℤ x) ≡ k *ℤ (k *ℤ (x *ℤ x))
    two_twice k x = simp ring refl

    four : (y : ℤ) {z : ℤ} → z ≡ pos 2 *ℤ (pos 2 *ℤ y) → z ≡ pos 4 *ℤ y
    four y {z} e = omega (arith, linear, e)

stray_ring : (f n r k : ℤ) → f *ℤ (n *ℤ ((r *ℤ k) *ℤ (r *ℤ k))) ≡ (k *ℤ k) *ℤ (f *ℤ (r *ℤ r) *ℤ n)
stray_ring f n r k = simp ring refl

root_ring : (k s : ℤ) → (k *ℤ k) *ℤ (s *ℤ s) ≡ (s *ℤ k) *ℤ (s *ℤ k)
root_ring k s = simp ring refl

-- A point is off by f, at most r over k. Along the weights, with a number s whose square is at least 4 r^2 times theirs, twice the sum is at most
-- s over k.
pub dot_within : (w f : ℕ → ℤ) (r k s : ℤ) → pos 0 ≤ℤ s → pos 0 ≤ℤ k → (pos 4 *ℤ (r *ℤ r) *ℤ dot w w) ≤ℤ (s *ℤ s) →
    dot f f ≤ℤ ((r *ℤ k) *ℤ (r *ℤ k)) → IsIn (neg_ℤ (s *ℤ k)) (s *ℤ k) (pos 2 *ℤ dot w f)
dot_within w f r k s s_low k_low reach off =
    root_within (pos 2 *ℤ dot w f) (s *ℤ k) (mul_not_negative s k s_low k_low)
    (omega (arith, linear, four_ring (dot w f), cauchy (w 0) (w 1) (w 2) (f 0) (f 1) (f 2), first, stray_ring (pos 4) (dot w w) r k, second, root_ring k s))
  where
    first : (dot w w *ℤ dot f f) ≤ℤ (dot w w *ℤ ((r *ℤ k) *ℤ (r *ℤ k)))
    first = le_mul_ℤ (dot w w) (dot f f) ((r *ℤ k) *ℤ (r *ℤ k)) (omega (arith, linear, square_positive (w 0), square_positive (w 1), square_positive (w 2))) off

    second : ((k *ℤ k) *ℤ (pos 4 *ℤ (r *ℤ r) *ℤ dot w w)) ≤ℤ ((k *ℤ k) *ℤ (s *ℤ s))
    second = le_mul_ℤ (k *ℤ k) (pos 4 *ℤ (r *ℤ r) *ℤ dot w w) (s *ℤ s) (square_positive k) reach

-- ---- a way, seen along a direction
term_low : (w z m : ℤ) → IsIn (neg_ℤ m) m z → neg_ℤ (pos (unsigned_abs w) *ℤ m) ≤ℤ (w *ℤ z)
term_low (pos k) z m within = omega (arith, linear, le_mul_ℤ (pos k) (neg_ℤ m) z (omega (arith, ints)) within.0, mul_neg_ℤ (pos k) m)
term_low (negsuc k) z m within =
    omega (arith, linear, le_mul_ℤ (pos (suc k)) z m (omega (arith, ints)) within.1, neg_mul_ℤ (pos (suc k)) z)

reach_ring : (u v w a b c n : ℤ) → u *ℤ (a *ℤ n) +ℤ v *ℤ (b *ℤ n) +ℤ w *ℤ (c *ℤ n) ≡ (u *ℤ a +ℤ v *ℤ b +ℤ w *ℤ c) *ℤ n
reach_ring u v w a b c n = simp ring (omega (arith, linear))

-- the sizes of weights times numbers
abbrev pub sizes_dot : (ℕ → ℤ) → (ℕ → ℤ) → ℤ
sizes_dot w m = dot (λ i. pos (unsigned_abs (w i))) m

-- A drone moves by f, on each axis at most m over n. Along the weights that is at least minus their sizes times m, over n.
pub way_low : (w f m : ℕ → ℤ) (n : ℤ) → ((i : ℕ) → i ≤ 2 → IsIn (neg_ℤ (m i *ℤ n)) (m i *ℤ n) (f i)) → neg_ℤ (sizes_dot w m *ℤ n) ≤ℤ dot w f
way_low w f m n within =
    omega (
      arith,
      linear,
      term_low (w 0) (f 0) (m 0 *ℤ n) (within 0 (omega arith)),
      term_low (w 1) (f 1) (m 1 *ℤ n) (within 1 (omega arith)),
      term_low (w 2) (f 2) (m 2 *ℤ n) (within 2 (omega arith)),
      reach_ring (pos (unsigned_abs (w 0))) (pos (unsigned_abs (w 1))) (pos (unsigned_abs (w 2))) (m 0) (m 1) (m 2) n,
    )

-- ---- all of it
-- The first drone's curve is at t over C, and its point at x over d; the second drone's curve is at u over C then, and at v over D at its own
-- instant, and its point is at y over e.
whole_ring : (w0 w1 w2 t0 t1 t2 u0 u1 u2 v0 v1 v2 x0 x1 x2 y0 y1 y2 C D d e : ℤ) →
    (w0 *ℤ (y0 *ℤ d -ℤ x0 *ℤ e) +ℤ w1 *ℤ (y1 *ℤ d -ℤ x1 *ℤ e) +ℤ w2 *ℤ (y2 *ℤ d -ℤ x2 *ℤ e)) *ℤ (C *ℤ D)
    ≡ (w0 *ℤ (y0 *ℤ D -ℤ v0 *ℤ e) +ℤ w1 *ℤ (y1 *ℤ D -ℤ v1 *ℤ e) +ℤ w2 *ℤ (y2 *ℤ D -ℤ v2 *ℤ e)) *ℤ (C *ℤ d)
    -ℤ (w0 *ℤ (x0 *ℤ C -ℤ t0 *ℤ d) +ℤ w1 *ℤ (x1 *ℤ C -ℤ t1 *ℤ d) +ℤ w2 *ℤ (x2 *ℤ C -ℤ t2 *ℤ d)) *ℤ (D *ℤ e)
    +ℤ (w0 *ℤ (v0 *ℤ C -ℤ u0 *ℤ D) +ℤ w1 *ℤ (v1 *ℤ C -ℤ u1 *ℤ D) +ℤ w2 *ℤ (v2 *ℤ C -ℤ u2 *ℤ D)) *ℤ (d *ℤ e)
    +ℤ (w0 *ℤ (u0 -ℤ t0) +ℤ w1 *ℤ (u1 -ℤ t1) +ℤ w2 *ℤ (u2 -ℤ t2)) *ℤ (D *ℤ (d *ℤ e))
whole_ring w0 w1 w2 t0 t1 t2 u0 u1 u2 v0 v1 v2 x0 x1 x2 y0 y1 y2 C D d e = simp ring (omega (arith, linear))

-- the bounds, each times what it is taken times
both_ring : (t C D d e : ℤ) → (t *ℤ (D *ℤ e)) *ℤ (C *ℤ d) ≡ (t *ℤ (d *ℤ e)) *ℤ (C *ℤ D)
both_ring t C D d e = simp ring refl

other_ring : (t C D d e : ℤ) → (t *ℤ (C *ℤ d)) *ℤ (D *ℤ e) ≡ (t *ℤ (d *ℤ e)) *ℤ (C *ℤ D)
other_ring t C D d e = simp ring refl

way_ring : (t C D d e : ℤ) → (t *ℤ (C *ℤ D)) *ℤ (d *ℤ e) ≡ (t *ℤ (d *ℤ e)) *ℤ (C *ℤ D)
way_ring t C D d e = simp ring refl

sum_ring : (t s r C D d e : ℤ) → ((t +ℤ s +ℤ r) *ℤ C) *ℤ (D *ℤ (d *ℤ e)) ≡ (t *ℤ (d *ℤ e)) *ℤ (C *ℤ D) +ℤ (s *ℤ (d *ℤ e)) *ℤ (C *ℤ D) +ℤ (r *ℤ (d *ℤ e)) *ℤ (C *ℤ D)
sum_ring t s r C D d e = simp ring (omega (arith, linear))

twice_times : (x k : ℤ) → (pos 2 *ℤ x) *ℤ k ≡ pos 2 *ℤ (x *ℤ k)
twice_times x k = mul_assoc_ℤ (pos 2) x k

-- a bound times a number that is not negative
low_times : (b x k : ℤ) → pos 0 ≤ℤ k → neg_ℤ b ≤ℤ x → neg_ℤ (b *ℤ k) ≤ℤ (x *ℤ k)
low_times b x k low below = omega (arith, linear, le_mul_ℤ k (neg_ℤ b) x low below, mul_comm_ℤ k x, mul_comm_ℤ k (neg_ℤ b), neg_mul_ℤ b k)

high_times : (b x k : ℤ) → pos 0 ≤ℤ k → x ≤ℤ b → (x *ℤ k) ≤ℤ (b *ℤ k)
high_times b x k low below = omega (arith, linear, le_mul_ℤ k x b low below, mul_comm_ℤ k x, mul_comm_ℤ k b)

-- Along the weights the curves are t + s + r apart at one instant. Then the points are t apart, where s is what two strays take and r what the
-- second drone's way to its own instant takes.
pub points_apart : (w t u v x y : ℕ → ℤ) (C D d e low stray late : ℤ) → pos 0 <ℤ C → pos 0 <ℤ D → pos 0 <ℤ d → pos 0 <ℤ e →
    ((low +ℤ stray +ℤ late) *ℤ C) ≤ℤ dot w (λ i. u i -ℤ t i) →
    IsIn (neg_ℤ (stray *ℤ (C *ℤ d))) (stray *ℤ (C *ℤ d)) (pos 2 *ℤ dot w (λ i. x i *ℤ C -ℤ t i *ℤ d)) →
    IsIn (neg_ℤ (stray *ℤ (D *ℤ e))) (stray *ℤ (D *ℤ e)) (pos 2 *ℤ dot w (λ i. y i *ℤ D -ℤ v i *ℤ e)) →
    neg_ℤ (late *ℤ (C *ℤ D)) ≤ℤ dot w (λ i. v i *ℤ C -ℤ u i *ℤ D) →
    (low *ℤ (d *ℤ e)) ≤ℤ dot w (λ i. y i *ℤ d -ℤ x i *ℤ e)
points_apart w t u v x y C D d e low stray late C_pos D_pos d_pos e_pos seen first second moved =
    let A : ℤ = dot w (λ i. y i *ℤ D -ℤ v i *ℤ e) in
    let B : ℤ = dot w (λ i. x i *ℤ C -ℤ t i *ℤ d) in
    let Z : ℤ = dot w (λ i. v i *ℤ C -ℤ u i *ℤ D) in
    let U : ℤ = dot w (λ i. u i -ℤ t i) in
    let G : ℤ = dot w (λ i. y i *ℤ d -ℤ x i *ℤ e) in
    let whole : G *ℤ (C *ℤ D) ≡ A *ℤ (C *ℤ d) -ℤ B *ℤ (D *ℤ e) +ℤ Z *ℤ (d *ℤ e) +ℤ U *ℤ (D *ℤ (d *ℤ e)) =
    whole_ring (w 0) (w 1) (w 2) (t 0) (t 1) (t 2) (u 0) (u 1) (u 2) (v 0) (v 1) (v 2) (x 0) (x 1) (x 2) (y 0) (y 1) (y 2) C D d e in
    le_from_mul_ℤ (low *ℤ (d *ℤ e)) G (C *ℤ D) (mul_positive C D C_pos D_pos)
    (gathered A B Z U (G *ℤ (C *ℤ D)) whole
    (low_times (stray *ℤ (D *ℤ e)) (pos 2 *ℤ A) (C *ℤ d) (product_low C d C_pos d_pos) second.0)
    (high_times (stray *ℤ (C *ℤ d)) (pos 2 *ℤ B) (D *ℤ e) (product_low D e D_pos e_pos) first.1)
    (low_times (late *ℤ (C *ℤ D)) Z (d *ℤ e) (product_low d e d_pos e_pos) moved)
    (high_times U ((low +ℤ stray +ℤ late) *ℤ C) (D *ℤ (d *ℤ e)) (product_low D (d *ℤ e) D_pos (mul_positive d e d_pos e_pos)) seen))
  where
    product_low : (x y : ℤ) → pos 0 <ℤ x → pos 0 <ℤ y → pos 0 ≤ℤ (x *ℤ y)
    product_low x y first second = omega (arith, linear, mul_positive x y first second)

    gathered : (A B Z U G : ℤ) → G ≡ A *ℤ (C *ℤ d) -ℤ B *ℤ (D *ℤ e) +ℤ Z *ℤ (d *ℤ e) +ℤ U *ℤ (D *ℤ (d *ℤ e)) →
        neg_ℤ ((stray *ℤ (D *ℤ e)) *ℤ (C *ℤ d)) ≤ℤ ((pos 2 *ℤ A) *ℤ (C *ℤ d)) →
        ((pos 2 *ℤ B) *ℤ (D *ℤ e)) ≤ℤ ((stray *ℤ (C *ℤ d)) *ℤ (D *ℤ e)) →
        neg_ℤ ((late *ℤ (C *ℤ D)) *ℤ (d *ℤ e)) ≤ℤ (Z *ℤ (d *ℤ e)) →
        (((low +ℤ stray +ℤ late) *ℤ C) *ℤ (D *ℤ (d *ℤ e))) ≤ℤ (U *ℤ (D *ℤ (d *ℤ e))) →
        ((low *ℤ (d *ℤ e)) *ℤ (C *ℤ D)) ≤ℤ G
    gathered A B Z U G is a b z u =
        omega (arith, linear, is, a, b, z, u, twice_times A (C *ℤ d), twice_times B (D *ℤ e), both_ring stray C D d e, other_ring stray C D d e, way_ring late C D d e, sum_ring low stray late C D d e)
