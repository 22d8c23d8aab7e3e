-- Where two drones are not disjoint, their closed ellipsoids share a point: the middle between the centres.
use Rattle.touch_witness.proofs.Prelude.{◌≡◌, ℕ, zero, suc, ◌+◌, ◌*◌, ◌^◌, ◌≤◌, ℤ, pos, neg_ℤ, ◌+ℤ◌, ◌-ℤ◌, ◌*ℤ◌, ◌≤ℤ◌, arith, refl, sym, subst, ◌∙◌, ap, ints, by_lt_z, mul-le, pow-zero, pow-suc, power, ring, linear, le_mul_ℤ, mul_comm_ℤ, power-add, power-mul, power_pos, Traj, decoded, own, gap, square_positive, AreDisjoint, SharePoint, from_centre, over}

-- the squares of three numbers, each times another number
scaled_squares : (h r k x y z : ℤ) → h *ℤ ((k *ℤ x) *ℤ (k *ℤ x) +ℤ (k *ℤ y) *ℤ (k *ℤ y)) +ℤ r *ℤ ((k *ℤ z) *ℤ (k *ℤ z)) ≡ (h *ℤ (x *ℤ x +ℤ y *ℤ y) +ℤ r *ℤ (z *ℤ z)) *ℤ (k *ℤ k)
scaled_squares h r k x y z = simp ring (omega (arith, linear))

-- the middle is as far from the one centre as from the other: half of their distance
from_first : (x y p q : ℤ) → (x *ℤ q +ℤ y *ℤ p) *ℤ p -ℤ x *ℤ (p *ℤ q +ℤ p *ℤ q) ≡ p *ℤ (y *ℤ p -ℤ x *ℤ q)
from_first x y p q = simp ring (omega (arith, linear))

from_second : (x y p q : ℤ) → (x *ℤ q +ℤ y *ℤ p) *ℤ q -ℤ y *ℤ (p *ℤ q +ℤ p *ℤ q) ≡ neg_ℤ q *ℤ (y *ℤ p -ℤ x *ℤ q)
from_second x y p q = simp ring (omega (arith, linear))

-- four times a number, over the double denominator
double : (k w p : ℤ) → (((k +ℤ k) +ℤ (k +ℤ k)) *ℤ (w *ℤ w)) *ℤ (p *ℤ p) ≡ k *ℤ ((p *ℤ (w +ℤ w)) *ℤ (p *ℤ (w +ℤ w)))
double k w p = simp ring (omega (arith, linear))

four_times : (x y : ℕ) → pos (4 * x * y) ≡ (pos (x * y) +ℤ pos (x * y)) +ℤ (pos (x * y) +ℤ pos (x * y))
four_times x y = let e : 4 * x * y ≡ 4 * (x * y) = omega arith in rw e (omega (arith, ints))

-- what is at most so much is so too where both are multiplied by a square
squared : (x y k : ℤ) → x ≤ℤ y → (x *ℤ (k *ℤ k)) ≤ℤ (y *ℤ (k *ℤ k))
squared x y k less = omega (arith, linear, le_mul_ℤ (k *ℤ k) x y (square_positive k) less, mul_comm_ℤ (k *ℤ k) x, mul_comm_ℤ (k *ℤ k) y)

-- one of the two centres: k is its own denominator, and up to its sign the number by which the distance is multiplied
one_centre : (g h r k s w x y z u v m d : ℤ) → u ≡ s *ℤ x → v ≡ s *ℤ y → m ≡ s *ℤ z → s *ℤ s ≡ k *ℤ k → d ≡ k *ℤ (w +ℤ w) →
    (h *ℤ (x *ℤ x +ℤ y *ℤ y) +ℤ r *ℤ (z *ℤ z)) ≤ℤ (((g +ℤ g) +ℤ (g +ℤ g)) *ℤ (w *ℤ w)) → (h *ℤ (u *ℤ u +ℤ v *ℤ v) +ℤ r *ℤ (m *ℤ m)) ≤ℤ (g *ℤ (d *ℤ d))
one_centre g h r k s w x y z u v m d u_is v_is m_is sign d_is near =
    let more : ((h *ℤ (x *ℤ x +ℤ y *ℤ y) +ℤ r *ℤ (z *ℤ z)) *ℤ (s *ℤ s)) ≤ℤ ((((g +ℤ g) +ℤ (g +ℤ g)) *ℤ (w *ℤ w)) *ℤ (s *ℤ s)) = squared _ _ s near in
    let left : h *ℤ (u *ℤ u +ℤ v *ℤ v) +ℤ r *ℤ (m *ℤ m) ≡ (h *ℤ (x *ℤ x +ℤ y *ℤ y) +ℤ r *ℤ (z *ℤ z)) *ℤ (s *ℤ s) =
    same u_is v_is m_is ∙ scaled_squares h r s x y z in
    let right : (((g +ℤ g) +ℤ (g +ℤ g)) *ℤ (w *ℤ w)) *ℤ (s *ℤ s) ≡ g *ℤ (d *ℤ d) =
    ap (λ (n : ℤ). (((g +ℤ g) +ℤ (g +ℤ g)) *ℤ (w *ℤ w)) *ℤ n) sign ∙ double g w k ∙ ap (λ (n : ℤ). g *ℤ (n *ℤ n)) (sym d_is) in
    between left right more
  where
    same : {a b c d e f : ℤ} → a ≡ d → b ≡ e → c ≡ f → h *ℤ (a *ℤ a +ℤ b *ℤ b) +ℤ r *ℤ (c *ℤ c) ≡ h *ℤ (d *ℤ d +ℤ e *ℤ e) +ℤ r *ℤ (f *ℤ f)
    same {a} {b} {c} {d} {e} {f} p q s = cc

    between : {x y z w : ℤ} → x ≡ y → z ≡ w → y ≤ℤ z → x ≤ℤ w
    between {x} {y} {z} {w} p q less = omega (arith, linear)

ones : (c n : ℕ) → 1 ≤ c → 1 ≤ c ^ n
ones c zero some = rw pow-zero (omega arith)
ones c (suc n) some = rw (pow-suc c n) (mul-le 1 1 (c ^ n) c (ones c n some) some)

pub share_point : (t u : Traj) (r h p q : ℕ) → 1 ≤ (own t p q).c → 1 ≤ (own u p q).c → (AreDisjoint t u r h p q → ⊥) → SharePoint t u r h p q
share_point t u r h p q t_some u_some touches = record {
  x = middle 0;
  y = middle 1;
  z = middle 2;
  d = whole;
  some = omega (arith, mul-le 1 1 ((own t p q).c ^ 7) ((own u p q).c ^ 7) (ones (own t p q).c 7 t_some) (ones (own u p q).c 7 u_some));
  in_first = record {
    within = one_centre (pos (r * r * (h * h))) (pos (h * h)) (pos (r * r)) P P (P *ℤ Q) (gap t u p q 0) (gap t u p q 1) (gap t u p q 2)
        (from_centre t p q (middle 0) whole 0) (from_centre t p q (middle 1) whole 1) (from_centre t p q (middle 2) whole 2) (over t p q whole)
        (first 0) (first 1) (first 2) refl (ap (λ (z : ℤ). P *ℤ z) whole_is) near;
  };
  in_second = record {
    within = one_centre (pos (r * r * (h * h))) (pos (h * h)) (pos (r * r)) Q (neg_ℤ Q) (P *ℤ Q) (gap t u p q 0) (gap t u p q 1) (gap t u p q 2)
        (from_centre u p q (middle 0) whole 0) (from_centre u p q (middle 1) whole 1) (from_centre u p q (middle 2) whole 2) (over u p q whole)
        (second 0) (second 1) (second 2) (sign Q) (ap (λ (z : ℤ). Q *ℤ z) whole_is) near;
  };
}
  where
    P : ℤ
    P = power (pos (own t p q).c) 7

    Q : ℤ
    Q = power (pos (own u p q).c) 7

    middle : ℕ → ℤ
    middle axis = decoded t axis (own t p q) *ℤ Q +ℤ decoded u axis (own u p q) *ℤ P

    whole : ℕ
    whole = (own t p q).c ^ 7 * (own u p q).c ^ 7 + (own t p q).c ^ 7 * (own u p q).c ^ 7

    whole_is : pos whole ≡ P *ℤ Q +ℤ P *ℤ Q
    whole_is = twice ((own t p q).c ^ 7) ((own u p q).c ^ 7) P Q (power_pos (own t p q).c 7) (power_pos (own u p q).c 7)
      where
        twice : (x y : ℕ) (p q : ℤ) → p ≡ pos x → q ≡ pos y → pos (x * y + x * y) ≡ p *ℤ q +ℤ p *ℤ q
        twice x y p q p_is q_is = rw (p_is, q_is) (omega (arith, ints))

    first : (axis : ℕ) → from_centre t p q (middle axis) whole axis ≡ P *ℤ gap t u p q axis
    first axis =
        ap (λ (z : ℤ). middle axis *ℤ P -ℤ decoded t axis (own t p q) *ℤ z) whole_is
        ∙ from_first (decoded t axis (own t p q)) (decoded u axis (own u p q)) P Q

    second : (axis : ℕ) → from_centre u p q (middle axis) whole axis ≡ neg_ℤ Q *ℤ gap t u p q axis
    second axis =
        ap (λ (z : ℤ). middle axis *ℤ Q -ℤ decoded u axis (own u p q) *ℤ z) whole_is
        ∙ from_second (decoded t axis (own t p q)) (decoded u axis (own u p q)) P Q

    sign : (k : ℤ) → neg_ℤ k *ℤ neg_ℤ k ≡ k *ℤ k
    sign k = simp ring (omega (arith, linear))

    near : (pos (h * h) *ℤ (gap t u p q 0 *ℤ gap t u p q 0 +ℤ gap t u p q 1 *ℤ gap t u p q 1) +ℤ pos (r * r) *ℤ (gap t u p q 2 *ℤ gap t u p q 2))
        ≤ℤ (((pos (r * r * (h * h)) +ℤ pos (r * r * (h * h))) +ℤ (pos (r * r * (h * h)) +ℤ pos (r * r * (h * h)))) *ℤ ((P *ℤ Q) *ℤ (P *ℤ Q)))
    near =
        subst (λ (k : ℤ). (pos (h * h) *ℤ (gap t u p q 0 *ℤ gap t u p q 0 +ℤ gap t u p q 1 *ℤ gap t u p q 1) +ℤ pos (r * r) *ℤ (gap t u p q 2 *ℤ gap t u p q 2)) ≤ℤ (k *ℤ ((P *ℤ Q) *ℤ (P *ℤ Q))))
        (four_times (r * r) (h * h))
        (subst (λ (z : ℤ). (pos (h * h) *ℤ (gap t u p q 0 *ℤ gap t u p q 0 +ℤ gap t u p q 1 *ℤ gap t u p q 1) +ℤ pos (r * r) *ℤ (gap t u p q 2 *ℤ gap t u p q 2)) ≤ℤ (pos (4 * (r * r) * (h * h)) *ℤ z))
        (power-add (pos (own t p q).c *ℤ pos (own u p q).c) 7 7 ∙ ap (λ (z : ℤ). z *ℤ z) (power-mul (pos (own t p q).c) (pos (own u p q).c) 7))
        (by_lt_z (pos (4 * (r * r) * (h * h)) *ℤ power (pos (own t p q).c *ℤ pos (own u p q).c) 14)
        (pos (h * h) *ℤ (gap t u p q 0 *ℤ gap t u p q 0 +ℤ gap t u p q 1 *ℤ gap t u p q 1) +ℤ pos (r * r) *ℤ (gap t u p q 2 *ℤ gap t u p q 2))
        (λ far. absurd (touches (record { above = far }))) (λ low. low)))
