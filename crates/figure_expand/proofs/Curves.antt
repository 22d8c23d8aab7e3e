-- The curve from rest to rest, as a closed polynomial and as a Bernstein sum: both are the first value times c^7, and the way times
-- the share of it that is done.
use Rattle.figure_expand.proofs.Prelude.{common_steps, ◌≡◌, ℕ, zero, suc, ◌≤◌, ℤ, pos, ◌+ℤ◌, ◌-ℤ◌, ◌*ℤ◌, [], ◌∷◌, arith, sym, ap, ◌∙◌, ints, power, bern, bernstein, weight, ring, linear, mul_add_ℤ, add_mul_ℤ, mul_assoc_ℤ, mul_zero_ℤ, mul_comm_ℤ, bernstein-suc, bernstein-zero, bernstein-same, bernstein-mix, cong_add}

-- the way from rest to rest in closed form
abbrev pub closed_rest : ℤ → ℤ → ℤ → ℤ → ℤ
closed_rest A B a c =
    A *ℤ power c 7
    +ℤ (B -ℤ A) *ℤ (
    pos 35 *ℤ (power a 4 *ℤ power c 3) -ℤ pos 84 *ℤ (power a 5 *ℤ power c 2)
    +ℤ pos 70 *ℤ (power a 6 *ℤ c) -ℤ pos 20 *ℤ power a 7)

-- how far each control value has come: the first four not at all, the others the whole way
abbrev pub step : ℕ → ℤ
step zero = pos 0
step (suc zero) = pos 0
step (suc (suc zero)) = pos 0
step (suc (suc (suc zero))) = pos 0
step (suc (suc (suc (suc k)))) = pos 1

-- the share of the way that is done, a numerator over c ^ 7
unfoldable pub share : ℤ → ℤ → ℤ
share a c = bernstein 7 step a c

split : (u a p : ℤ) → u *ℤ p +ℤ a *ℤ p ≡ (u +ℤ a) *ℤ p
split u a p = sym (add_mul_ℤ u a p)

-- control values that are all 1 have the sum c ^ n
pub bernstein-ones : (n : ℕ) (a c : ℤ) → bernstein n (λ _. pos 1) a c ≡ power c n
bernstein-ones zero a c = bernstein-zero (λ _. pos 1) a c
bernstein-ones (suc n) a c = grind (arith, common_steps, bernstein-suc, pos, cong_add, split, (bernstein-ones n a c), (bernstein-ones n a c))

-- The control values x, x, x, x, y, y, y, y: the first value times c^7, and the way times the share.
pub bernstein-steps : (f : ℕ → ℤ) (x y a c : ℤ) → ((k : ℕ) → k ≤ 7 → f k ≡ x *ℤ pos 1 +ℤ (y -ℤ x) *ℤ step k) → bernstein 7 f a c ≡ x *ℤ power c 7 +ℤ (y -ℤ x) *ℤ share a c
unfolding share
bernstein-steps f x y a c are =
    bernstein-same 7 f _ a c are
    ∙ bernstein-mix 7 x (y -ℤ x) (λ _. pos 1) step a c
    ∙ ap (λ (z : ℤ). x *ℤ z +ℤ (y -ℤ x) *ℤ bernstein 7 step a c) (bernstein-ones 7 a c)

first_value : (x y : ℤ) → x ≡ x *ℤ pos 1 +ℤ (y -ℤ x) *ℤ pos 0
first_value x y = omega (arith, ints)

other_value : (x y : ℤ) → y ≡ x *ℤ pos 1 +ℤ (y -ℤ x) *ℤ pos 1
other_value x y = omega (arith, ints)

-- the sum of such a list
pub bern-steps : (x y a c : ℤ) → bern (x ∷ x ∷ x ∷ x ∷ y ∷ y ∷ y ∷ y ∷ []) a c ≡ x *ℤ power c 7 +ℤ (y -ℤ x) *ℤ share a c
bern-steps x y a c = grind (arith, common_steps, bernstein-steps, pos, step, first_value, other_value)

-- ---- the closed polynomial

one_is : (z : ℤ) → z *ℤ pos 1 ≡ z
one_is z = omega (arith, ints)

term : (n p u : ℤ) → n *ℤ p *ℤ u *ℤ pos 1 ≡ n *ℤ (p *ℤ u)
term n p u = one_is (n *ℤ p *ℤ u) ∙ mul_assoc_ℤ n p u

last_term : (p : ℤ) → pos 1 *ℤ p *ℤ pos 1 *ℤ pos 1 ≡ p
last_term p = omega (arith, ints)

terms : (w0 w1 w2 w3 p4 u3 p5 u2 p6 u1 p7 : ℤ) →
    (((((((pos 0 +ℤ w0 *ℤ pos 0) +ℤ w1 *ℤ pos 0) +ℤ w2 *ℤ pos 0) +ℤ w3 *ℤ pos 0) +ℤ pos 35 *ℤ p4 *ℤ u3 *ℤ pos 1) +ℤ pos 21 *ℤ p5 *ℤ u2 *ℤ pos 1) +ℤ pos 7 *ℤ p6 *ℤ u1 *ℤ pos 1) +ℤ pos 1 *ℤ p7 *ℤ pos 1 *ℤ pos 1
    ≡ pos 35 *ℤ (p4 *ℤ u3) +ℤ pos 21 *ℤ (p5 *ℤ u2) +ℤ pos 7 *ℤ (p6 *ℤ u1) +ℤ p7
terms w0 w1 w2 w3 p4 u3 p5 u2 p6 u1 p7 =
    omega (arith, linear, mul_zero_ℤ w0, mul_zero_ℤ w1, mul_zero_ℤ w2, mul_zero_ℤ w3, term (pos 35) p4 u3, term (pos 21) p5 u2, term (pos 7) p6 u1, last_term p7)

-- the share by its terms
share_terms : (a c : ℤ) → share a c ≡
    pos 35 *ℤ (power a 4 *ℤ power (c -ℤ a) 3) +ℤ pos 21 *ℤ (power a 5 *ℤ power (c -ℤ a) 2) +ℤ pos 7 *ℤ (power a 6 *ℤ power (c -ℤ a) 1) +ℤ power a 7
unfolding share bernstein
share_terms a c =
    terms (weight 7 0 a c) (weight 7 1 a c) (weight 7 2 a c) (weight 7 3 a c) (power a 4) (power (c -ℤ a) 3) (power a 5) (power (c -ℤ a) 2) (power a 6) (power (c -ℤ a) 1) (power a 7)

-- with q for a^4: 35 c^3 - 84 a c^2 + 70 a^2 c - 20 a^3 is 35 u^3 + 21 a u^2 + 7 a^2 u + a^3, where c is a + u
way_plain : (q a u : ℤ) →
    pos 35 *ℤ (q *ℤ ((a +ℤ u) *ℤ ((a +ℤ u) *ℤ (a +ℤ u)))) -ℤ pos 84 *ℤ ((a *ℤ q) *ℤ ((a +ℤ u) *ℤ (a +ℤ u))) +ℤ pos 70 *ℤ ((a *ℤ (a *ℤ q)) *ℤ (a +ℤ u)) -ℤ pos 20 *ℤ (a *ℤ (a *ℤ (a *ℤ q)))
    ≡ pos 35 *ℤ (q *ℤ (u *ℤ (u *ℤ u))) +ℤ pos 21 *ℤ ((a *ℤ q) *ℤ (u *ℤ u)) +ℤ pos 7 *ℤ ((a *ℤ (a *ℤ q)) *ℤ u) +ℤ a *ℤ (a *ℤ (a *ℤ q))
way_plain q a u =
    let x : ℤ = a *ℤ (a *ℤ (a *ℤ q)) in
    let y : ℤ = (a *ℤ (a *ℤ q)) *ℤ u in
    let z : ℤ = (a *ℤ q) *ℤ (u *ℤ u) in
    let three : q *ℤ ((a +ℤ u) *ℤ ((a +ℤ u) *ℤ (a +ℤ u))) ≡ x +ℤ (y +ℤ y +ℤ y) +ℤ (z +ℤ z +ℤ z) +ℤ q *ℤ (u *ℤ (u *ℤ u)) = cubed q a u in
    let two : (a *ℤ q) *ℤ ((a +ℤ u) *ℤ (a +ℤ u)) ≡ x +ℤ (y +ℤ y) +ℤ z = squared q a u in
    let one : (a *ℤ (a *ℤ q)) *ℤ (a +ℤ u) ≡ x +ℤ y = mul_add_ℤ (a *ℤ (a *ℤ q)) a u ∙ ap (λ (w : ℤ). w +ℤ y) (mul_comm_ℤ (a *ℤ (a *ℤ q)) a) in
    omega (arith, linear, three, two, one)
  where
    cubed : (q a u : ℤ) → q *ℤ ((a +ℤ u) *ℤ ((a +ℤ u) *ℤ (a +ℤ u)))
        ≡ a *ℤ (a *ℤ (a *ℤ q)) +ℤ ((a *ℤ (a *ℤ q)) *ℤ u +ℤ (a *ℤ (a *ℤ q)) *ℤ u +ℤ (a *ℤ (a *ℤ q)) *ℤ u) +ℤ ((a *ℤ q) *ℤ (u *ℤ u) +ℤ (a *ℤ q) *ℤ (u *ℤ u) +ℤ (a *ℤ q) *ℤ (u *ℤ u)) +ℤ q *ℤ (u *ℤ (u *ℤ u))
    cubed q a u = simp ring (omega (arith, linear))

    squared : (q a u : ℤ) → (a *ℤ q) *ℤ ((a +ℤ u) *ℤ (a +ℤ u)) ≡ a *ℤ (a *ℤ (a *ℤ q)) +ℤ ((a *ℤ (a *ℤ q)) *ℤ u +ℤ (a *ℤ (a *ℤ q)) *ℤ u) +ℤ (a *ℤ q) *ℤ (u *ℤ u)
    squared q a u = simp ring (omega (arith, linear))

-- the same with names for the powers
way_named : (q a u c c3 c2 u3 u2 u1 : ℤ) → c ≡ a +ℤ u → c3 ≡ c *ℤ (c *ℤ c) → c2 ≡ c *ℤ c → u3 ≡ u *ℤ (u *ℤ u) → u2 ≡ u *ℤ u → u1 ≡ u →
    pos 35 *ℤ (q *ℤ c3) -ℤ pos 84 *ℤ ((a *ℤ q) *ℤ c2) +ℤ pos 70 *ℤ ((a *ℤ (a *ℤ q)) *ℤ c) -ℤ pos 20 *ℤ (a *ℤ (a *ℤ (a *ℤ q)))
    ≡ pos 35 *ℤ (q *ℤ u3) +ℤ pos 21 *ℤ ((a *ℤ q) *ℤ u2) +ℤ pos 7 *ℤ ((a *ℤ (a *ℤ q)) *ℤ u1) +ℤ a *ℤ (a *ℤ (a *ℤ q))
way_named q a u c c3 c2 u3 u2 u1 whole e3 e2 f3 f2 f1 = rw (e3, e2, f3, f2, f1, whole) (way_plain q a u)

two_is : (z : ℤ) → power z 2 ≡ z *ℤ z
two_is z = ap (λ (x : ℤ). z *ℤ x) (one_is z)

three_is : (z : ℤ) → power z 3 ≡ z *ℤ (z *ℤ z)
three_is z = ap (λ (x : ℤ). z *ℤ x) (two_is z)

-- The written position of a movement is that of its share.
pub from_rest-share : (from to a c : ℤ) → closed_rest from to a c ≡ from *ℤ power c 7 +ℤ (to -ℤ from) *ℤ share a c
from_rest-share from to a c =
    let u : ℤ = c -ℤ a in
    let whole : c ≡ a +ℤ u = omega (arith, linear) in
    ap (λ (z : ℤ). from *ℤ power c 7 +ℤ (to -ℤ from) *ℤ z)
    (way_named (power a 4) a u c (power c 3) (power c 2) (power u 3) (power u 2) (power u 1) whole (three_is c) (two_is c) (three_is u) (two_is u) (one_is u) ∙ sym (share_terms a c))
