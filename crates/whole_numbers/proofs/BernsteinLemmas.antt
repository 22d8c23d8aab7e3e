-- Laws of Bernstein sums of any degree. Each goes by a step of one degree.
use Rattle.whole_numbers.proofs.Prelude.{◌≡◌, ℕ, zero, suc, ◌<◌, ◌≤◌, ◌-◌, ℤ, pos, ◌+ℤ◌, ◌-ℤ◌, ◌*ℤ◌, ◌≤ℤ◌, arith, refl, sym, ◌∙◌, ap, ints, inl, inr, sum_below, power, choose, weight, bernstein}
use Rattle.std.proofs.lemmas.Bool.{cases_lt}
use Rattle.whole_numbers.proofs.RingLemmas.{ring, linear, mul_add_ℤ, zero_mul_ℤ, mul_zero_ℤ, mul_comm_ℤ, mul_left_comm_ℤ, le_mul_ℤ, one_mul_ℤ, add_mul_ℤ, mul_assoc_ℤ}
use Rattle.whole_numbers.proofs.SumLemmas.{sum_below-same, sum_below-add, sum_below-scale, sum_below-first}

-- one of two cases: j is below n, or it is not
pub by_lt : {P : Type 0} (j n : ℕ) → (j < n → P) → (n ≤ j → P) → P
by_lt j n below above = elim (cases_lt j n) [ inl h ↦ below h | inr h ↦ above h ]

-- sums of equal numbers are equal
pub cong_add : {x y z w : ℤ} → x ≡ y → z ≡ w → x +ℤ z ≡ y +ℤ w
cong_add {x} {y} {z} {w} p q = cc

-- nothing is chosen where more is asked for than there is
pub choose_above : (n k : ℕ) → n < k → choose n k ≡ 0
choose_above n zero above = absurd (omega arith)
choose_above zero (suc k) above = refl
choose_above (suc n) (suc k) above = omega (arith, choose_above n k (omega arith), choose_above n (suc k) (omega arith))

-- Pascal's rule for one term, with plain names
split_term : (m n a p u f : ℤ) → (m +ℤ n) *ℤ (a *ℤ p) *ℤ u *ℤ f ≡ a *ℤ (m *ℤ p *ℤ u *ℤ f) +ℤ n *ℤ (a *ℤ p) *ℤ u *ℤ f
split_term m n a p u f = simp ring (omega (arith, linear))

-- a factor is brought to the front
raise_term : (n p u v f : ℤ) → n *ℤ p *ℤ (u *ℤ v) *ℤ f ≡ u *ℤ (n *ℤ p *ℤ v *ℤ f)
raise_term n p u v f = simp ring (omega (arith, linear))

-- a term whose count is 0
no_term : (n : ℕ) (p u f : ℤ) → n ≡ 0 → pos n *ℤ p *ℤ u *ℤ f ≡ pos 0
no_term n p u f none = rw none (simp (zero_mul_ℤ) (omega (arith, linear)))

-- the second part of a term: it has one more power of c - a
rest_term : (n j : ℕ) (a c f : ℤ) → j < suc n →
    pos (choose n (suc j)) *ℤ power a (suc j) *ℤ power (c -ℤ a) (n - j) *ℤ f ≡ (c -ℤ a) *ℤ (weight n (suc j) a c *ℤ f)
rest_term n j a c f within = by_lt j n
    (λ (below : j < n). let e : n - j ≡ suc (n - suc j) = omega arith in
    rw e (raise_term (pos (choose n (suc j))) (power a (suc j)) (c -ℤ a) (power (c -ℤ a) (n - suc j)) f))
    (λ (above : n ≤ j). let none : choose n (suc j) ≡ 0 = choose_above n (suc j) (omega arith) in
    no_term (choose n (suc j)) (power a (suc j)) (power (c -ℤ a) (n - j)) f none
    ∙ sym (ap (λ (x : ℤ). (c -ℤ a) *ℤ x) (no_term (choose n (suc j)) (power a (suc j)) (power (c -ℤ a) (n - suc j)) f none) ∙ mul_zero_ℤ (c -ℤ a)))

-- Pascal's rule for each term but the first
later_term : (n j : ℕ) (a c f : ℤ) → j < suc n →
    weight (suc n) (suc j) a c *ℤ f ≡ a *ℤ (weight n j a c *ℤ f) +ℤ (c -ℤ a) *ℤ (weight n (suc j) a c *ℤ f)
later_term n j a c f within =
    let e : suc n - suc j ≡ n - j = omega arith in
    rw e (split_term (pos (choose n j)) (pos (choose n (suc j))) a (power a j) (power (c -ℤ a) (n - j)) f
    ∙ ap (λ (x : ℤ). a *ℤ (weight n j a c *ℤ f) +ℤ x) (rest_term n j a c f within))

-- the first term has one more power of c - a
first_term : (n : ℕ) (a c f : ℤ) → weight (suc n) 0 a c *ℤ f ≡ (c -ℤ a) *ℤ (weight n 0 a c *ℤ f)
first_term n a c f =
    let e : suc n - 0 ≡ suc (n - 0) = omega arith in
    rw e (raise_term (pos 1) (pos 1) (c -ℤ a) (power (c -ℤ a) (n - 0)) f)

-- The sum of degree n + 1 is c - a times the sum without the last control value, plus a times the sum without the first.
pub bernstein-suc : (n : ℕ) (f : ℕ → ℤ) (a c : ℤ) →
    bernstein (suc n) f a c ≡ (c -ℤ a) *ℤ bernstein n f a c +ℤ a *ℤ bernstein n (λ k. f (suc k)) a c
unfolding bernstein
bernstein-suc n f a c =
    let u : ℤ = c -ℤ a in
    let term : ℕ → ℤ = λ k. weight n k a c *ℤ f k in
    let first : bernstein (suc n) f a c ≡ weight (suc n) 0 a c *ℤ f 0 +ℤ sum_below (suc n) (λ j. weight (suc n) (suc j) a c *ℤ f (suc j)) =
    sum_below-first (suc n) (λ k. weight (suc n) k a c *ℤ f k) in
    let later : sum_below (suc n) (λ j. weight (suc n) (suc j) a c *ℤ f (suc j)) ≡ sum_below (suc n) (λ j. a *ℤ (weight n j a c *ℤ f (suc j)) +ℤ u *ℤ term (suc j)) =
    sum_below-same (suc n) _ _ (λ j small. later_term n j a c (f (suc j)) small) in
    let parts : sum_below (suc n) (λ j. a *ℤ (weight n j a c *ℤ f (suc j)) +ℤ u *ℤ term (suc j))
    ≡ sum_below (suc n) (λ j. a *ℤ (weight n j a c *ℤ f (suc j))) +ℤ sum_below (suc n) (λ j. u *ℤ term (suc j)) =
    sum_below-add (suc n) _ _ in
    let second : sum_below (suc n) (λ j. a *ℤ (weight n j a c *ℤ f (suc j))) ≡ a *ℤ bernstein n (λ k. f (suc k)) a c =
    sum_below-scale (suc n) a _ in
    let third : sum_below (suc n) (λ j. u *ℤ term (suc j)) ≡ u *ℤ sum_below (suc n) (λ j. term (suc j)) =
    sum_below-scale (suc n) u _ in
    let whole : sum_below (suc (suc n)) term ≡ term 0 +ℤ sum_below (suc n) (λ j. term (suc j)) = sum_below-first (suc n) term in
    let top : term (suc n) ≡ pos 0 = no_term (choose n (suc n)) (power a (suc n)) (power u (n - suc n)) (f (suc n)) (choose_above n (suc n) (omega arith)) in
    let start : weight (suc n) 0 a c *ℤ f 0 ≡ u *ℤ term 0 = first_term n a c (f 0) in
    let joined : u *ℤ bernstein n f a c ≡ u *ℤ term 0 +ℤ u *ℤ sum_below (suc n) (λ j. term (suc j)) =
    ap (λ (x : ℤ). u *ℤ x) (omega (arith, linear, whole, top)) ∙ mul_add_ℤ u (term 0) (sum_below (suc n) (λ j. term (suc j))) in
    omega (arith, linear, first, later, parts, second, third, start, joined)

-- degree 0: the one control value
pub bernstein-zero : (f : ℕ → ℤ) (a c : ℤ) → bernstein 0 f a c ≡ f 0
unfolding bernstein
bernstein-zero f a c = omega (arith, ints)

-- the sum depends on no more than its control values
pub bernstein-same : (n : ℕ) (f g : ℕ → ℤ) (a c : ℤ) → ((k : ℕ) → k ≤ n → f k ≡ g k) → bernstein n f a c ≡ bernstein n g a c
unfolding bernstein
bernstein-same n f g a c same =
    sum_below-same (suc n) _ _ (λ k small. ap (λ (x : ℤ). weight n k a c *ℤ x) (same k (omega arith)))

-- the sum of two curves
pub bernstein-add : (n : ℕ) (f g : ℕ → ℤ) (a c : ℤ) → bernstein n (λ k. f k +ℤ g k) a c ≡ bernstein n f a c +ℤ bernstein n g a c
unfolding bernstein
bernstein-add n f g a c =
    sum_below-same (suc n) _ _ (λ k small. mul_add_ℤ (weight n k a c) (f k) (g k)) ∙ sum_below-add (suc n) _ _

-- a multiple of a curve
pub bernstein-scale : (n : ℕ) (x : ℤ) (f : ℕ → ℤ) (a c : ℤ) → bernstein n (λ k. x *ℤ f k) a c ≡ x *ℤ bernstein n f a c
unfolding bernstein
bernstein-scale n x f a c =
    sum_below-same (suc n) _ _ (λ k small. mul_left_comm_ℤ (weight n k a c) x (f k)) ∙ sum_below-scale (suc n) x _

-- a sum of multiples of two curves
pub bernstein-mix : (n : ℕ) (x y : ℤ) (f g : ℕ → ℤ) (a c : ℤ) →
    bernstein n (λ k. x *ℤ f k +ℤ y *ℤ g k) a c ≡ x *ℤ bernstein n f a c +ℤ y *ℤ bernstein n g a c
bernstein-mix n x y f g a c =
    bernstein-add n (λ k. x *ℤ f k) (λ k. y *ℤ g k) a c
    ∙ ap (λ (z : ℤ). z +ℤ bernstein n (λ k. y *ℤ g k) a c) (bernstein-scale n x f a c)
    ∙ ap (λ (z : ℤ). x *ℤ bernstein n f a c +ℤ z) (bernstein-scale n y g a c)

-- ---- the hull
-- one power of c is c - a and a together
split_power : (low a c p : ℤ) → low *ℤ (c *ℤ p) ≡ (c -ℤ a) *ℤ (low *ℤ p) +ℤ a *ℤ (low *ℤ p)
split_power low a c p = simp ring (omega (arith, linear))

-- Where each control value is at least `low`, the sum is at least low c^n.
pub bernstein-at_least : (n : ℕ) (f : ℕ → ℤ) (low a c : ℤ) → pos 0 ≤ℤ a → a ≤ℤ c →
    ((k : ℕ) → k ≤ n → low ≤ℤ f k) → (low *ℤ power c n) ≤ℤ bernstein n f a c
bernstein-at_least zero f low a c positive within above =
    let here : low ≤ℤ f 0 = above 0 (omega arith) in
    omega (arith, linear, bernstein-zero f a c, mul_comm_ℤ low (pos 1))
bernstein-at_least (suc n) f low a c positive within above =
    let u : ℤ = c -ℤ a in
    let front : (low *ℤ power c n) ≤ℤ bernstein n f a c = bernstein-at_least n f low a c positive within (λ k small. above k (omega arith)) in
    let back : (low *ℤ power c n) ≤ℤ bernstein n (λ k. f (suc k)) a c = bernstein-at_least n (λ k. f (suc k)) low a c positive within (λ k small. above (suc k) (omega arith)) in
    let left : (u *ℤ (low *ℤ power c n)) ≤ℤ (u *ℤ bernstein n f a c) = le_mul_ℤ u _ _ (omega (arith, linear)) front in
    let right : (a *ℤ (low *ℤ power c n)) ≤ℤ (a *ℤ bernstein n (λ k. f (suc k)) a c) = le_mul_ℤ a _ _ positive back in
    omega (arith, linear, bernstein-suc n f a c, left, right, split_power low a c (power c n))

-- ---- raising the degree by one
-- the control values of degree n + 1 of (n + 1) times the curve of degree n with control values f 0 to f n
abbrev pub raised_once : ℕ → (ℕ → ℤ) → ℕ → ℤ
raised_once n f k = pos k *ℤ f (k - 1) +ℤ pos (suc n - k) *ℤ f k

-- raising from a degree one higher adds the control value itself
one_more : (n k : ℕ) (f : ℕ → ℤ) → k ≤ suc n → raised_once (suc n) f k ≡ raised_once n f k +ℤ f k
one_more n k f within = let e : suc (suc n) - k ≡ suc (suc n - k) = omega arith in rw e (add_one (pos k *ℤ f (k - 1)) (suc n - k) (f k))
  where
    add_one : (x : ℤ) (m : ℕ) (y : ℤ) → x +ℤ pos (suc m) *ℤ y ≡ (x +ℤ pos m *ℤ y) +ℤ y
    add_one x m y = omega (arith, ints)

-- the same, one place on
one_more_later : (n k : ℕ) (f : ℕ → ℤ) → k ≤ suc n → raised_once (suc n) f (suc k) ≡ raised_once n (λ i. f (suc i)) k +ℤ f k
one_more_later n zero f within =
    let e : suc (suc n) - 1 ≡ suc n - 0 = omega arith in
    rw e (turn (f 0) (pos (suc n - 0) *ℤ f 1) (f (suc (0 - 1))))
  where
    turn : (x y z : ℤ) → pos 1 *ℤ x +ℤ y ≡ (pos 0 *ℤ z +ℤ y) +ℤ x
    turn x y z = omega (arith, linear)
one_more_later n (suc k) f within =
    let e : suc (suc n) - suc (suc k) ≡ suc n - suc k = omega arith in
    let d : suc (suc k) - 1 ≡ suc k = omega arith in
    let b : suc (suc k - 1) ≡ suc k = omega arith in
    rw (e, d, b) (add_one (suc k) (f (suc k)) (pos (suc n - suc k) *ℤ f (suc (suc k))))
  where
    add_one : (m : ℕ) (x y : ℤ) → pos (suc m) *ℤ x +ℤ y ≡ (pos m *ℤ x +ℤ y) +ℤ x
    add_one m x y = omega (arith, ints)

-- the identity that one step of raising rests on
raise_sum : (n u a x y : ℤ) → u *ℤ (n *ℤ ((u +ℤ a) *ℤ x) +ℤ (u *ℤ x +ℤ a *ℤ y)) +ℤ a *ℤ (n *ℤ ((u +ℤ a) *ℤ y) +ℤ (u *ℤ x +ℤ a *ℤ y))
    ≡ (u +ℤ a) *ℤ (u *ℤ x +ℤ a *ℤ y) +ℤ n *ℤ ((u +ℤ a) *ℤ (u *ℤ x +ℤ a *ℤ y))
raise_sum n u a x y = simp ring (omega (arith, linear))

-- the same for c in place of the sum of the two parts
raise_sum_at : (n : ℕ) (u a c x y : ℤ) → u +ℤ a ≡ c →
    u *ℤ (pos n *ℤ (c *ℤ x) +ℤ (u *ℤ x +ℤ a *ℤ y)) +ℤ a *ℤ (pos n *ℤ (c *ℤ y) +ℤ (u *ℤ x +ℤ a *ℤ y)) ≡ pos (suc n) *ℤ (c *ℤ (u *ℤ x +ℤ a *ℤ y))
raise_sum_at n u a c x y e = rw (← e) (raise_sum (pos n) u a x y ∙ one_more_of n ((u +ℤ a) *ℤ (u *ℤ x +ℤ a *ℤ y)))
  where
    one_more_of : (n : ℕ) (q : ℤ) → q +ℤ pos n *ℤ q ≡ pos (suc n) *ℤ q
    one_more_of n q = omega (arith, ints)

-- The sum of degree n + 1 of the raised control values is (n + 1) c times the sum of degree n.
pub bernstein-raised_once : (n : ℕ) (f : ℕ → ℤ) (a c : ℤ) → bernstein (suc n) (raised_once n f) a c ≡ pos (suc n) *ℤ (c *ℤ bernstein n f a c)
bernstein-raised_once zero f a c =
    bernstein-suc 0 (raised_once 0 f) a c
    ∙ cong_add (ap (λ (z : ℤ). (c -ℤ a) *ℤ z) (bernstein-zero (raised_once 0 f) a c ∙ low (f 0)))
    (ap (λ (z : ℤ). a *ℤ z) (bernstein-zero (λ k. raised_once 0 f (suc k)) a c ∙ high (f 0) (f 1)))
    ∙ sum_of (c -ℤ a) a (f 0) ∙ ap (λ (z : ℤ). z *ℤ f 0) (omega (arith, linear)) ∙ sym (one_mul_ℤ (c *ℤ f 0))
    ∙ ap (λ (z : ℤ). pos 1 *ℤ (c *ℤ z)) (sym (bernstein-zero f a c))
  where
    low : (x : ℤ) → pos 0 *ℤ x +ℤ pos 1 *ℤ x ≡ x
    low x = omega (arith, linear)

    high : (x y : ℤ) → pos 1 *ℤ x +ℤ pos 0 *ℤ y ≡ x
    high x y = omega (arith, linear)

    sum_of : (u a x : ℤ) → u *ℤ x +ℤ a *ℤ x ≡ (u +ℤ a) *ℤ x
    sum_of u a x = sym (add_mul_ℤ u a x)
bernstein-raised_once (suc n) f a c =
    let u : ℤ = c -ℤ a in
    let back : ℕ → ℤ = λ i. f (suc i) in
    let x : ℤ = bernstein n f a c in
    let y : ℤ = bernstein n back a c in
    let whole : bernstein (suc n) f a c ≡ u *ℤ x +ℤ a *ℤ y = bernstein-suc n f a c in
    let front_sum : bernstein (suc n) (raised_once (suc n) f) a c ≡ pos (suc n) *ℤ (c *ℤ x) +ℤ (u *ℤ x +ℤ a *ℤ y) =
    bernstein-same (suc n) _ _ a c (λ k small. one_more n k f small) ∙ bernstein-add (suc n) (raised_once n f) f a c
    ∙ cong_add (bernstein-raised_once n f a c) whole in
    let back_sum : bernstein (suc n) (λ k. raised_once (suc n) f (suc k)) a c ≡ pos (suc n) *ℤ (c *ℤ y) +ℤ (u *ℤ x +ℤ a *ℤ y) =
    bernstein-same (suc n) _ _ a c (λ k small. one_more_later n k f small) ∙ bernstein-add (suc n) (raised_once n back) f a c
    ∙ cong_add (bernstein-raised_once n back a c) whole in
    let e : u +ℤ a ≡ c = omega (arith, linear) in
    bernstein-suc (suc n) (raised_once (suc n) f) a c
    ∙ cong_add (ap (λ (z : ℤ). u *ℤ z) front_sum) (ap (λ (z : ℤ). a *ℤ z) back_sum)
    ∙ raise_sum_at (suc n) u a c x y e
    ∙ ap (λ (z : ℤ). pos (suc (suc n)) *ℤ (c *ℤ z)) (sym whole)

-- one step of de Casteljau's rule keeps the sum
pub bernstein-step : (n : ℕ) (f : ℕ → ℤ) (a c : ℤ) → bernstein (suc n) f a c ≡ bernstein n (λ i. (c -ℤ a) *ℤ f i +ℤ a *ℤ f (suc i)) a c
bernstein-step n f a c = bernstein-suc n f a c ∙ sym (bernstein-mix n (c -ℤ a) a f (λ i. f (suc i)) a c)

-- ---- the ends
-- at its beginning the sum is the first control value
pub bernstein-at_zero : (n : ℕ) (f : ℕ → ℤ) (c : ℤ) → bernstein n f (pos 0) c ≡ power c n *ℤ f 0
bernstein-at_zero zero f c = bernstein-zero f (pos 0) c ∙ sym (one_mul_ℤ (f 0))
bernstein-at_zero (suc n) f c =
    bernstein-suc n f (pos 0) c
    ∙ rw (bernstein-at_zero n f c, zero_mul_ℤ (bernstein n (λ k. f (suc k)) (pos 0) c), mul_assoc_ℤ c (power c n) (f 0)) (omega (arith, linear, ap (λ (z : ℤ). z *ℤ (power c n *ℤ f 0)) (minus_zero c)))
  where
    minus_zero : (c : ℤ) → c -ℤ pos 0 ≡ c
    minus_zero c = omega (arith, linear)

-- at its end the sum is the last control value
pub bernstein-at_end : (n : ℕ) (f : ℕ → ℤ) (c : ℤ) → bernstein n f c c ≡ power c n *ℤ f n
bernstein-at_end zero f c = bernstein-zero f c c ∙ sym (one_mul_ℤ (f 0))
bernstein-at_end (suc n) f c =
    bernstein-suc n f c c
    ∙ rw (bernstein-at_end n (λ k. f (suc k)) c, none c, zero_mul_ℤ (bernstein n f c c), mul_assoc_ℤ c (power c n) (f (suc n))) (omega (arith, linear))
  where
    none : (c : ℤ) → c -ℤ c ≡ pos 0
    none c = omega (arith, linear)
