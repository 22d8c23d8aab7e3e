-- The triangle of de Casteljau's rule, and its two edges.
use Rattle.bezier_core.proofs.Prelude.{◌≡◌, inl, inr, refl, ℕ, zero, suc, ◌≤◌, ◌+◌, ◌-◌, ◌*◌, ◌^◌, ℤ, pos, ◌+ℤ◌, ◌*ℤ◌, ◌≤ℤ◌, arith, sym, subst, ◌∙◌, ap, All, List, lit<, ints, mul-le-mul_right, mul_assoc, pow-le-pow_right, power, at, bernstein, linear, one_mul_ℤ, mul_assoc_ℤ, bernstein-zero, bernstein-same, bernstein-scale, bernstein-suc, bernstein-at_zero, bernstein-at_end, IsBelow, IsWithin, polar, part_value, pow-add, power-add, IsWord}
use Rattle.bezier_core.proofs.EightLemmas.{below_at}
use Rattle.bezier_core.proofs.BlendLemmas.{within_blend, within_mul, power_pos}

-- the sums of a row keep a bound, scaled
pub bernstein-within : (n : ℕ) (f : ℕ → ℤ) (m a c : ℤ) → pos 0 ≤ℤ a → a ≤ℤ c → ((k : ℕ) → k ≤ n → IsWithin m (f k)) → IsWithin (power c n *ℤ m) (bernstein n f a c)
bernstein-within zero f m a c positive within small = rw (bernstein-zero f a c, one_mul_ℤ m) (small 0 (omega arith))
bernstein-within (suc n) f m a c positive within small =
    rw (bernstein-suc n f a c, mul_assoc_ℤ c (power c n) m)
    (within_blend a c (power c n *ℤ m) (bernstein n f a c) (bernstein n (λ k. f (suc k)) a c) positive within
    (bernstein-within n f m a c positive within (λ k low. small k (omega arith)))
    (bernstein-within n (λ k. f (suc k)) m a c positive within (λ k low. small (suc k) (omega arith))))

-- the halves keep a bound, 2 ^ 7 times
two_powers : (k : ℕ) → k ≤ 7 → power (pos 2) (7 - k) *ℤ power (pos 2) k ≡ pos 128
two_powers k small = let e : 7 - k + k ≡ 7 = omega arith in sym (power-add (pos 2) (7 - k) k) ∙ ap (λ (n : ℕ). power (pos 2) n) e

pub half_below : (m n k : ℕ) (f : ℕ → ℤ) → m ≤ 1 → 1 ≤ n → k ≤ 7 → ((i : ℕ) → i ≤ 7 → IsBelow n (f i)) → IsBelow (2 ^ 7 * n) (part_value 1 m f k)
unfolding polar
half_below m n k f half some small below =
    let inner : (i : ℕ) → i ≤ 7 - k → IsWithin (power (pos 2) k *ℤ pos (n - 1)) (bernstein k (λ l. f (i + l)) (pos (m + 1)) (pos 2)) =
    λ i low. bernstein-within k (λ l. f (i + l)) (pos (n - 1)) (pos (m + 1)) (pos 2) (omega (arith, ints)) (omega (arith, ints)) (λ l few. loose (f (i + l)) (below (i + l) (omega arith))) in
    let outer : IsWithin (power (pos 2) (7 - k) *ℤ (power (pos 2) k *ℤ pos (n - 1))) (part_value 1 m f k) =
    bernstein-within (7 - k) (λ i. bernstein k (λ l. f (i + l)) (pos (m + 1)) (pos 2)) (power (pos 2) k *ℤ pos (n - 1)) (pos m) (pos 2) (omega (arith, ints)) (omega (arith, ints)) inner in
    let e : power (pos 2) (7 - k) *ℤ (power (pos 2) k *ℤ pos (n - 1)) ≡ pos 128 *ℤ pos (n - 1) =
    sym (mul_assoc_ℤ (power (pos 2) (7 - k)) (power (pos 2) k) (pos (n - 1))) ∙ ap (λ (z : ℤ). z *ℤ pos (n - 1)) (two_powers k small) in
    close (part_value 1 m f k) (subst (λ (z : ℤ). IsWithin z (part_value 1 m f k)) e outer)
  where
    loose : (x : ℤ) → IsBelow n x → IsWithin (pos (n - 1)) x
    loose x near = (omega (arith, ints), omega (arith, ints))

    close : (x : ℤ) → IsWithin (pos 128 *ℤ pos (n - 1)) x → IsBelow (2 ^ 7 * n) x
    close x within = (omega (arith, ints), omega (arith, ints))

-- the next row
pub row_after : (k i : ℕ) (f : ℕ → ℤ) → bernstein (k + 1) (λ j. f (i + j)) (pos 1) (pos 2) ≡ bernstein k (λ j. f (i + j)) (pos 1) (pos 2) +ℤ bernstein k (λ j. f (i + 1 + j)) (pos 1) (pos 2)
row_after k i f =
    let e : k + 1 ≡ suc k = omega arith in
    rw e (bernstein-suc k (λ j. f (i + j)) (pos 1) (pos 2)
    ∙ ap (λ (z : ℤ). pos 1 *ℤ bernstein k (λ j. f (i + j)) (pos 1) (pos 2) +ℤ pos 1 *ℤ z) (bernstein-same k _ (λ j. f (i + 1 + j)) (pos 1) (pos 2) (λ j low. ap f (omega arith)))
    ∙ omega (arith, linear))

-- the left edge
pub left_edge : (k : ℕ) (f : ℕ → ℤ) → pos (2 ^ (7 - k)) *ℤ bernstein k (λ j. f (0 + j)) (pos 1) (pos 2) ≡ part_value 1 0 f k
unfolding polar
left_edge k f = sym (bernstein-at_zero (7 - k) (λ i. bernstein k (λ l. f (i + l)) (pos 1) (pos 2)) (pos 2) ∙ ap (λ (z : ℤ). z *ℤ bernstein k (λ j. f (0 + j)) (pos 1) (pos 2)) (power_pos 2 (7 - k)))

-- the right edge
pub right_edge : (k : ℕ) (f : ℕ → ℤ) → k ≤ 7 → pos (2 ^ (7 - k)) *ℤ bernstein k (λ j. f (7 - k + j)) (pos 1) (pos 2) ≡ part_value 1 1 f (7 - k)
unfolding polar
right_edge k f within =
    let e : 7 - (7 - k) ≡ k = omega arith in
    rw e (sym (
    bernstein-same k _ (λ i. power (pos 2) (7 - k) *ℤ f (7 - k + i)) (pos 1) (pos 2)
    (λ i low. bernstein-at_end (7 - k) (λ l. f (i + l)) (pos 2) ∙ ap (λ (n : ℕ). power (pos 2) (7 - k) *ℤ f n) (omega arith))
    ∙ bernstein-scale k (power (pos 2) (7 - k)) (λ j. f (7 - k + j)) (pos 1) (pos 2)
    ∙ ap (λ (z : ℤ). z *ℤ bernstein k (λ j. f (7 - k + j)) (pos 1) (pos 2)) (power_pos 2 (7 - k))))

-- ---- bounds
-- the values of a row are bounded by as many doublings as there were rows
row_within : (k i n : ℕ) (b : List ℤ) → 1 ≤ n → All (IsBelow n) b → IsWithin (pos (2 ^ k * n)) (bernstein k (λ j. at b (i + j)) (pos 1) (pos 2))
row_within k i n b some small =
    rw (sym (ap (λ (z : ℤ). z *ℤ pos n) (power_pos 2 k)))
    (bernstein-within k (λ j. at b (i + j)) (pos n) (pos 1) (pos 2) (omega (arith, linear)) (omega (arith, linear))
    (λ j low. loose _ (below_at n b (i + j) some small)))
  where
    loose : (x : ℤ) → IsBelow n x → IsWithin (pos n) x
    loose x below = (omega (arith, linear), omega (arith, linear))

-- what seven doublings give of a bound for numbers of so many bits
room_of : (bits : ℕ) → IsWord bits → 2 ^ 7 * 2 ^ (bits - 10) ≡ 2 ^ (bits - 3)
room_of bits word = elim word [ inl is ↦ rw is refl | inr is ↦ rw is refl ]

some_of : (bits : ℕ) → IsWord bits → 1 ≤ 2 ^ (bits - 10)
some_of bits word = elim word [ inl is ↦ rw is (lit< tt) | inr is ↦ rw is (lit< tt) ]

more_of : (bits : ℕ) → IsWord bits → 2 ^ (bits - 3) ≤ 2 ^ (bits - 2)
more_of bits word = pow-le-pow_right {n = 2} (lit< tt) (omega arith)

-- a row's value has room for the sum with its neighbour
pub row_small : (bits k i : ℕ) (b : List ℤ) → IsWord bits → k ≤ 7 → All (IsBelow (2 ^ (bits - 10))) b → IsWithin (pos (2 ^ (bits - 3))) (bernstein k (λ j. at b (i + j)) (pos 1) (pos 2))
row_small bits k i b word few small =
    let whole : 2 ^ k * 2 ^ (bits - 10) ≤ 2 ^ (bits - 3) = rw (sym (room_of bits word)) (mul-le-mul_right (2 ^ (bits - 10)) (pow-le-pow_right {n = 2} (lit< tt) few)) in
    wider _ _ whole (row_within k i (2 ^ (bits - 10)) b (some_of bits word) small)
  where
    wider : (p q : ℕ) {x : ℤ} → p ≤ q → IsWithin (pos p) x → IsWithin (pos q) x
    wider p q more within = (omega (arith, ints), omega (arith, ints))

-- a row's value has room for the doublings that are left
pub row_room : (bits k i : ℕ) (b : List ℤ) → IsWord bits → k ≤ 7 → All (IsBelow (2 ^ (bits - 10))) b → IsWithin (pos (2 ^ (bits - 2))) (pos (2 ^ (7 - k)) *ℤ bernstein k (λ j. at b (i + j)) (pos 1) (pos 2))
row_room bits k i b word few small =
    let e : 7 - k + k ≡ 7 = omega arith in
    let whole : 2 ^ (7 - k) * 2 ^ k ≡ 2 ^ 7 = sym (pow-add 2 (7 - k) k) ∙ ap (λ (n : ℕ). 2 ^ n) e in
    close (2 ^ (7 - k)) (2 ^ k) (2 ^ (bits - 10)) (2 ^ (bits - 2)) _ whole (rw (room_of bits word) (more_of bits word))
    (within_mul (pos (2 ^ (7 - k))) (pos (2 ^ k * 2 ^ (bits - 10))) _ (omega (arith, linear)) (row_within k i (2 ^ (bits - 10)) b (some_of bits word) small))
  where
    close : (p q n most : ℕ) (x : ℤ) → p * q ≡ 2 ^ 7 → 2 ^ 7 * n ≤ most → IsWithin (pos (p * (q * n))) x → IsWithin (pos most) x
    close p q n most x whole more within =
        let e : p * (q * n) ≡ 2 ^ 7 * n = sym (mul_assoc p q n) ∙ ap (λ (m : ℕ). m * n) whole in
        (omega (arith, ints), omega (arith, ints))
