-- Differences of control values: those of a part by those of the whole, and the widest of them.
use Rattle.speed_bound.proofs.Prelude.{◌≡◌, ℕ, zero, suc, ◌+◌, ◌-◌, ◌*◌, ◌^◌, ◌≤◌, ◌<◌, max, ℤ, pos, ◌+ℤ◌, ◌-ℤ◌, ◌*ℤ◌, unsigned_abs, arith, ring, linear, refl, sym, ◌∙◌, ap, ints, pow-add, pow-suc, power, one_mul_ℤ, IsWithin, polar, part_value, part-half, part-whole, differences, widest, widest_in}
use Rattle.speed_bound.proofs.Slopes.{exchange, minus_same, polar-within, within_same}
use Rattle.speed_bound.proofs.Widths.{greatest-at, greatest-most, greatest-same, parts-halves, parts-whole}

-- they depend on no more than the control values
pub differences-same : (order i : ℕ) (f g : ℕ → ℤ) → ((k : ℕ) → k ≤ i + order → f k ≡ g k) → differences order f i ≡ differences order g i
differences-same zero i f g same = same i (omega arith)
differences-same (suc order) i f g same =
    minus_same (differences-same order (suc i) f g (λ k low. same k (omega arith))) (differences-same order i f g (λ k low. same k (omega arith)))

-- what an exchange leaves between two values of the polar form
polar_step : (x y z b d : ℤ) → x ≡ y +ℤ (b -ℤ d) *ℤ z → y -ℤ x ≡ (d -ℤ b) *ℤ z
polar_step x y z b d e = rw e (expand y z b d)
  where
    expand : (y z b d : ℤ) → y -ℤ (y +ℤ (b -ℤ d) *ℤ z) ≡ (d -ℤ b) *ℤ z
    expand y z b d = simp ring (omega (arith, linear))

-- Those of a part are those of the whole, as control values of the part of a curve of lower degree.
pub differences-part : (order n e m k : ℕ) (f : ℕ → ℤ) → order + (n + k) ≡ 7 → differences order (part_value e m f) k ≡ polar n k (differences order f) (pos m) (pos (m + 1)) (pos (2 ^ e))
differences-part zero n e m k f count = let same : 7 - k ≡ n = omega arith in ap (λ (i : ℕ). polar i k f (pos m) (pos (m + 1)) (pos (2 ^ e))) same
differences-part (suc order) n e m k f count =
    minus_same (differences-part order n e m (suc k) f (omega arith)) (differences-part order (suc n) e m k f (omega arith))
    ∙ polar_step _ _ _ (pos m) (pos (m + 1)) (exchange n k (differences order f) (pos m) (pos (m + 1)) (pos (2 ^ e)))
    ∙ one (polar n k (differences (suc order) f) (pos m) (pos (m + 1)) (pos (2 ^ e)))
  where
    one : (z : ℤ) → (pos (m + 1) -ℤ pos m) *ℤ z ≡ z
    one z = let e : pos (m + 1) -ℤ pos m ≡ pos 1 = omega (arith, ints) in rw e (one_mul_ℤ z)

-- ---- how wide they are
power_two : (n e : ℕ) → power (pos (2 ^ e)) n ≡ pos (2 ^ (n * e))
power_two zero e = let none : 0 * e ≡ 0 = omega arith in rw none refl
power_two (suc n) e = let more : suc n * e ≡ n * e + e = omega arith in rw (more, pow-add 2 (n * e) e, power_two n e) (omega (arith, ints))

-- a number by its size
pub within_abs : (x : ℤ) (n : ℕ) → unsigned_abs x ≤ n → IsWithin (pos n) x
within_abs x n most = (omega (arith, ints), omega (arith, ints))

size : (p w : ℕ) (x : ℤ) → IsWithin (pos p *ℤ pos w) x → unsigned_abs x ≤ p * w
size p w x within = omega (arith, ints, within.0, within.1)

-- each is at most the widest
each_within : (order i : ℕ) (f : ℕ → ℤ) → i + order ≤ 7 → IsWithin (pos (widest order f)) (differences order f i)
unfolding widest
each_within order i f inside = within_abs (differences order f i) _ (greatest-at (8 - order) (λ k. unsigned_abs (differences order f k)) i (omega arith))

-- Those of a part are at most 2^((7 - order) e) times as wide as those of the whole.
widest-part : (order e m : ℕ) (f : ℕ → ℤ) → order ≤ 7 → m < 2 ^ e → widest order (part_value e m f) ≤ 2 ^ ((7 - order) * e) * widest order f
unfolding widest
widest-part order e m f low inside =
    greatest-most (8 - order) _ _ (λ k small. size (2 ^ ((7 - order) * e)) (widest order f) (differences order (part_value e m f) k) (one k (omega arith)))
  where
    one : (k : ℕ) → k + order ≤ 7 → IsWithin (pos (2 ^ ((7 - order) * e)) *ℤ pos (widest order f)) (differences order (part_value e m f) k)
    one k small =
        let count : 7 - order - k + k ≡ 7 - order = omega arith in
        within_same (ap (λ (n : ℕ). power (pos (2 ^ e)) n *ℤ pos (widest order f)) count ∙ ap (λ (z : ℤ). z *ℤ pos (widest order f)) (power_two (7 - order) e))
        (sym (differences-part order (7 - order - k) e m k f (omega arith)))
        (polar-within (7 - order - k) k (differences order f) (pos (widest order f)) (pos m) (pos (m + 1)) (pos (2 ^ e)) (omega (arith, ints)) (omega (arith, ints)) (omega (arith, ints)) (omega (arith, ints))
        (λ i near. each_within order i f (omega arith)))

pub widest-most : (order e : ℕ) (f : ℕ → ℤ) → order ≤ 7 → widest_in order e f ≤ 2 ^ ((7 - order) * e) * widest order f
unfolding widest_in
widest-most order e f low = greatest-most (2 ^ e) _ _ (λ m inside. widest-part order e m f low inside)

-- those of small numbers
pub widest-small : (order b : ℕ) (f : ℕ → ℤ) → ((k : ℕ) → k ≤ 7 → IsWithin (pos b) (f k)) → widest order f ≤ 2 ^ order * b
unfolding widest
widest-small order b f within = greatest-most (8 - order) _ _ (λ i small. size (2 ^ order) b _ (each order i (omega arith)))
  where
    each : (order i : ℕ) → i + order ≤ 7 → IsWithin (pos (2 ^ order) *ℤ pos b) (differences order f i)
    each zero i small = let one : pos (2 ^ 0) *ℤ pos b ≡ pos b = omega (arith, ints) in rw one (within i (omega arith))
    each (suc order) i small = rw (pow-suc 2 order) (twice (2 ^ order) b _ _ (each order (suc i) (omega arith)) (each order i (omega arith)))
      where
        twice : (p b : ℕ) (x y : ℤ) → IsWithin (pos p *ℤ pos b) x → IsWithin (pos p *ℤ pos b) y → IsWithin (pos (p * 2) *ℤ pos b) (x -ℤ y)
        twice p b x y first second = (omega (arith, ints, first.0, second.1), omega (arith, ints, first.1, second.0))

-- ---- those of the parts of a depth
pub widest-same : (order : ℕ) (f g : ℕ → ℤ) → ((k : ℕ) → k ≤ 7 → f k ≡ g k) → widest order f ≡ widest order g
unfolding widest
widest-same order f g same = greatest-same (8 - order) _ _ (λ i small. ap unsigned_abs (differences-same order i f g (λ k low. same k (omega arith))))

pub widest-halves : (order e : ℕ) (f left right : ℕ → ℤ) → ((k : ℕ) → k ≤ 7 → left k ≡ part_value 1 0 f k) → ((k : ℕ) → k ≤ 7 → right k ≡ part_value 1 1 f k) →
    max (widest_in order e left) (widest_in order e right) ≡ widest_in order (suc e) f
unfolding widest_in
widest-halves order = parts-halves (widest order) (widest-same order)

-- the whole is its own part
pub widest-whole : (order : ℕ) (f : ℕ → ℤ) → widest order f ≡ widest_in order 0 f
unfolding widest_in
widest-whole order = parts-whole (widest order) (widest-same order)

-- each difference of a part is within a bound
abbrev pub AreWithin : ℕ → ℕ → (ℕ → ℤ) → ℤ → Type 0
AreWithin order e f m = (index : ℕ) → index < 2 ^ e → (k : ℕ) → k + order ≤ 7 → IsWithin m (differences order (part_value e index f) k)

pub within-half : (order e r : ℕ) (f : ℕ → ℤ) (m : ℤ) → r ≤ 1 → AreWithin order (suc e) f m → AreWithin order e (part_value 1 r f) m
within-half order e r f m side within index inside k small =
    within_same refl (sym (differences-same order k _ _ (λ l low. part-half e r index l f (omega arith)))) (within (2 ^ e * r + index) (bound r side) k small)
  where
    bound : (r : ℕ) → r ≤ 1 → 2 ^ e * r + index < 2 ^ suc e
    bound zero side = rw (pow-suc 2 e) (omega arith)
    bound (suc zero) side = rw (pow-suc 2 e) (omega arith)
    bound (suc (suc r)) side = absurd (omega arith)

pub within-whole : (order k : ℕ) (f : ℕ → ℤ) (m : ℤ) → AreWithin order 0 f m → k + order ≤ 7 → IsWithin m (differences order f k)
within-whole order k f m within small = within_same refl (differences-same order k _ _ (λ l low. part-whole f l)) (within 0 (omega arith) k small)

-- each is at most the widest of all parts
pub all_within : (order e : ℕ) (f : ℕ → ℤ) → AreWithin order e f (pos (widest_in order e f))
unfolding widest_in
all_within order e f index inside k small =
    wider _ _ _ (greatest-at (2 ^ e) (λ i. widest order (part_value e i f)) index inside) (each_within order k (part_value e index f) small)
  where
    wider : (m n : ℕ) (x : ℤ) → m ≤ n → IsWithin (pos m) x → IsWithin (pos n) x
    wider m n x less within = (omega (arith, ints, within.0), omega (arith, ints, within.1))
