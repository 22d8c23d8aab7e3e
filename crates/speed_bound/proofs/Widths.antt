-- The greatest of some numbers, and the widest steps of the parts of a curve.
use Rattle.speed_bound.proofs.Prelude.{◌≡◌, ℕ, zero, suc, ◌+◌, ◌-◌, ◌*◌, ◌^◌, ◌≤◌, ◌<◌, max, ℤ, pos, arith, refl, sym, ◌∙◌, ap, List, All, get_or_past, All-get_or, at, ints, mul-le, div_ceil_times, common_steps, pow-suc, div_ceil, IsWithin, part_value, by_lt, polar-same, part-whole, part-half, greatest_below}

-- ---- the greatest of some numbers
-- it depends on no more than the numbers
pub greatest-same : (n : ℕ) (f g : ℕ → ℕ) → ((k : ℕ) → k < n → f k ≡ g k) → greatest_below n f ≡ greatest_below n g
greatest-same zero f g same = refl
greatest-same (suc n) f g same = omega (arith, greatest-same n f g (λ k small. same k (omega arith)), same n (omega arith))

-- each is at most the greatest
pub greatest-at : (n : ℕ) (f : ℕ → ℕ) (k : ℕ) → k < n → f k ≤ greatest_below n f
greatest-at zero f k small = absurd (omega arith)
greatest-at (suc n) f k small = last (λ less. greatest-at n f k less) (λ same. ap f same)
  where
    last : (k < n → f k ≤ greatest_below n f) → (k ≡ n → f k ≡ f n) → f k ≤ max (greatest_below n f) (f n)
    last before here = grind (arith, before, here)

-- the greatest is no more than a bound of each
pub greatest-most : (n : ℕ) (f : ℕ → ℕ) (x : ℕ) → ((k : ℕ) → k < n → f k ≤ x) → greatest_below n f ≤ x
greatest-most zero f x most = omega arith
greatest-most (suc n) f x most = omega (arith, greatest-most n f x (λ k small. most k (omega arith)), most n (omega arith))

-- the greatest of two rows together
pub greatest-split : (m n : ℕ) (f : ℕ → ℕ) → greatest_below (m + n) f ≡ max (greatest_below m f) (greatest_below n (λ k. f (m + k)))
greatest-split m zero f = let e : m + 0 ≡ m = omega arith in rw e (omega arith)
greatest-split m (suc n) f = let e : m + suc n ≡ suc (m + n) = omega arith in rw e (omega (arith, greatest-split m n f))

-- what keeps the order of two numbers keeps their greatest
pub greatest-map : (n : ℕ) (f g : ℕ → ℕ) → g 0 ≡ 0 → ((x y : ℕ) → x ≤ y → g x ≤ g y) → greatest_below n (λ k. g (f k)) ≡ g (greatest_below n f)
greatest-map zero f g none grows = sym none
greatest-map (suc n) f g none grows = rw (greatest-map n f g none grows) (both (greatest_below n f) (f n))
  where
    both : (x y : ℕ) → max (g x) (g y) ≡ g (max x y)
    both x y = grind (arith, grows x y, grows y x, ap g (larger x y), ap g (other x y))
      where
        larger : (x y : ℕ) → max x y ≡ max x y
        larger x y = refl

        other : (x y : ℕ) → max x y ≡ max x y
        other x y = refl

-- what bounds each number of a list bounds the one at a place
pub within_at : (m : ℕ) (xs : List ℤ) (k : ℕ) → All (IsWithin (pos m)) xs → IsWithin (pos m) (at xs k)
within_at m xs k all = grind (arith, common_steps, ints, by_lt, All-get_or, pos, get_or_past)

-- ---- what is greatest over the parts of a depth, of a word that depends on eight control values alone
module _ (word : (ℕ → ℤ) → ℕ) (same : (f g : ℕ → ℤ) → ((k : ℕ) → k ≤ 7 → f k ≡ g k) → word f ≡ word g) where
  -- the parts of a half are parts of the whole
  parts-half : (e r : ℕ) (f g : ℕ → ℤ) → ((k : ℕ) → k ≤ 7 → g k ≡ part_value 1 r f k) →
      greatest_below (2 ^ e) (λ index. word (part_value e index g)) ≡ greatest_below (2 ^ e) (λ index. word (part_value (suc e) (2 ^ e * r + index) f))
  parts-half e r f g half =
      greatest-same (2 ^ e) _ _ (λ index small. same _ _
      (λ k low. polar-same (7 - k) k g (part_value 1 r f) (pos index) (pos (index + 1)) (pos (2 ^ e)) (λ i near. half i (omega arith)) ∙ part-half e r index k f low))

  -- it is that of the parts of both halves
  pub parts-halves : (e : ℕ) (f left right : ℕ → ℤ) → ((k : ℕ) → k ≤ 7 → left k ≡ part_value 1 0 f k) → ((k : ℕ) → k ≤ 7 → right k ≡ part_value 1 1 f k) →
      max (greatest_below (2 ^ e) (λ index. word (part_value e index left))) (greatest_below (2 ^ e) (λ index. word (part_value e index right)))
      ≡ greatest_below (2 ^ suc e) (λ index. word (part_value (suc e) index f))
  parts-halves e f left right first second =
      let doubled : 2 ^ suc e ≡ 2 ^ e + 2 ^ e = rw (pow-suc 2 e) (omega arith) in
      rw (doubled)
      (both (parts-half e 0 f left first ∙ greatest-same (2 ^ e) _ _ (λ index small. ap (λ (n : ℕ). word (part_value (suc e) n f)) (front (2 ^ e) index)))
      (parts-half e 1 f right second ∙ greatest-same (2 ^ e) _ _ (λ index small. ap (λ (n : ℕ). word (part_value (suc e) n f)) (back (2 ^ e) index)))
      ∙ sym (greatest-split (2 ^ e) (2 ^ e) (λ index. word (part_value (suc e) index f))))
    where
      both : {x y z w : ℕ} → x ≡ y → z ≡ w → max x z ≡ max y w
      both {x} {y} {z} {w} p q = cc

      front : (p index : ℕ) → p * 0 + index ≡ index
      front p index = omega arith

      back : (p index : ℕ) → p * 1 + index ≡ p + index
      back p index = omega arith

  -- the whole is its own part
  pub parts-whole : (f : ℕ → ℤ) → word f ≡ greatest_below (2 ^ 0) (λ index. word (part_value 0 index f))
  parts-whole f = same f (part_value 0 0 f) (λ k small. sym (part-whole f k)) ∙ omega arith

-- a quotient that is rounded up is the least number that is enough
pub div_ceil-least : (x y b : ℕ) → 0 < b → x ≤ y * b → div_ceil x b ≤ y
div_ceil-least x y b some most = grind (arith, common_steps, by_lt, mul-le, div_ceil_times)
