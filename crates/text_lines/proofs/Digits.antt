-- Decimal digits that are read from a place on.
use Rattle.text_lines.proofs.Prelude.{◌≡◌, ℕ, ◌+◌, ◌-◌, ◌*◌, ◌<◌, ◌≤◌, Bool, true, false, ◌&&◌, List, [], ◌∷◌, length, get_or, drop, drop-cons, drop_all, add-one, refl, ap, ◌∙◌, arith, min, Some, is_digit, digits_after, natural_of, are_digits_at, number_at}

both : (a b : Bool) → (a && b) ≡ true → (a ≡ true) × (b ≡ true)
both true b h = (refl, h)
both false b h = absurd (cc)

-- a digit goes behind those before it
pub digit_more : (m i j : ℕ) (w : List ℕ) → i < length w → j ≡ i + 1 → is_digit (get_or w i 0) ≡ true → digits_after m (drop i w) ≡ digits_after (10 * m + (get_or w i 0 - 48)) (drop j w)
digit_more m i j w lt next is = rw (drop-cons w i 0 lt, is, next, add-one) refl

-- after the last byte there are no more digits
pub digits_end : (m i : ℕ) (w : List ℕ) → length w ≤ i → digits_after m (drop i w) ≡ Some m
digits_end m i w all = ap (digits_after m) (drop_all i w all)

-- a word without its first byte is read as its first digit and then the others
pub natural_digits : (w : List ℕ) → 0 < length w → natural_of w ≡ digits_after 0 (drop 0 w)
natural_digits [] some = absurd (omega arith)
natural_digits (d ∷ ds) some = refl

-- four digits go behind those before them
pub four_more : (m k : ℕ) (w : List ℕ) → k + 4 ≤ length w → are_digits_at w k ≡ true → digits_after m (drop k w) ≡ digits_after (10000 * m + number_at w k) (drop (k + 4) w)
four_more m k w within are =
    let first = both _ _ are in
    let second = both _ _ first.1 in
    let third = both _ _ second.1 in
    let a : ℕ = get_or w k 0 - 48 in
    let b : ℕ = get_or w (k + 1) 0 - 48 in
    let c : ℕ = get_or w (k + 2) 0 - 48 in
    let d : ℕ = get_or w (k + 3) 0 - 48 in
    digit_more m k (k + 1) w (omega arith) (omega arith) first.0
    ∙ digit_more (10 * m + a) (k + 1) (k + 2) w (omega arith) (omega arith) second.0
    ∙ digit_more (10 * (10 * m + a) + b) (k + 2) (k + 3) w (omega arith) (omega arith) third.0
    ∙ digit_more (10 * (10 * (10 * m + a) + b) + c) (k + 3) (k + 4) w (omega arith) (omega arith) third.1
    ∙ ap (λ (n : ℕ). digits_after n (drop (k + 4) w)) (sum_of m a b c d)
  where
    sum_of : (m a b c d : ℕ) → 10 * (10 * (10 * (10 * m + a) + b) + c) + d ≡ 10000 * m + (1000 * a + 100 * b + 10 * c + d)
    sum_of m a b c d = omega arith

-- the same up to a number that stands for all that are greater
pub capped_one : (m n e most : ℕ) → n ≡ min m most → min (10 * n + e) most ≡ min (10 * m + e) most
capped_one m n e most is = omega (arith, is)
