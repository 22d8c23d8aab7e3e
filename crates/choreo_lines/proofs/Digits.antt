-- Numbers of decimal digits.
use Rattle.choreo_lines.proofs.Prelude.{◌≡◌, ℕ, zero, suc, add-one, drop, drop-cons, get_or, min, ◌+◌, ◌-◌, ◌*◌, ◌^◌, ◌<◌, ◌≤◌, Bool, true, false, List, [], ◌∷◌, ◌++◌, length, take, Some, refl, sym, ap, ◌∙◌, arith, and_parts, ◌&&◌, cond, list_all, prefix_len, is_digit, digits_after, AreDigits, number_after, list_all-append, list_all_at, mul_assoc, pow-suc, nat_tests, begins_with_fraction, front_digits, fraction_of}

pub digits_are : (n : ℕ) (ds : List ℕ) → AreDigits ds → digits_after n ds ≡ Some (number_after n ds)
digits_are n [] h = refl
digits_are n (d ∷ ds) h =
    let p = and_parts (is_digit d) (list_all is_digit ds) h in
    rw p.0 (digits_are (10 * n + (d - 48)) ds p.1)

pub digits_joined : (xs ys : List ℕ) → AreDigits xs → AreDigits ys → AreDigits (xs ++ ys)
digits_joined xs ys first second = list_all-append is_digit xs ys ∙ ap (λ b. b && list_all is_digit ys) first ∙ second

pub digits_drop : (k : ℕ) (ds : List ℕ) → AreDigits ds → AreDigits (drop k ds)
digits_drop zero ds h = h
digits_drop (suc k) [] h = refl
digits_drop (suc k) (d ∷ ds) h = digits_drop k ds (and_parts (is_digit d) (list_all is_digit ds) h).1

pub digit_small : (d : ℕ) → is_digit d ≡ true → d - 48 ≤ 9
digit_small d h = grind (arith, nat_tests)

pub digit_over : (d : ℕ) → is_digit d ≡ true → (d ≡ 48 → ⊥) → 0 < d - 48
digit_over d h other = grind (arith, nat_tests)

digit_by : (ds : List ℕ) (i : ℕ) (b : Bool) → is_digit (get_or ds i 0) ≡ b → i < length ds → AreDigits ds → b ≡ true
digit_by ds i true is lt h = refl
digit_by ds i false is lt h = let e = list_all_at is_digit ds i 0 lt is in cc

-- each of some digits is one
pub digit_is : (ds : List ℕ) (i : ℕ) → i < length ds → AreDigits ds → is_digit (get_or ds i 0) ≡ true
digit_is ds i lt h = digit_by ds i (is_digit (get_or ds i 0)) refl lt h

front_if : (t : Bool) (b : ℕ) (bs : List ℕ) → is_digit b ≡ t → AreDigits (front_digits bs) → AreDigits (take (cond t (1 + prefix_len is_digit bs) 0) (b ∷ bs))
front_if true b bs is later =
    let e : 1 + prefix_len is_digit bs ≡ suc (prefix_len is_digit bs) = omega arith in
    rw e (ap (λ x. x && list_all is_digit (front_digits bs)) is ∙ later)
front_if false b bs is later = refl

-- the digits in front are digits
pub front_passes : (bytes : List ℕ) → AreDigits (front_digits bytes)
front_passes [] = refl
front_passes (b ∷ bs) = front_if (is_digit b) b bs refl (front_passes bs)

-- and so are those after the point
pub fraction_passes : (rest : List ℕ) → AreDigits (fraction_of rest)
fraction_passes rest = by (begins_with_fraction rest)
  where
    by : (t : Bool) → AreDigits (cond t (front_digits (drop 1 rest)) [])
    by true = front_passes (drop 1 rest)
    by false = refl

pub power_some : (k : ℕ) → 0 < 10 ^ k
power_some zero = omega arith
power_some (suc k) = let e = pow-suc 10 k in omega (arith, power_some k)

-- one more zero
pub times_ten : (n k : ℕ) → n * 10 ^ suc k ≡ n * 10 ^ k * 10
times_ten n k = ap (λ x. n * x) (pow-suc 10 k) ∙ sym (mul_assoc n (10 ^ k) 10)

-- one more digit
pub number_more : (m i : ℕ) (ds : List ℕ) → i < length ds → number_after m (drop i ds) ≡ number_after (10 * m + (get_or ds i 0 - 48)) (drop (i + 1) ds)
number_more m i ds lt = rw (drop-cons ds i 0 lt, add-one) refl

pub zero_more : (kept k n most : ℕ) → n ≡ min (kept * 10 ^ k) most → min (10 * n) most ≡ min (kept * 10 ^ (k + 1)) most
zero_more kept k n most is = rw add-one (let e = times_ten kept k in omega (arith, is))
