-- What is read as a quantity is written as one.
use Rattle.choreo_lines.proofs.Prelude.{Ok, Err, in_range, ◌≡◌, ℕ, zero, suc, ℤ, negsuc, ◌+◌, ◌*◌, ◌^◌, ◌<◌, Bool, true, false, cond, List, [], ◌∷◌, ◌++◌, length, take, prefix_len, Option, Some, None, option_map, refl, sym, ap, ◌∙◌, arith, pos, ◌&&◌, ◌==◌, and_parts, eqb-true, take-append-drop, is_digit, natural_of, begins_with_minus, number_of, signed, Measure, measure_of, IsMeasured, IsQuantity, after_digits, fraction_of, front_digits, inl, inr, measured_of, or_zero, point, quantity_of, sign, size_at, size_by, size_of, unit_of, unsigned, NumberFault, OutOfRange, Counts}
use Rattle.std.proofs.lemmas.Grind.{common_steps}
use Rattle.choreo_lines.proofs.Quotients.{exactly_back}

record IsBy (digits_of : Option ℕ) (places : ℕ) (measure_by : Option Measure) (size : ℕ) : Type 0 where
  digits : ℕ
  measure : Measure
  digits_are : digits_of ≡ Some digits
  unit_is : measure_by ≡ Some measure
  size_is : size * (measure.units * 10 ^ places) ≡ digits * measure.counted

is_by : (o : Option ℕ) (places : ℕ) (m : Option Measure) (size : ℕ) → size_by o places m ≡ Some size → IsBy o places m size
is_by None places None size h = absurd (cc)
is_by None places (Some measure) size h = absurd (cc)
is_by (Some digits) places None size h = absurd (cc)
is_by (Some digits) places (Some measure) size h = record {
  digits = digits;
  measure = measure;
  digits_are = refl;
  unit_is = refl;
  size_is = exactly_back (digits * measure.counted) (measure.units * 10 ^ places) size h;
}

-- digits in front, at least one, and what stands after them
record IsAt (counts : Counts) (whole rest : List ℕ) (size : ℕ) : Type 0 where
  some : 0 < length whole
  by : IsBy (natural_of (whole ++ fraction_of rest)) (length (fraction_of rest)) (measure_of counts (unit_of rest)) size

is_at : (counts : Counts) (whole rest : List ℕ) (size : ℕ) → size_at counts whole rest ≡ Some size → IsAt counts whole rest size
is_at counts [] rest size h = absurd (cc)
is_at counts (d ∷ ds) rest size h = record { some = omega arith; by = is_by _ _ _ size h }

pointed : (d n : ℕ) (bs : List ℕ) → point (take (1 + n) (d ∷ bs)) ≡ 46 ∷ take (1 + n) (d ∷ bs)
pointed d n bs = let e : 1 + n ≡ suc n = omega arith in rw e refl

rest_by : (first d : ℕ) (bs : List ℕ) (t : Bool) → (first == 46 && is_digit d) ≡ t
    → first ∷ d ∷ bs ≡ point (cond t (front_digits (d ∷ bs)) []) ++ cond t (after_digits (d ∷ bs)) (first ∷ d ∷ bs)
rest_by first d bs false test = refl
rest_by first d bs true test =
    let p = and_parts (first == 46) (is_digit d) test in
    let cut : front_digits (d ∷ bs) ++ after_digits (d ∷ bs) ≡ d ∷ bs = take-append-drop (prefix_len is_digit (d ∷ bs)) (d ∷ bs) in
    let is : point (front_digits (d ∷ bs)) ≡ 46 ∷ front_digits (d ∷ bs) =
    rw p.1 (pointed d (prefix_len is_digit bs) bs) in
    ap (λ b. b ∷ d ∷ bs) (eqb-true first 46 p.0) ∙ ap (λ t. 46 ∷ t) (sym cut) ∙ ap (λ f. f ++ after_digits (d ∷ bs)) (sym is)

-- what stands after the first digits is a point with digits, or nothing, and a unit
rest_is : (rest : List ℕ) → rest ≡ point (fraction_of rest) ++ unit_of rest
rest_is [] = refl
rest_is (b ∷ []) = refl
rest_is (b ∷ d ∷ bs) = rest_by b d bs (b == 46 && is_digit d) refl

sign_by : (b : ℕ) (bs : List ℕ) (t : Bool) → (b == 45) ≡ t → b ∷ bs ≡ sign t ++ cond t bs (b ∷ bs)
sign_by b bs true is = ap (λ x. x ∷ bs) (eqb-true b 45 is)
sign_by b bs false is = refl

sign_is : (word : List ℕ) → word ≡ sign (begins_with_minus word) ++ unsigned word
sign_is [] = refl
sign_is (b ∷ bs) = sign_by b bs (b == 45) refl

measured_by : (counts : Counts) (word : List ℕ) (o : Option ℕ) (value : ℤ) → size_of counts (unsigned word) ≡ o → option_map (signed (begins_with_minus word)) o ≡ Some value → IsMeasured counts word value
measured_by counts word None value e h = absurd (cc)
measured_by counts word (Some size) value e h =
    let bytes = unsigned word in
    let front = front_digits bytes in
    let rest = after_digits bytes in
    let at = is_at counts front rest size e in
    let cut : front ++ rest ≡ bytes = take-append-drop (prefix_len is_digit bytes) bytes in
    let same : signed (begins_with_minus word) size ≡ value = cc in
    record {
      negative = begins_with_minus word;
      whole = front;
      fraction = fraction_of rest;
      unit = unit_of rest;
      digits = at.by.digits;
      measure = at.by.measure;
      size = size;
      word_is = sign_is word ∙ ap (λ t. sign (begins_with_minus word) ++ t) (sym cut ∙ ap (λ t. front ++ t) (rest_is rest));
      some = at.some;
      digits_are = at.by.digits_are;
      unit_is = at.by.unit_is;
      size_is = at.by.size_is;
      value_is = sym same;
    }

found_by : (counts : Counts) (word : List ℕ) (value : ℤ) (measured number : Option ℤ) → measured_of counts word ≡ measured → number_of word ≡ number → or_zero measured number ≡ Some value → IsQuantity counts word value
found_by counts word value (Some v) number is number_is h = inr (measured_by counts word (size_of counts (unsigned word)) value refl (is ∙ h))
found_by counts word value None (Some (pos zero)) is number_is h = inl (number_is ∙ h, cc)
found_by counts word value None (Some (pos (suc n))) is number_is h = absurd (cc)
found_by counts word value None (Some (negsuc n)) is number_is h = absurd (cc)
found_by counts word value None None is number_is h = absurd (cc)

-- what is found is a quantity
pub found_is_quantity : (counts : Counts) (word : List ℕ) (value : ℤ) → quantity_of counts word ≡ Some value → IsQuantity counts word value
found_is_quantity counts word value h = found_by counts word value (measured_of counts word) (number_of word) refl refl h

-- a number from 0 to 0 is zero alone
pub zero_read : (o : Option ℤ) (x : ℤ) → in_range (pos 0) (pos 0) o ≡ Ok x → or_zero None o ≡ Some (pos 0)
zero_read None x h = absurd (cc)
zero_read (Some (pos zero)) x h = refl
zero_read (Some (pos (suc n))) x h = grind (arith, common_steps)
zero_read (Some (negsuc n)) x h = let clash : Err OutOfRange ≡ Ok x = h in absurd (cc)

-- and no other number is
pub none_read : (o : Option ℤ) (fault : NumberFault) → in_range (pos 0) (pos 0) o ≡ Err fault → or_zero None o ≡ None
none_read None fault h = refl
none_read (Some (pos zero)) fault h = absurd (cc)
none_read (Some (pos (suc n))) fault h = refl
none_read (Some (negsuc n)) fault h = refl
