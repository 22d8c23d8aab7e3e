-- What is written as a quantity is read as its value.
use Rattle.choreo_lines.proofs.Prelude.{◌≡◌, ℕ, ℤ, suc, ◌+◌, ◌-◌, ◌*◌, ◌^◌, ◌<◌, Bool, true, false, cond, List, [], ◌∷◌, ◌++◌, append-nil, length, take, drop, Option, Some, None, option_map, refl, sym, ap, ◌∙◌, arith, ◌&&◌, ◌==◌, and_parts, list_all, list_all-append, prefix_len, is_digit, digits_after, natural_of, begins_with_minus, number_of, signed, AreDigits, Measure, measure_of, IsMeasured, IsQuantity, after_digits, begins_with_fraction, fraction_of, front_digits, inl, inr, measured_of, or_zero, point, quantity_of, sign, size_at, size_by, size_of, unit_of, unsigned, nat_le, nat_tests, Counts, Micrometres, Millimetres, Milliseconds, TenthsOfADegree}
use Rattle.std.proofs.Math.Seq.{take-append_seam, drop-append_seam}
use Rattle.choreo_lines.proofs.Digits.{power_some}
use Rattle.choreo_lines.proofs.Quotients.{exactly_is}
use Rattle.choreo_lines.proofs.Moves.{product_some}
use Rattle.choreo_lines.proofs.Sizes.{no_size}
use Rattle.choreo_lines.proofs.UnitLemmas.{IsLettered, is_unit}

-- A number has digits alone.

digits_back_by : (b : Bool) (n d : ℕ) (ds : List ℕ) (m : ℕ) → is_digit d ≡ b → (digits_after (10 * n + (d - 48)) ds ≡ Some m → AreDigits ds)
    → cond b (digits_after (10 * n + (d - 48)) ds) None ≡ Some m → AreDigits (d ∷ ds)
digits_back_by true n d ds m e later h = ap (λ t. t && list_all is_digit ds) e ∙ later h
digits_back_by false n d ds m e later h = absurd (cc)

digits_back : (n : ℕ) (ds : List ℕ) (m : ℕ) → digits_after n ds ≡ Some m → AreDigits ds
digits_back n [] m h = refl
digits_back n (d ∷ ds) m h = digits_back_by (is_digit d) n d ds m refl (digits_back (10 * n + (d - 48)) ds m) h

natural_digits : (ds : List ℕ) (m : ℕ) → natural_of ds ≡ Some m → AreDigits ds
natural_digits [] m h = refl
natural_digits (d ∷ ds) m h = digits_back 0 (d ∷ ds) m h

-- Digits in front of what begins with none.

prefix_is : (ds tail : List ℕ) → AreDigits ds → prefix_len is_digit tail ≡ 0 → prefix_len is_digit (ds ++ tail) ≡ length ds
prefix_is [] tail h none = none
prefix_is (d ∷ ds) tail h none =
    let p = and_parts (is_digit d) (list_all is_digit ds) h in
    let later : prefix_len is_digit (ds ++ tail) ≡ length ds = prefix_is ds tail p.1 none in
    let more : 1 + prefix_len is_digit (ds ++ tail) ≡ suc (length ds) = omega arith in
    ap (λ (b : Bool). cond b (1 + prefix_len is_digit (ds ++ tail)) 0) p.0 ∙ more

front_is : (ds tail : List ℕ) → AreDigits ds → prefix_len is_digit tail ≡ 0 → front_digits (ds ++ tail) ≡ ds
front_is ds tail h none = ap (λ n. take n (ds ++ tail)) (prefix_is ds tail h none) ∙ take-append_seam ds tail

after_is : (ds tail : List ℕ) → AreDigits ds → prefix_len is_digit tail ≡ 0 → after_digits (ds ++ tail) ≡ tail
after_is ds tail h none = ap (λ n. drop n (ds ++ tail)) (prefix_is ds tail h none) ∙ drop-append_seam ds tail

letter_no_digit : (b : ℕ) → nat_le 97 b ≡ true → is_digit b ≡ false
letter_no_digit b h = grind (arith, nat_tests)

letter_no_point : (b : ℕ) → nat_le 97 b ≡ true → (b == 46) ≡ false
letter_no_point b h = grind (arith, nat_tests)

unit_stops : (unit : List ℕ) → IsLettered unit → prefix_len is_digit unit ≡ 0
unit_stops [] letter = absurd (cc)
unit_stops (b ∷ bs) letter = ap (λ (t : Bool). cond t (1 + prefix_len is_digit bs) 0) (letter_no_digit b letter)

tail_stops : (fraction unit : List ℕ) → IsLettered unit → prefix_len is_digit (point fraction ++ unit) ≡ 0
tail_stops [] unit letter = unit_stops unit letter
tail_stops (d ∷ ds) unit letter = refl

-- A word without its sign.

no_fraction : (unit : List ℕ) → IsLettered unit → begins_with_fraction unit ≡ false
no_fraction [] letter = refl
no_fraction (b ∷ []) letter = refl
no_fraction (b ∷ d ∷ bs) letter = ap (λ t. t && is_digit d) (letter_no_point b letter)

fraction_is : (fraction unit : List ℕ) → AreDigits fraction → IsLettered unit → fraction_of (point fraction ++ unit) ≡ fraction
fraction_is [] unit h letter = ap (λ t. cond t (front_digits (drop 1 unit)) []) (no_fraction unit letter)
fraction_is (d ∷ ds) unit h letter =
    ap (λ t. cond t (front_digits ((d ∷ ds) ++ unit)) []) (and_parts (is_digit d) (list_all is_digit ds) h).0
    ∙ front_is (d ∷ ds) unit h (unit_stops unit letter)

unit_is : (fraction unit : List ℕ) → AreDigits fraction → IsLettered unit → unit_of (point fraction ++ unit) ≡ unit
unit_is [] unit h letter = ap (λ t. cond t (after_digits (drop 1 unit)) unit) (no_fraction unit letter)
unit_is (d ∷ ds) unit h letter =
    ap (λ t. cond t (after_digits ((d ∷ ds) ++ unit)) (46 ∷ (d ∷ ds) ++ unit)) (and_parts (is_digit d) (list_all is_digit ds) h).0
    ∙ after_is (d ∷ ds) unit h (unit_stops unit letter)

cut_is : (counts : Counts) (whole tail : List ℕ) → AreDigits whole → prefix_len is_digit tail ≡ 0 → size_of counts (whole ++ tail) ≡ size_at counts whole tail
cut_is counts whole tail h none =
    ap (λ front. size_at counts front (after_digits (whole ++ tail))) (front_is whole tail h none)
    ∙ ap (λ after. size_at counts whole after) (after_is whole tail h none)

sized : (counts : Counts) (w : ℕ) (ws fraction unit : List ℕ) (digits size : ℕ) (measure : Measure) → natural_of ((w ∷ ws) ++ fraction) ≡ Some digits → AreDigits fraction
    → measure_of counts unit ≡ Some measure → size * (measure.units * 10 ^ length fraction) ≡ digits * measure.counted → size_at counts (w ∷ ws) (point fraction ++ unit) ≡ Some size
sized counts w ws fraction unit digits size measure number h measure_is is =
    let u = is_unit counts unit measure measure_is in
    ap (λ f. size_by (natural_of ((w ∷ ws) ++ f)) (length f) (measure_of counts (unit_of (point fraction ++ unit)))) (fraction_is fraction unit h u.0)
    ∙ ap (λ (x : List ℕ). size_by (natural_of ((w ∷ ws) ++ fraction)) (length fraction) (measure_of counts x)) (unit_is fraction unit h u.0)
    ∙ ap (λ o. size_by o (length fraction) (measure_of counts unit)) number
    ∙ ap (λ o. size_by (Some digits) (length fraction) o) measure_is
    ∙ exactly_is (digits * measure.counted) (measure.units * 10 ^ length fraction) size (product_some measure.units (10 ^ length fraction) u.1 (power_some (length fraction))) is

-- The whole word.

digit_no_sign : (d : ℕ) → is_digit d ≡ true → (d == 45) ≡ false
digit_no_sign d h = grind (arith, nat_tests)

by_sign : (counts : Counts) (negative : Bool) (w : ℕ) (bs : List ℕ) → is_digit w ≡ true → measured_of counts (sign negative ++ w ∷ bs) ≡ option_map (signed negative) (size_of counts (w ∷ bs))
by_sign counts true w bs h = refl
by_sign counts false w bs h = ap (λ b. option_map (signed b) (size_of counts (cond b bs (w ∷ bs)))) (digit_no_sign w h)

measured_by : (counts : Counts) (negative : Bool) (whole fraction unit : List ℕ) (digits size : ℕ) (measure : Measure) → 0 < length whole → natural_of (whole ++ fraction) ≡ Some digits
    → measure_of counts unit ≡ Some measure → size * (measure.units * 10 ^ length fraction) ≡ digits * measure.counted
    → measured_of counts (sign negative ++ (whole ++ (point fraction ++ unit))) ≡ Some (signed negative size)
measured_by counts negative [] fraction unit digits size measure some number measure_is is = absurd (omega arith)
measured_by counts negative (w ∷ ws) fraction unit digits size measure some number measure_is is =
    let tail = point fraction ++ unit in
    let all : (list_all is_digit (w ∷ ws) && list_all is_digit fraction) ≡ true = sym (list_all-append is_digit (w ∷ ws) fraction) ∙ natural_digits ((w ∷ ws) ++ fraction) digits number in
    let both = and_parts (list_all is_digit (w ∷ ws)) (list_all is_digit fraction) all in
    let first = and_parts (is_digit w) (list_all is_digit ws) both.0 in
    by_sign counts negative w (ws ++ tail) first.0
    ∙ ap (option_map (signed negative))
    (cut_is counts (w ∷ ws) tail both.0 (tail_stops fraction unit (is_unit counts unit measure measure_is).0)
    ∙ sized counts w ws fraction unit digits size measure number both.1 measure_is is)

measured_is_read : (counts : Counts) (word : List ℕ) (value : ℤ) → IsMeasured counts word value → measured_of counts word ≡ Some value
measured_is_read counts word value h =
    ap (measured_of counts) h.word_is
    ∙ measured_by counts h.negative h.whole h.fraction h.unit h.digits h.size h.measure h.some h.digits_are h.unit_is h.size_is
    ∙ ap (λ v. Some v) (sym h.value_is)

-- Zeros alone have no unit.

no_unit : (counts : Counts) → measure_of counts [] ≡ None
no_unit Micrometres = refl
no_unit Millimetres = refl
no_unit Milliseconds = refl
no_unit TenthsOfADegree = refl

bare : (counts : Counts) (ds : List ℕ) → AreDigits ds → size_of counts ds ≡ None
bare counts ds h = ap (size_of counts) (sym (append-nil ds)) ∙ cut_is counts ds [] h refl ∙ no_size counts ds [] (sym (no_unit counts))

signed_digits : (negative : Bool) (ds : List ℕ) (o : Option ℕ) (value : ℤ) → natural_of ds ≡ o → option_map (signed negative) o ≡ Some value → AreDigits ds
signed_digits negative ds None value is h = absurd (cc)
signed_digits negative ds (Some n) value is h = natural_digits ds n is

number_digits : (word : List ℕ) (value : ℤ) (b : Bool) → cond b (option_map (signed true) (natural_of (drop 1 word))) (option_map (signed false) (natural_of word)) ≡ Some value
    → AreDigits (cond b (drop 1 word) word)
number_digits word value true h = signed_digits true (drop 1 word) (natural_of (drop 1 word)) value refl h
number_digits word value false h = signed_digits false word (natural_of word) value refl h

-- a quantity is read as its value
pub quantity_is_found : (counts : Counts) (word : List ℕ) (value : ℤ) → IsQuantity counts word value → quantity_of counts word ≡ Some value
quantity_is_found counts word value (inl zero_is) =
    let none : size_of counts (unsigned word) ≡ None = bare counts (unsigned word) (number_digits word value (begins_with_minus word) zero_is.0) in
    ap (λ o. or_zero (option_map (signed (begins_with_minus word)) o) (number_of word)) none
    ∙ ap (λ o. or_zero None o) (zero_is.0 ∙ ap (λ v. Some v) zero_is.1)
    ∙ ap (λ v. Some v) (sym zero_is.1)
quantity_is_found counts word value (inr measured) = ap (λ o. or_zero o (number_of word)) (measured_is_read counts word value measured)
