-- Numbers whose point is moved.
use Rattle.choreo_lines.proofs.Prelude.{◌≡◌, ℕ, min, suc, ◌+◌, ◌-◌, ◌*◌, ◌^◌, ◌<◌, ◌≤◌, List, [], ◌∷◌, ◌++◌, length, drop, drop_all, get_or, Some, None, refl, sym, subst, ap, ◌∙◌, arith, list_all, is_digit, and_parts, AreDigits, IsMoved, moved, number_after, length-append, length-drop, add-mul, mul_assoc, pow-add, pow-suc, mul-lt-mul_of_pos_right, exactly}
use Rattle.choreo_lines.specs.declared.unit.Shift.{Shift}
use Rattle.choreo_lines.proofs.Digits.{digit_is, digit_over, digit_small, digits_drop, digits_joined, number_more, power_some, times_ten}
use Rattle.choreo_lines.proofs.Quotients.{exactly_is, exactly_not}

pub moved_start : (ds : List ℕ) (ahead before : ℕ) → IsMoved ds ahead before 0 0 (ahead - before)
moved_start ds ahead before = record { kept = 0; so_far = 0; number_is = refl; places_are = omega arith; zeros_are = omega arith; rest = refl }

-- a digit that is kept
pub moved_on : (ds : List ℕ) (ahead before i n p m q : ℕ) → IsMoved ds ahead before i n p → i < length ds → 0 < p
    → m ≡ min (10 * n + (get_or ds i 0 - 48)) 1000000000000 → q ≡ p - 1 → IsMoved ds ahead before (i + 1) m q
moved_on ds ahead before i n p m q h lt some number places =
    let now : before + i - ahead ≡ 0 = omega (arith, h.places_are) in
    let next : before + (i + 1) - ahead ≡ 0 = omega (arith, h.places_are) in
    let same : h.so_far ≡ h.kept * 1 = h.zeros_are ∙ ap (λ e. h.kept * 10 ^ e) now in
    record {
      kept = 10 * h.kept + (get_or ds i 0 - 48);
      so_far = 10 * h.so_far + (get_or ds i 0 - 48);
      number_is = omega (arith, h.number_is, number);
      places_are = omega (arith, h.places_are, places);
      zeros_are = rw next (omega (arith, same));
      rest = h.rest ∙ number_more h.so_far i ds lt;
    }

-- a zero after those
pub moved_past : (ds : List ℕ) (ahead before i n p m q : ℕ) → IsMoved ds ahead before i n p → i < length ds → p ≡ 0 → get_or ds i 0 ≡ 48
    → m ≡ n → q ≡ p → IsMoved ds ahead before (i + 1) m q
moved_past ds ahead before i n p m q h lt none zero_is number places =
    let next : before + (i + 1) - ahead ≡ suc (before + i - ahead) = omega (arith, h.places_are) in
    record {
      kept = h.kept;
      so_far = 10 * h.so_far + (get_or ds i 0 - 48);
      number_is = number ∙ h.number_is;
      places_are = omega (arith, h.places_are, places);
      zeros_are = rw next (let e = times_ten h.kept (before + i - ahead) in omega (arith, h.zeros_are, zero_is));
      rest = h.rest ∙ number_more h.so_far i ds lt;
    }

powers : (a b c d : ℕ) → a + b ≡ c + d → 10 ^ a * 10 ^ b ≡ 10 ^ c * 10 ^ d
powers a b c d is = sym (pow-add 10 a b) ∙ ap (λ e. 10 ^ e) is ∙ pow-add 10 c d

scaled : (k p y u v w : ℕ) → p + (u + v) ≡ y + w → k * 10 ^ p * (10 ^ u * 10 ^ v) ≡ k * 10 ^ y * 10 ^ w
scaled k p y u v w is =
    mul_assoc k (10 ^ p) (10 ^ u * 10 ^ v)
    ∙ ap (λ t. k * t) (ap (λ t. 10 ^ p * t) (sym (pow-add 10 u v)) ∙ powers p (u + v) y w is)
    ∙ sym (mul_assoc k (10 ^ y) (10 ^ w))

pub product_some : (a b : ℕ) → 0 < a → 0 < b → 0 < a * b
product_some a b one two = let e : 0 * b < a * b = mul-lt-mul_of_pos_right one two in omega (arith, e)

-- each digit was kept, or is a zero
pub moved_whole : (shift : Shift) (whole fraction : List ℕ) (i n p : ℕ) → i ≡ length whole + length fraction
    → (h : IsMoved (whole ++ fraction) (length whole + shift.right) shift.left i n p) → moved shift whole fraction ≡ Some (h.kept * 10 ^ p)
moved_whole shift whole fraction i n p all h =
    let y = shift.left + i - (length whole + shift.right) in
    let ended = drop_all i (whole ++ fraction) (omega (arith, length-append whole fraction, all)) in
    let number : number_after 0 (whole ++ fraction) ≡ h.kept * 10 ^ y = h.rest ∙ ap (number_after h.so_far) ended ∙ h.zeros_are in
    exactly_is _ _ _ (product_some (10 ^ shift.left) (10 ^ length fraction) (power_some shift.left) (power_some (length fraction)))
    (scaled h.kept p y shift.left (length fraction) shift.right (omega (arith, h.places_are, all)) ∙ ap (λ t. t * 10 ^ shift.right) (sym number))

-- a multiple of a power of ten, and more that is less than the power
record IsBetween (n power : ℕ) : Type 0 where
  kept : ℕ
  more : ℕ
  is : n ≡ kept * 10 ^ power + more
  some : 0 < more
  less : more < 10 ^ power

between_more : (n power d : ℕ) → d ≤ 9 → IsBetween n power → IsBetween (10 * n + d) (suc power)
between_more n power d small h =
    let ten = pow-suc 10 power in
    let next = times_ten h.kept power in
    record { kept = h.kept; more = 10 * h.more + d; is = omega (arith, h.is); some = omega (arith, h.some); less = omega (arith, h.less) }

between_after : (n power later : ℕ) (ds : List ℕ) → later ≡ power + length ds → AreDigits ds → IsBetween n power → IsBetween (number_after n ds) later
between_after n power later [] is h between = subst (IsBetween n) (omega (arith, is)) between
between_after n power later (d ∷ ds) is h between =
    let p = and_parts (is_digit d) (list_all is_digit ds) h in
    between_after (10 * n + (d - 48)) (suc power) later ds (omega (arith, is)) p.1 (between_more n power (d - 48) (digit_small d p.0) between)

not_whole : (n y right left places : ℕ) → y + right ≡ left + places → IsBetween n y → exactly (n * 10 ^ right) (10 ^ left * 10 ^ places) ≡ None
not_whole n y right left places is h =
    let sum = add-mul (h.kept * 10 ^ y) h.more (10 ^ right) in
    let same = scaled h.kept 0 y left places right (omega (arith, is)) in
    let power = powers y right left places is in
    let less : h.more * 10 ^ right < 10 ^ y * 10 ^ right = mul-lt-mul_of_pos_right h.less (power_some right) in
    exactly_not _ _ (h.kept * 10 ^ 0) (h.more * 10 ^ right) (ap (λ t. t * 10 ^ right) h.is ∙ omega (arith, sum, same)) (omega (arith, less, power))
    (product_some h.more (10 ^ right) h.some (power_some right))

-- a digit after those is no zero
pub moved_not : (shift : Shift) (whole fraction : List ℕ) (i n p : ℕ) → AreDigits whole → AreDigits fraction
    → IsMoved (whole ++ fraction) (length whole + shift.right) shift.left i n p → i < length whole + length fraction → p ≡ 0
    → (get_or (whole ++ fraction) i 0 ≡ 48 → ⊥) → moved shift whole fraction ≡ None
moved_not shift whole fraction i n p first second h lt none other =
    let ds = whole ++ fraction in
    let digits = digits_joined whole fraction first second in
    let long = length-append whole fraction in
    let x = shift.left + i - (length whole + shift.right) in
    let y = shift.left + length ds - (length whole + shift.right) in
    let d = get_or ds i 0 - 48 in
    let digit = digit_is ds i (omega (arith, lt, long)) digits in
    let small = digit_small (get_or ds i 0) digit in
    let next = times_ten h.kept x in
    let ten = pow-suc 10 x in
    let begun : IsBetween (10 * h.so_far + d) (suc x) = record {
      kept = h.kept;
      more = d;
      is = omega (arith, h.zeros_are);
      some = digit_over (get_or ds i 0) digit other;
      less = omega (arith, small, power_some x);
    } in
    let after = between_after _ (suc x) y (drop (i + 1) ds) (omega (arith, h.places_are, length-drop (i + 1) ds, lt, long)) (digits_drop (i + 1) ds digits) begun in
    let between : IsBetween (number_after 0 ds) y = subst (λ t. IsBetween t y) (sym (h.rest ∙ number_more h.so_far i ds (omega (arith, lt, long)))) after in
    not_whole (number_after 0 ds) y shift.right shift.left (length fraction) (omega (arith, h.places_are, lt, long)) between
