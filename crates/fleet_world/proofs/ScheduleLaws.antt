-- Numbers of nine digits are small, and a schedule is read line by line.
use Rattle.fleet_world.proofs.Prelude.{common_steps, ◌≡◌, ℕ, zero, suc, ◌+◌, ◌-◌, ◌*◌, ◌<◌, ◌≤◌, Bool, true, false, cond, List, [], ◌∷◌, ◌++◌, length, refl, ap, sym, ◌∙◌, arith, Some, None, Result, Ok, Err, and_parts, leb-true, le-leb, ne_eqb, append_assoc, nat_le, min, option_map, counted_from_0, number_of, put_event, prepended}
use Rattle.text_lines.specs.declared.number.TheConstants.{LARGE}
use Rattle.text_lines.specs.Numbers.{is_digit, digits_after, natural_of}

-- x times ten to the k
abbrev times_ten : ℕ → ℕ → ℕ
times_ten zero x = x
times_ten (suc k) x = times_ten k (10 * x)

times_ten-more : (k x y : ℕ) → x ≤ y → times_ten k x ≤ times_ten k y
times_ten-more zero x y l = l
times_ten-more (suc k) x y l = times_ten-more k (10 * x) (10 * y) (omega arith)

times_ten-longer : (k j x : ℕ) → times_ten k x ≤ times_ten (k + j) x
times_ten-longer zero zero x = omega arith
times_ten-longer zero (suc j) x =
    let next : times_ten zero (10 * x) ≤ times_ten (zero + j) (10 * x) = times_ten-longer zero j (10 * x) in
    let is : times_ten (zero + suc j) x ≡ times_ten (zero + j) (10 * x) = ap (λ (n : ℕ). times_ten n x) (let e : zero + suc j ≡ suc (zero + j) = omega arith in e) in
    omega (arith, next, is)
times_ten-longer (suc k) j x =
    let next : times_ten k (10 * x) ≤ times_ten (k + j) (10 * x) = times_ten-longer k j (10 * x) in
    let is : times_ten (suc k + j) x ≡ times_ten (k + j) (10 * x) = ap (λ (n : ℕ). times_ten n x) (let e : suc k + j ≡ suc (k + j) = omega arith in e) in
    omega (arith, next, is)

some-is : (x y : ℕ) → Some x ≡ Some y → x ≡ y
some-is x y e = cc

digits_below : (n : ℕ) (w : List ℕ) (m : ℕ) → digits_after n w ≡ Some m → m < times_ten (length w) (n + 1)
digits_below n [] m e = let same : n ≡ m = some-is n m e in omega arith
digits_below n (d ∷ ds) m e = by_digit (is_digit d) refl (λ f. digits_below (10 * n + (d - 48)) ds m f) e where
  never : None ≡ Some m → ⊥
  never f = cc

  by_digit : (b : Bool) → is_digit d ≡ b → (digits_after (10 * n + (d - 48)) ds ≡ Some m → m < times_ten (length ds) (10 * n + (d - 48) + 1)) →
      cond b (digits_after (10 * n + (d - 48)) ds) None ≡ Some m → m < times_ten (length ds) (10 * (n + 1))
  by_digit true digit rest f =
      let small : d ≤ 57 = leb-true d 57 (and_parts (nat_le 48 d) (nat_le d 57) digit).1 in
      let wide : times_ten (length ds) (10 * n + (d - 48) + 1) ≤ times_ten (length ds) (10 * (n + 1)) = times_ten-more (length ds) (10 * n + (d - 48) + 1) (10 * (n + 1)) (omega arith) in
      let below = rest f in
      omega (arith, wide, below)
  by_digit false digit rest f = absurd (never f)

-- a number of nine digits at most is below a thousand million
pub natural_of-small : (w : List ℕ) (m : ℕ) → length w ≤ 9 → natural_of w ≡ Some m → m < 1000000000
natural_of-small [] m l e = absurd (cc)
natural_of-small (d ∷ ds) m l e =
    let below = digits_below 0 (d ∷ ds) m e in
    let longer : times_ten (length (d ∷ ds)) (0 + 1) ≤ times_ten (length (d ∷ ds) + (9 - length (d ∷ ds))) (0 + 1) = times_ten-longer (length (d ∷ ds)) (9 - length (d ∷ ds)) (0 + 1) in
    let whole : times_ten (length (d ∷ ds) + (9 - length (d ∷ ds))) (0 + 1) ≡ times_ten 9 1 = ap (λ (n : ℕ). times_ten n 1) (let e : length (d ∷ ds) + (9 - length (d ∷ ds)) ≡ 9 = omega arith in e) in
    let is : times_ten 9 1 ≡ 1000000000 = refl in
    omega (arith, below, longer, whole, is)

-- what is read of a word of nine bytes at most is its number
pub natural-read : (w : List ℕ) (n : ℕ) → length w ≤ 9 → option_map (λ k. min k LARGE) (natural_of w) ≡ Some n → (natural_of w ≡ Some n) × (n < 1000000000)
natural-read w n l is = grind (arith, common_steps, natural_of-small, some-is)

pub number_of-read : (w : List ℕ) (n : ℕ) → length w ≤ 9 → natural_of w ≡ Some n → (n ≡ 0 → ⊥) → Some (n - 1) ≡ number_of w
number_of-read w n l is some =
    sym (ap (λ (b : Bool). cond b (counted_from_0 (natural_of w)) None) (le-leb (length w) 9 l)
    ∙ ap counted_from_0 is ∙ ap (λ (b : Bool). cond b None (Some (n - 1))) (ne_eqb n 0 some))

-- one event more
pub prepended-more : {E : Type 0} (events : List E) (event : E) (number : ℕ) (later : Result (List E) ℕ) →
    prepended (events ++ event ∷ []) later ≡ prepended events (put_event number (Some event) later)
prepended-more {E} events event number (Ok later) = ap {B = Result (List E) ℕ} (λ (es : List E). Ok es) (append_assoc events (event ∷ []) later)
prepended-more {E} events event number (Err faulty) = refl
