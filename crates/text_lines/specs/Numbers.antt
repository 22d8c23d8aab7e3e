-- Decimal numbers.
use Rattle.std.specs.Prelude.{ℕ, ◌+◌, ◌-◌, ◌*◌, Bool, true, false, ◌&&◌, List, [], ◌∷◌, drop, ◌==◌, nat_le, Option}
use Rattle.std.specs.Prelude.{Some, None, option_map, Result, Ok, Err, ℤ, pos, neg_ℤ, ◌≤ℤ◌, int_le, if◌then◌else◌, ◌≡◌}
use Rattle.text_lines.specs.declared.number.NumberFault.{NumberFault}
use Rattle.text_lines.specs.declared.number.NumberFault.TheVariants.{NotANumber, OutOfRange}

-- a decimal digit
abbrev pub is_digit : ℕ → Bool
is_digit b = nat_le 48 b && nat_le b 57

-- the number whose digits stand after those of n
abbrev pub digits_after : ℕ → List ℕ → Option ℕ
digits_after n [] = Some n
digits_after n (d ∷ ds) = if is_digit d then digits_after (10 * n + (d - 48)) ds else None

-- decimal digits, at least one; leading zeros are allowed
abbrev pub natural_of : List ℕ → Option ℕ
natural_of [] = None
natural_of (d ∷ ds) = digits_after 0 (d ∷ ds)

-- a size with its sign
abbrev pub signed : Bool → ℕ → ℤ
signed true n = neg_ℤ (pos n)
signed false n = pos n

-- a word whose first byte is `-`
abbrev pub begins_with_minus : List ℕ → Bool
begins_with_minus [] = false
begins_with_minus (b ∷ bs) = b == 45

-- decimal digits, at least one, with an optional `-` before them
abbrev pub number_of : List ℕ → Option ℤ
number_of word =
    if begins_with_minus word
    then option_map (signed true) (natural_of (drop 1 word))
    else option_map (signed false) (natural_of word)

-- the word is this number, which lies from low to high
pub record IsNumber (low high : ℤ) (word : List ℕ) (value : ℤ) : Type 0 where
  pub is : number_of word ≡ Some value
  pub from : low ≤ℤ value
  pub to : value ≤ℤ high

-- a number, if there is one, judged by its range
abbrev pub in_range : ℤ → ℤ → Option ℤ → Result ℤ NumberFault
in_range low high None = Err NotANumber
in_range low high (Some value) = if int_le low value && int_le value high then Ok value else Err OutOfRange

-- the number that a word is, or what is wrong with it
abbrev pub number_in : ℤ → ℤ → List ℕ → Result ℤ NumberFault
number_in low high word = in_range low high (number_of word)
