-- Quantities: decimal numbers with a unit, which are a whole number of what a place counts.
use Rattle.std.specs.Prelude.{◌≡◌, ℕ, zero, ◌*◌, ◌/◌, ◌%◌, ◌^◌, ◌<◌, ◌⊎◌, Bool, true, false, List, [], ◌∷◌, ◌++◌}
use Rattle.std.specs.Prelude.{length, take, drop, ◌==◌, ◌&&◌, Option, Some, None, option_map, Result, ℤ, pos, ◌≤ℤ◌}
use Rattle.std.specs.Prelude.{if◌then◌else◌}
use Rattle.std.specs.List.{prefix_len}
use Rattle.text_lines.specs.Numbers.{is_digit, natural_of, signed, begins_with_minus, number_of, in_range}
use Rattle.text_lines.specs.declared.number.NumberFault.{NumberFault}
use Rattle.choreo_lines.specs.declared.unit.Counts.{Counts}
use Rattle.choreo_lines.specs.Units.{Measure, measure_of}

-- What a quantity is.

-- the sign of a word: `-`, or nothing
abbrev pub sign : Bool → List ℕ
sign true = 45 ∷ []
sign false = []

-- a point and the digits after it, or nothing where there are none
abbrev pub point : List ℕ → List ℕ
point [] = []
point (d ∷ ds) = 46 ∷ d ∷ ds

-- The word is a sign, digits, perhaps a point and more digits, and a unit. Without their point the digits are a whole
-- number. The size of the value is that number, divided by ten for each digit after the point, as its unit counts.
pub record IsMeasured (counts : Counts) (word : List ℕ) (value : ℤ) : Type 0 where
  pub negative : Bool
  pub whole : List ℕ
  pub fraction : List ℕ
  pub unit : List ℕ
  pub digits : ℕ
  pub measure : Measure
  pub size : ℕ
  pub word_is : word ≡ sign negative ++ (whole ++ (point fraction ++ unit))
  pub some : 0 < length whole
  pub digits_are : natural_of (whole ++ fraction) ≡ Some digits
  pub unit_is : measure_of counts unit ≡ Some measure
  pub size_is : size * (measure.units * 10 ^ length fraction) ≡ digits * measure.counted
  pub value_is : value ≡ signed negative size

-- the word is this value, where a place counts this: zeros alone, or a number with a unit
abbrev pub IsQuantity : Counts → List ℕ → ℤ → Type 0
IsQuantity counts word value = ((number_of word ≡ Some value) × (value ≡ pos 0)) ⊎ IsMeasured counts word value

-- the word is this value, which lies from low to high
pub record IsQuantityIn (counts : Counts) (low high : ℤ) (word : List ℕ) (value : ℤ) : Type 0 where
  pub is : IsQuantity counts word value
  pub from : low ≤ℤ value
  pub to : value ≤ℤ high

-- The value of a word, as a function.

-- the digits that some bytes begin with
abbrev pub front_digits : List ℕ → List ℕ
front_digits bytes = take (prefix_len is_digit bytes) bytes

-- what stands after them
abbrev pub after_digits : List ℕ → List ℕ
after_digits bytes = drop (prefix_len is_digit bytes) bytes

-- a point, and a digit after it
abbrev pub begins_with_fraction : List ℕ → Bool
begins_with_fraction [] = false
begins_with_fraction (b ∷ []) = false
begins_with_fraction (b ∷ d ∷ bs) = b == 46 && is_digit d

-- of what stands after the digits in front: the digits after a point, or none
abbrev pub fraction_of : List ℕ → List ℕ
fraction_of rest = if begins_with_fraction rest then front_digits (drop 1 rest) else []

-- and what stands after them
abbrev pub unit_of : List ℕ → List ℕ
unit_of rest = if begins_with_fraction rest then after_digits (drop 1 rest) else rest

-- a quotient, where it is a whole number
abbrev pub exactly : ℕ → ℕ → Option ℕ
exactly a b = if a % b == 0 then Some (a / b) else None

-- digits, how many of them stand after the point, and their unit
abbrev pub size_by : Option ℕ → ℕ → Option Measure → Option ℕ
size_by (Some digits) places (Some measure) = exactly (digits * measure.counted) (measure.units * 10 ^ places)
size_by digits places measure = None

-- the size of the digits in front, at least one, and of what stands after them
abbrev pub size_at : Counts → List ℕ → List ℕ → Option ℕ
size_at counts [] rest = None
size_at counts (d ∷ ds) rest =
    size_by (natural_of ((d ∷ ds) ++ fraction_of rest)) (length (fraction_of rest)) (measure_of counts (unit_of rest))

-- the size of a word without its sign
abbrev pub size_of : Counts → List ℕ → Option ℕ
size_of counts bytes = size_at counts (front_digits bytes) (after_digits bytes)

-- a word, without its sign where it has one
abbrev pub unsigned : List ℕ → List ℕ
unsigned word = if begins_with_minus word then drop 1 word else word

-- a number with a unit
abbrev pub measured_of : Counts → List ℕ → Option ℤ
measured_of counts word = option_map (signed (begins_with_minus word)) (size_of counts (unsigned word))

-- a number with a unit, or zeros alone
abbrev pub or_zero : Option ℤ → Option ℤ → Option ℤ
or_zero (Some value) number = Some value
or_zero None (Some (pos zero)) = Some (pos 0)
or_zero None number = None

-- the value of a word, where it has one
abbrev pub quantity_of : Counts → List ℕ → Option ℤ
quantity_of counts word = or_zero (measured_of counts word) (number_of word)

-- the quantity that a word is, or what is wrong with it
abbrev pub quantity_in : Counts → ℤ → ℤ → List ℕ → Result ℤ NumberFault
quantity_in counts low high word = in_range low high (quantity_of counts word)
