-- Words of the private steps of reading a quantity.
use Rattle.std.specs.Prelude.{◌≡◌, ℕ, ◌+◌, ◌-◌, ◌*◌, ◌^◌, min, true, List, [], ◌∷◌, ◌++◌, length, drop, Option, Some}
use Rattle.std.specs.List.{list_all}
use Rattle.text_lines.specs.Numbers.{is_digit}
use Rattle.choreo_lines.specs.Quantities.{size_by}
use Rattle.choreo_lines.specs.declared.unit.Shift.{Shift}
use Rattle.choreo_lines.specs.Units.{Measure}

-- the number whose digits stand after those of n
abbrev pub number_after : ℕ → List ℕ → ℕ
number_after n [] = n
number_after n (d ∷ ds) = number_after (10 * n + (d - 48)) ds

-- the unit whose numbers are moved so
abbrev pub measure_by : Shift → Measure
measure_by shift = record { units = 10 ^ shift.left; counted = 10 ^ shift.right }

-- bytes that are decimal digits
abbrev pub AreDigits : List ℕ → Type 0
AreDigits ds = list_all is_digit ds ≡ true

-- a number, or the greatest that is told from greater ones
abbrev pub capped : ℕ → ℕ
capped n = min n 1000000000000

-- digits before the point and after it, where the point is moved so
abbrev pub moved : Shift → List ℕ → List ℕ → Option ℕ
moved shift whole fraction =
    size_by (Some (number_after 0 (whole ++ fraction))) (length fraction) (Some (measure_by shift))

-- Of digits with zeros before them, as many as `before`, the first `ahead` are kept. At a place the number so far is the kept one,
-- with a zero for each digit that was passed after those.
pub record IsMoved (digits : List ℕ) (ahead before place number places : ℕ) : Type 0 where
  pub kept : ℕ
  pub so_far : ℕ
  pub number_is : number ≡ capped kept
  pub places_are : places ≡ ahead - (before + place)
  pub zeros_are : so_far ≡ kept * 10 ^ (before + place - ahead)
  pub rest : number_after 0 digits ≡ number_after so_far (drop place digits)
