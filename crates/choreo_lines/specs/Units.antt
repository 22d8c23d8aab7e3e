-- The units that may stand in a place, by what the place counts.
use Rattle.std.specs.Prelude.{ℕ, List, Option, Some, None, option_map, bytes_eq, codes, if◌then◌else◌}
use Rattle.choreo_lines.specs.declared.unit.Counts.{Counts}
use Rattle.choreo_lines.specs.declared.unit.Counts.TheVariants.{Micrometres, Millimetres, Milliseconds, TenthsOfADegree}

-- this many units are this many of what a place counts
pub record Measure : Type 0 where
  pub units : ℕ
  pub counted : ℕ

-- one unit is this many of what a place counts
abbrev pub one_is : ℕ → Measure
one_is n = record { units = 1; counted = n }

-- a thousand units are this many of what a place counts
abbrev pub thousand_are : ℕ → Measure
thousand_are n = record { units = 1000; counted = n }

-- one unit of length is this many micrometres
abbrev pub micrometres_in : List ℕ → Option ℕ
micrometres_in unit =
    if bytes_eq unit (codes "m") then Some 1000000 else
    if bytes_eq unit (codes "cm") then Some 10000 else
    if bytes_eq unit (codes "mm") then Some 1000 else
    if bytes_eq unit (codes "um") then Some 1 else None

-- one unit of time is this many milliseconds
abbrev pub milliseconds_in : List ℕ → Option ℕ
milliseconds_in unit =
    if bytes_eq unit (codes "s") then Some 1000 else
    if bytes_eq unit (codes "ms") then Some 1 else None

-- one unit of an angle is this many tenths of a degree
abbrev pub tenths_in : List ℕ → Option ℕ
tenths_in unit = if bytes_eq unit (codes "deg") then Some 10 else None

-- what a unit is, where a place counts this
abbrev pub measure_of : Counts → List ℕ → Option Measure
measure_of Micrometres unit = option_map one_is (micrometres_in unit)
measure_of Millimetres unit = option_map thousand_are (micrometres_in unit)
measure_of Milliseconds unit = option_map one_is (milliseconds_in unit)
measure_of TenthsOfADegree unit = option_map one_is (tenths_in unit)
