-- Words of private steps: an axis in its unit. No public clause cites them.
use Rattle.std.specs.Prelude.{ℕ, zero, suc, map, ℤ}
use Rattle.mm_rounding.specs.declared.piece.Axis.{Axis}
use Rattle.mm_rounding.specs.declared.piece.Axis.TheVariants.{One, Two, Four, Eight}
use Rattle.mm_rounding.specs.Rounding.{millimetres}

-- a number as it is, by 0, or in whole millimetres
abbrev pub number_in : ℕ → ℤ → ℤ
number_in zero v = v
number_in (suc unit) v = millimetres v

-- an axis with each control value so
abbrev pub axis_in : ℕ → Axis → Axis
axis_in unit (One v) = One (number_in unit v)
axis_in unit (Two v) = Two (map (number_in unit) v)
axis_in unit (Four v) = Four (map (number_in unit) v)
axis_in unit (Eight v) = Eight (map (number_in unit) v)
