-- What control values that are kept in 64 or in 128 bits are seen as.
use Rattle.std.specs.Prelude.{ℤ, List, Bool, true, false}
use Rattle.bezier_core.specs.declared.Bez.{Bez}
use Rattle.fleet_curves.specs.Raised.{curves_of}

-- the curves of rows of control values; or curves themselves, where these are long
abbrev pub kept_curves : Bool → List (List ℤ) → List (Bez 8) → List (Bez 8)
kept_curves false rows curves = curves_of rows
kept_curves true rows curves = curves
