-- A size that is read.
use Rattle.choreo_lines.proofs.Prelude.{◌≡◌, ℕ, ◌<◌, List, [], ◌∷◌, ◌++◌, length, Option, Some, None, option_map, natural_of, refl, sym, ap, ◌∙◌, arith, AreDigits, measure_of, measure_by, moved, number_after, fraction_of, size_at, size_by, unit_of, Counts}
use Rattle.choreo_lines.specs.declared.unit.Shift.{Shift}
use Rattle.choreo_lines.proofs.Digits.{digits_are, digits_joined, fraction_passes}

pub size_is : (counts : Counts) (whole rest : List ℕ) (shift : Shift) → option_map measure_by (Some shift) ≡ measure_of counts (unit_of rest) → 0 < length whole
    → AreDigits whole → moved shift whole (fraction_of rest) ≡ size_at counts whole rest
size_is counts [] rest shift is some digits = absurd (omega arith)
size_is counts (d ∷ ds) rest shift is some digits =
    let all = (d ∷ ds) ++ fraction_of rest in
    ap (λ m. size_by (Some (number_after 0 all)) (length (fraction_of rest)) m) is
    ∙ ap (λ o. size_by o (length (fraction_of rest)) (measure_of counts (unit_of rest))) (sym (digits_are 0 all (digits_joined (d ∷ ds) (fraction_of rest) digits (fraction_passes rest))))

unmeasured : (digits : Option ℕ) (places : ℕ) → size_by digits places None ≡ None
unmeasured None places = refl
unmeasured (Some digits) places = refl

-- without a unit there is none
pub no_size : (counts : Counts) (whole rest : List ℕ) → None ≡ measure_of counts (unit_of rest) → size_at counts whole rest ≡ None
no_size counts [] rest none = refl
no_size counts (d ∷ ds) rest none =
    let number = natural_of ((d ∷ ds) ++ fraction_of rest) in
    ap (λ m. size_by number (length (fraction_of rest)) m) (sym none) ∙ unmeasured number (length (fraction_of rest))
