-- Each unit begins with a letter.
use Rattle.choreo_lines.proofs.Prelude.{◌≡◌, ℕ, ◌<◌, Bool, true, false, cond, List, [], ◌∷◌, Option, Some, None, option_map, refl, sym, subst, arith, nat_le, Measure, measure_of, micrometres_in, milliseconds_in, tenths_in, one_is, thousand_are, bytes_eq, codes, Counts, Micrometres, Millimetres, Milliseconds, TenthsOfADegree}
use Rattle.std.proofs.lemmas.Slice.Eq.{bytes_eq-Decides}

-- a letter is above all digits and the point
abbrev pub begins_with_letter : List ℕ → Bool
begins_with_letter [] = false
begins_with_letter (b ∷ bs) = nat_le 97 b

abbrev pub IsLettered : List ℕ → Type 0
IsLettered unit = begins_with_letter unit ≡ true

or_by : (t : Bool) (unit word : List ℕ) (n m : ℕ) (later : Option ℕ) → bytes_eq unit word ≡ t → IsLettered word → (later ≡ Some m → IsLettered unit) → cond t (Some n) later ≡ Some m → IsLettered unit
or_by true unit word n m later e letter next h = subst IsLettered (sym ((bytes_eq-Decides unit word).0 e)) letter
or_by false unit word n m later e letter next h = next h

or_unit : (unit word : List ℕ) (n m : ℕ) (later : Option ℕ) → IsLettered word → (later ≡ Some m → IsLettered unit) → cond (bytes_eq unit word) (Some n) later ≡ Some m → IsLettered unit
or_unit unit word n m later = or_by (bytes_eq unit word) unit word n m later refl

of_length : (unit : List ℕ) (m : ℕ) → micrometres_in unit ≡ Some m → IsLettered unit
of_length unit m =
    or_unit unit (codes "m") _ m _ refl
    (or_unit unit (codes "cm") _ m _ refl (or_unit unit (codes "mm") _ m _ refl (or_unit unit (codes "um") _ m None refl (λ h. absurd (cc)))))

of_time : (unit : List ℕ) (m : ℕ) → milliseconds_in unit ≡ Some m → IsLettered unit
of_time unit m = or_unit unit (codes "s") _ m _ refl (or_unit unit (codes "ms") _ m None refl (λ h. absurd (cc)))

of_angle : (unit : List ℕ) (m : ℕ) → tenths_in unit ≡ Some m → IsLettered unit
of_angle unit m = or_unit unit (codes "deg") _ m None refl (λ h. absurd (cc))

-- a unit, and that some of it are counted
abbrev pub IsUnit : List ℕ → Measure → Type 0
IsUnit unit measure = IsLettered unit × (0 < measure.units)

by_measure : (of : ℕ → Measure) (o : Option ℕ) (unit : List ℕ) (measure : Measure) → ((m : ℕ) → o ≡ Some m → IsLettered unit) → ((m : ℕ) → 0 < (of m).units)
    → option_map of o ≡ Some measure → IsUnit unit measure
by_measure of None unit measure letter some h = absurd (cc)
by_measure of (Some m) unit measure letter some h =
    let same : of m ≡ measure = cc in
    (letter m refl, subst (λ (x : Measure). 0 < x.units) same (some m))

pub is_unit : (counts : Counts) (unit : List ℕ) (measure : Measure) → measure_of counts unit ≡ Some measure → IsUnit unit measure
is_unit Micrometres unit measure = by_measure one_is (micrometres_in unit) unit measure (of_length unit) (λ m. omega arith)
is_unit Millimetres unit measure = by_measure thousand_are (micrometres_in unit) unit measure (of_length unit) (λ m. omega arith)
is_unit Milliseconds unit measure = by_measure one_is (milliseconds_in unit) unit measure (of_time unit) (λ m. omega arith)
is_unit TenthsOfADegree unit measure = by_measure one_is (tenths_in unit) unit measure (of_angle unit) (λ m. omega arith)
