-- Quantities whose values were worked out by hand, and words that are none.
use Rattle.std.specs.Prelude.{map, replicate}
use Rattle.choreo_lines.proofs.Prelude.{◌≡◌, ℕ, List, [], ◌∷◌, length, Option, Some, None, Ok, Err, refl, pos, ℤ, quantity_of, quantity_in, codes, neg_ℤ, NotANumber, OutOfRange, Counts, Micrometres, Millimetres, Milliseconds, TenthsOfADegree}

-- each of these words is this value, or none
record Row : Type 0 where
  value : Option ℤ
  words : List (List ℕ)

abbrev are : Option ℤ → List (List ℕ) → Row
are value words = record { value = value; words = words }

-- in a place that counts this
abbrev AllAre : Counts → List Row → Type 0
AllAre counts rows =
    map (λ (r : Row). map (quantity_of counts) r.words) rows ≡ map (λ (r : Row). replicate (length r.words) r.value) rows

micrometres : AllAre Micrometres (
    are (Some (pos 1000000)) (codes "1m" ∷ codes "100cm" ∷ codes "1000mm" ∷ codes "1000000um" ∷ []) ∷
    are (Some (pos 300000)) (codes "30cm" ∷ []) ∷
    are (Some (pos 33000000)) (codes "33m" ∷ []) ∷
    are (Some (pos 101000000)) (codes "101m" ∷ []) ∷
    are (Some (pos 1500000)) (codes "1.5m" ∷ codes "0001.50000000m" ∷ []) ∷
    are (Some (neg_ℤ (pos 1500000))) (codes "-1.5m" ∷ []) ∷
    are (Some (pos 1500)) (codes "1.5mm" ∷ []) ∷
    are (Some (pos 1)) (codes "0.001mm" ∷ codes "0.0001cm" ∷ []) ∷
    are (Some (pos 12345678)) (codes "12.345678m" ∷ []) ∷
    are (Some (pos 0)) (codes "-0um" ∷ codes "-0.000m" ∷ codes "0" ∷ codes "-0" ∷ codes "00" ∷ codes "-00" ∷ []) ∷
    are None (codes "0.5um" ∷ codes "0.00001cm" ∷ codes "1.0000001m" ∷ codes ".5m" ∷ codes "1.m" ∷ codes "1..5m" ∷
    codes "1.5.0m" ∷ codes "-.5m" ∷ codes "0.0" ∷ codes "0s" ∷ codes "0deg" ∷ codes "1000000" ∷ codes "1.5" ∷
    codes "1e3m" ∷ codes "+1m" ∷ codes "--1m" ∷ codes "1.5M" ∷ codes "1km" ∷ codes "1.5 m" ∷ codes "1m2" ∷
    codes "1mmm" ∷ codes "m" ∷ codes "-m" ∷ codes "-" ∷ codes "" ∷ codes "." ∷ codes "1,5m" ∷ []) ∷
    [])
micrometres = refl

millimetres : AllAre Millimetres (
    are (Some (pos 1000)) (codes "1m" ∷ []) ∷
    are (Some (pos 25)) (codes "2.5cm" ∷ []) ∷
    are (Some (pos 3)) (codes "3mm" ∷ []) ∷
    are (Some (pos 1)) (codes "1000um" ∷ codes "1000.00um" ∷ codes "0.1cm" ∷ []) ∷
    are (Some (pos 120)) (codes "120000um" ∷ []) ∷
    are (Some (pos 1500)) (codes "1.5m" ∷ []) ∷
    are (Some (pos 0)) (codes "0um" ∷ codes "00.0um" ∷ codes "0" ∷ []) ∷
    are (Some (neg_ℤ (pos 2))) (codes "-2mm" ∷ []) ∷
    are None (codes "1.5mm" ∷ codes "0.05cm" ∷ codes "1500um" ∷ codes "999um" ∷ codes "5um" ∷ codes "0.5um" ∷
    codes "1000.5um" ∷ codes "100" ∷ codes "2s" ∷ []) ∷
    [])
millimetres = refl

milliseconds : AllAre Milliseconds (
    are (Some (pos 2000)) (codes "2s" ∷ codes "2000ms" ∷ []) ∷
    are (Some (pos 1)) (codes "0.001s" ∷ codes "1.000ms" ∷ []) ∷
    are (Some (pos 65535)) (codes "65.535s" ∷ []) ∷
    are (Some (pos 0)) (codes "0s" ∷ codes "0" ∷ []) ∷
    are None (codes "0.0005s" ∷ codes "1.5ms" ∷ codes "2" ∷ codes "2m" ∷ codes "0m" ∷ codes "2sec" ∷ []) ∷
    [])
milliseconds = refl

tenths_of_a_degree : AllAre TenthsOfADegree (
    are (Some (pos 0)) (codes "0deg" ∷ codes "-0" ∷ []) ∷
    are (Some (pos 900)) (codes "90deg" ∷ []) ∷
    are (Some (neg_ℤ (pos 1))) (codes "-0.1deg" ∷ []) ∷
    are (Some (pos 32767)) (codes "3276.7deg" ∷ []) ∷
    are (Some (pos 1)) (codes "0.10deg" ∷ []) ∷
    are (Some (pos 10)) (codes "1deg" ∷ []) ∷
    are None (codes "0.05deg" ∷ codes "0.15deg" ∷ codes "90" ∷ codes "90d" ∷ codes "1rad" ∷ codes "0.0" ∷ []) ∷
    [])
tenths_of_a_degree = refl

-- Ranges are judged over values, and after the word.
ranges :
    (quantity_in Micrometres (neg_ℤ (pos 100000000)) (pos 100000000) (codes "100m") ≡ Ok (pos 100000000))
    × (quantity_in Micrometres (neg_ℤ (pos 100000000)) (pos 100000000) (codes "101m") ≡ Err OutOfRange)
    × (quantity_in Micrometres (neg_ℤ (pos 100000000)) (pos 100000000) (codes "-100.000001m") ≡ Err OutOfRange)
    × (quantity_in Micrometres (neg_ℤ (pos 100000000)) (pos 100000000) (codes "101.0000001m") ≡ Err NotANumber)
    × (quantity_in Micrometres (neg_ℤ (pos 100000000)) (pos 100000000) (codes "101000000") ≡ Err NotANumber)
    × (quantity_in Micrometres (neg_ℤ (pos 32768000)) (pos 32767000) (codes "33m") ≡ Err OutOfRange)
    × (quantity_in Micrometres (neg_ℤ (pos 32768000)) (pos 32767000) (codes "-32.768m") ≡ Ok (neg_ℤ (pos 32768000)))
    × (quantity_in Millimetres (pos 1) (pos 2000) (codes "0") ≡ Err OutOfRange)
    × (quantity_in Millimetres (pos 1) (pos 2000) (codes "2m") ≡ Ok (pos 2000))
    × (quantity_in Milliseconds (pos 1) (pos 65535) (codes "0s") ≡ Err OutOfRange)
    × (quantity_in Milliseconds (pos 1) (pos 65535) (codes "65.536s") ≡ Err OutOfRange)
    × (quantity_in TenthsOfADegree (neg_ℤ (pos 32768)) (pos 32767) (codes "-3276.8deg") ≡ Ok (neg_ℤ (pos 32768)))
    × (quantity_in TenthsOfADegree (neg_ℤ (pos 32768)) (pos 32767) (codes "3276.8deg") ≡ Err OutOfRange)
ranges = (refl, refl, refl, refl, refl, refl, refl, refl, refl, refl, refl, refl, refl)
