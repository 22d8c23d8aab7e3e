-- Texts of both forms, read.
use Rattle.definition_tests.proofs.Prelude.{◌≡◌, inl, inr, ℕ, ◌*◌, ◌^◌, ◌<◌, ℤ, ◌≤ℤ◌, neg_ℤ, false, pos, List, [], ◌∷◌, ◌++◌, length, None, Some, codes, arith, refl, All-cons, All-nil, values_in, row_line, Whole, Units, PlainShow, fault, IsItem, Item, StandsFor, Blocks, Drone, ShowLaw, Fault, fault_at, line_of}
use Rattle.text_lines.specs.Numbers.{natural_of}
use Rattle.choreo_lines.specs.Quantities.{IsQuantityIn}
use Rattle.choreo_lines.specs.Units.{Measure, measure_of}
use Rattle.choreo_lines.specs.declared.unit.Counts.{Counts}
use Rattle.choreo_lines.specs.declared.unit.Counts.TheVariants.{Micrometres, Milliseconds, TenthsOfADegree}
use Rattle.choreo_lines.specs.declared.line.LineKind.TheVariants as kind
use Rattle.definition_tests.specs.Forms.{FormRows, at_height, moved, the_drone, unit_text, whole_text}

abbrev items : List Item
items = Drone the_drone ∷ Blocks moved.body ∷ []

whole : StandsFor whole_text moved
whole = record {
  form = Whole;
  items = items;
  header = record { number = 1; words = codes "choreo" ∷ codes "1" ∷ [] };
  lines =
      record { number = 2; words = codes "drone" ∷ codes "solo" ∷ codes "0" ∷ codes "0" ∷ codes "1000000" ∷ codes "0" ∷ [] }
      ∷ record { number = 3; words = codes "cue" ∷ codes "2000" ∷ [] }
      ∷ record { number = 4; words = codes "solo" ∷ codes "move" ∷ codes "1000000" ∷ codes "0" ∷ codes "1000000" ∷ codes "0" ∷ [] }
      ∷ record { number = 5; words = codes "end" ∷ [] } ∷ [];
  bytes = refl;
  cut = refl;
  first = refl;
  said = (
    record { number = refl; says = (refl, refl, ((refl, refl), (record { is = refl; from = omega arith; to = omega arith }, (record { is = refl; from = omega arith; to = omega arith }, (record { is = refl; from = omega arith; to = omega arith }, (record { is = refl; from = omega arith; to = omega arith }, tt)))))) },
    (
      record { number = refl; says = (refl, refl, (record { is = refl; from = omega arith; to = omega arith }, tt)) },
      (
        record { number = refl; says = ((refl, refl), (refl, (record { is = refl; from = omega arith; to = omega arith }, (record { is = refl; from = omega arith; to = omega arith }, (record { is = refl; from = omega arith; to = omega arith }, (record { is = refl; from = omega arith; to = omega arith }, tt)))))) },
        (record { number = tt; says = (refl, refl, tt) }, tt),
      ),
    ),
  );
  each = All-cons IsItem (Drone the_drone) (Blocks moved.body ∷ []) tt (All-cons IsItem (Blocks moved.body) [] (refl, omega arith) (All-nil IsItem));
  single = record { memory = omega arith; trajectory = omega arith; ellipsoid = omega arith; stray = omega arith; late = omega arith };
  makes = refl;
}

-- a zero is a quantity of each kind
zero_in : (counts : Counts) (low high : ℤ) → low ≤ℤ pos 0 → pos 0 ≤ℤ high → IsQuantityIn counts low high (codes "0") (pos 0)
zero_in counts low high above below = record { is = inl (refl, refl); from = above; to = below }

-- a whole number of a unit is a quantity
of_whole : (counts : Counts) (low high value : ℤ) (whole unit : List ℕ) (digits : ℕ) (measure : Measure) (size : ℕ) → 0 < length whole → natural_of (whole ++ []) ≡ Some digits →
    measure_of counts unit ≡ Some measure → size * (measure.units * 10 ^ 0) ≡ digits * measure.counted → value ≡ pos size → low ≤ℤ value → value ≤ℤ high →
    IsQuantityIn counts low high (whole ++ unit) value
of_whole counts low high value whole unit digits measure size some digits_are unit_is size_is value_is from to = record {
  is = inr (record {
    negative = false;
    whole = whole;
    fraction = [];
    unit = unit;
    digits = digits;
    measure = measure;
    size = size;
    word_is = refl;
    some = some;
    digits_are = digits_are;
    unit_is = unit_is;
    size_is = size_is;
    value_is = value_is;
  });
  from = from;
  to = to;
}

metre : IsQuantityIn Micrometres (neg_ℤ (pos 100000000)) (pos 100000000) (codes "1m") (pos 1000000)
metre = of_whole Micrometres _ _ _ (codes "1") (codes "m") 1 (record { units = 1; counted = 1000000 }) 1000000 (omega arith) refl refl refl refl (omega arith) (omega arith)

centimetres : IsQuantityIn Micrometres (neg_ℤ (pos 100000000)) (pos 100000000) (codes "100cm") (pos 1000000)
centimetres = of_whole Micrometres _ _ _ (codes "100") (codes "cm") 100 (record { units = 1; counted = 10000 }) 1000000 (omega arith) refl refl refl refl (omega arith) (omega arith)

seconds : IsQuantityIn Milliseconds (pos 1) (pos 65535) (codes "2s") (pos 2000)
seconds = of_whole Milliseconds _ _ _ (codes "2") (codes "s") 2 (record { units = 1; counted = 1000 }) 2000 (omega arith) refl refl refl refl (omega arith) (omega arith)

degrees : IsQuantityIn TenthsOfADegree (neg_ℤ (pos 32768)) (pos 32767) (codes "0deg") (pos 0)
degrees = of_whole TenthsOfADegree _ _ _ (codes "0") (codes "deg") 0 (record { units = 1; counted = 10 }) 0 (omega arith) refl refl refl refl (omega arith) (omega arith)

units : StandsFor unit_text moved
units = record {
  form = Units;
  items = items;
  header = record { number = 1; words = codes "choreo" ∷ codes "2" ∷ [] };
  lines =
      record { number = 2; words = codes "drone" ∷ codes "solo" ∷ codes "0" ∷ codes "0" ∷ codes "1m" ∷ codes "0" ∷ [] }
      ∷ record { number = 3; words = codes "cue" ∷ codes "2s" ∷ [] }
      ∷ record { number = 4; words = codes "solo" ∷ codes "move" ∷ codes "1m" ∷ codes "0" ∷ codes "100cm" ∷ codes "0deg" ∷ [] }
      ∷ record { number = 5; words = codes "end" ∷ [] } ∷ [];
  bytes = refl;
  cut = refl;
  first = refl;
  said = (
    record { number = refl; says = (refl, refl, ((refl, refl), (zero_in _ _ _ (omega arith) (omega arith), (zero_in _ _ _ (omega arith) (omega arith), (metre, (zero_in _ _ _ (omega arith) (omega arith), tt)))))) },
    (
      record { number = refl; says = (refl, refl, (seconds, tt)) },
      (
        record { number = refl; says = ((refl, refl), (refl, (metre, (zero_in _ _ _ (omega arith) (omega arith), (centimetres, (degrees, tt)))))) },
        (record { number = tt; says = (refl, refl, tt) }, tt),
      ),
    ),
  );
  each = All-cons IsItem (Drone the_drone) (Blocks moved.body ∷ []) tt (All-cons IsItem (Blocks moved.body) [] (refl, omega arith) (All-nil IsItem));
  single = record { memory = omega arith; trajectory = omega arith; ellipsoid = omega arith; stray = omega arith; late = omega arith };
  makes = refl;
}

-- a text with a fault is that of no show
refused : ShowLaw → (text : List ℕ) (f : Fault) → fault text ≡ Some f → (s : PlainShow) → StandsFor text s → ⊥
refused law text f found s is = let none : fault text ≡ None = (law.faultless text).0 (s, is) in cc

bare_fault : fault (at_height (codes "choreo 2") (codes "1000000")) ≡ Some (fault_at 2 kind.BadNumber)
unfolding values_in row_line
bare_fault = refl

early_fault : fault (at_height (codes "choreo 1") (codes "1m")) ≡ Some (fault_at 2 kind.BadNumber)
unfolding values_in row_line
early_fault = refl

finer_fault : fault (at_height (codes "choreo 2") (codes "1.0000001m")) ≡ Some (fault_at 2 kind.BadNumber)
unfolding values_in row_line
finer_fault = refl

farther_fault : fault (at_height (codes "choreo 2") (codes "101m")) ≡ Some (fault_at 2 kind.Range)
unfolding values_in row_line
farther_fault = refl

pub forms : ShowLaw → FormRows
forms law = record {
  whole = whole;
  units = units;
  bare = refused law (at_height (codes "choreo 2") (codes "1000000")) (fault_at 2 kind.BadNumber) bare_fault;
  bare_fault = bare_fault;
  early_unit = refused law (at_height (codes "choreo 1") (codes "1m")) (fault_at 2 kind.BadNumber) early_fault;
  finer = finer_fault;
  farther = farther_fault;
  padded = refused law (line_of (codes "choreo 02")) (fault_at 1 kind.Header) refl;
}
