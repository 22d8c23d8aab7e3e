-- Short texts, read.
use Rattle.definition_tests.proofs.Prelude.{◌≡◌, ℕ, false, true, List, [], ◌∷◌, ◌++◌, ap, codes, get_or, ◌≤◌, arith, refl, ◌∙◌, All-cons, All-nil, Line, PlainShow, Whole, Units, IsItem, StandsFor, header_of, Late, ShowLaw, show_lines, StandsRows, line_of, nobody}
use Rattle.choreo_lines.specs.declared.table.Form.{Form}

late : StandsFor (line_of (codes "choreo 1") ++ line_of (codes "late 3")) (nobody 3)
late = record {
  form = Whole;
  items = Late 3 ∷ [];
  header = record { number = 1; words = codes "choreo" ∷ codes "1" ∷ [] };
  lines = record { number = 2; words = codes "late" ∷ codes "3" ∷ [] } ∷ [];
  bytes = refl;
  cut = refl;
  first = refl;
  said = (record { number = tt; says = (refl, refl, (record { is = refl; from = omega arith; to = omega arith }, tt)) }, tt);
  each = All-cons IsItem (Late 3) [] tt (All-nil IsItem);
  single = record { memory = omega arith; trajectory = omega arith; ellipsoid = omega arith; stray = omega arith; late = omega arith };
  makes = refl;
}

-- the words of the first of these lines
abbrev first_words : List Line → List (List ℕ)
first_words [] = []
first_words (line ∷ lines) = line.words

-- a header begins with a `c`, and its second word with a digit that is at most 2
letter : (form : Form) → get_or (get_or (header_of form) 0 []) 0 0 ≡ 99
letter Whole = refl
letter Units = refl

-- so does a text that stands for a show, with its first line that has words
pub begins_so : (text : List ℕ) (s : PlainShow) → StandsFor text s → get_or (get_or (first_words (show_lines text)) 0 []) 0 0 ≡ 99
begins_so text s is = ap (λ (ws : List (List ℕ)). get_or (get_or ws 0 []) 0 0) (ap first_words is.cut ∙ is.first) ∙ letter is.form

digit : (form : Form) → get_or (get_or (header_of form) 1 []) 0 0 ≤ 50
digit Whole = omega arith
digit Units = omega arith

pub stands : ShowLaw → StandsRows
stands law = record {
  late = late;
  later = λ also.
      let same : nobody 3 ≡ nobody 4 = law.one (line_of (codes "choreo 1") ++ line_of (codes "late 3")) (nobody 3) (nobody 4) late also in
      let numbers : ◌≡◌ {A = ℕ} 3 4 = ap (λ (s : PlainShow). s.settings.late) same in omega (arith, numbers);
  no_header = λ s is.
      let letters : ◌≡◌ {A = ℕ} 108 99 = begins_so (line_of (codes "late 3")) s is in omega (arith, letters);
  other_header = λ s is.
      let words : (codes "choreo" ∷ codes "3" ∷ []) ≡ header_of is.form = ap first_words is.cut ∙ is.first in
      let digits : 51 ≡ get_or (get_or (header_of is.form) 1 []) 0 0 = ap (λ (ws : List (List ℕ)). get_or (get_or ws 1 []) 0 0) words in
      omega (arith, digits, digit is.form);
  no_line = λ s is. let letters : ◌≡◌ {A = ℕ} 0 99 = begins_so [] s is in omega (arith, letters);
  forbidden_byte = λ s is. let allowed : false ≡ true = is.bytes in cc;
}
