-- Lists of JSON, and that a report has no float.
use Rattle.std.proofs.Common.{◌≡◌, ℕ, false, List, [], ◌∷◌, map, refl, ap, ◌∙◌}
use Rattle.std.specs.Prelude.{codes, Result, Ok, Err, IsOk, MatchResult}
use Rattle.serde_json.specs.Data.{Data, array, item, member, no_members, number, object, string, unsigned}
use Rattle.serde_json.specs.View.{items_of}
use Rattle.serde_json.specs.Written.{has_float, items_have_float}
use Rattle.report_text.specs.Report.{Report, name_items, number_items, report_data}

pub numbers_are : (ns : List ℕ) → items_of (map (λ (n : ℕ). number (unsigned n)) ns) ≡ number_items ns
numbers_are [] = refl
numbers_are (n ∷ ns) = ap (item (number (unsigned n))) (numbers_are ns)

pub names_are : {A : Type 0} (bytes : A → List ℕ) (names : List A) → items_of (map (λ (name : A). string (bytes name)) names) ≡ name_items (map bytes names)
names_are bytes [] = refl
names_are bytes (name ∷ names) = ap (item (string (bytes name))) (names_are bytes names)

numbers_float : (ns : List ℕ) → items_have_float (number_items ns) ≡ false
numbers_float [] = refl
numbers_float (n ∷ ns) = numbers_float ns

names_float : (names : List (List ℕ)) → items_have_float (name_items names) ≡ false
names_float [] = refl
names_float (name ∷ names) = names_float names

pub no_float : (r : Report) → has_float (report_data r) ≡ false
no_float r = rw (numbers_float r.bytes, names_float r.drones, numbers_float r.packets) refl

-- a value with these members is the report
pub report_is : (r : Report) (value bytes drones packets : Data) → bytes ≡ array (number_items r.bytes) → drones ≡ array (name_items r.drones) → packets ≡ array (number_items r.packets) →
    value ≡ object (member (codes "bytes") bytes (member (codes "cues") (number (unsigned r.cues)) (member (codes "drones") drones
    (member (codes "duration_ms") (number (unsigned r.duration_ms)) (member (codes "nodes") (number (unsigned r.nodes)) (member (codes "packets") packets no_members)))))) →
    value ≡ report_data r
report_is r value bytes drones packets bytes_are drones_are packets_are is = is ∙ rw (bytes_are, drones_are, packets_are) refl

-- bytes that are UTF-8 are read as text
pub read_ok : {A E : Type 0} (r : Result A E) (P : A → Type 0) (Q : E → Type 0) (U : Type 0) → MatchResult r P (λ (e : E). (U → ⊥) × Q e) → U → IsOk r
read_ok (Ok x) P Q U cases is = refl
read_ok (Err e) P Q U cases is = absurd (cases.0 is)
