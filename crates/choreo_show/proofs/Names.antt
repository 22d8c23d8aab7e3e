-- A name is a word: it has a byte, and no byte of it is a blank or a line feed.
use Rattle.std.proofs.Common.{◌≡◌, ℕ, ◌<◌, ◌≤◌, true, false, List, [], ◌∷◌, length, get_or, arith}
use Rattle.std.proofs.lemmas.Bool.{and_parts, cases_Bool}
use Rattle.std.proofs.lemmas.Grind.{common_steps}
use Rattle.std.specs.Prelude.{◌==◌}
use Rattle.choreo_show.specs.Name.{goes_in_name, begins_lower, is_name}
use Rattle.std.specs.List.{list_all}
use Rattle.std.proofs.lemmas.Bool.Decides.{nat_tests}
use Rattle.std.proofs.lemmas.List.Folds.{list_all_at}

-- a name begins with a letter, and all its bytes go in a name
name_parts : (word : List ℕ) → is_name word ≡ true → (begins_lower word ≡ true) × (list_all goes_in_name word ≡ true)
name_parts word named = grind (arith, common_steps, and_parts)

-- a name has a byte
pub name_has_bytes : (word : List ℕ) → is_name word ≡ true → 0 < length word
name_has_bytes [] named = absurd (let e : false ≡ true = (name_parts [] named).0 in cc)
name_has_bytes (b ∷ word) named = omega arith

above_blanks : (b : ℕ) → goes_in_name b ≡ true → 33 ≤ b
above_blanks b h = grind (arith, nat_tests)

no_line_feed : (b : ℕ) → 33 ≤ b → (b == 10) ≡ false
no_line_feed b h = grind (arith, nat_tests)

byte_goes : (word : List ℕ) (i : ℕ) → is_name word ≡ true → i < length word → goes_in_name (get_or word i 0) ≡ true
byte_goes word i named lt = grind (arith, common_steps, cases_Bool, list_all_at, name_parts)

-- no byte of a name ends a line
pub name_has_no_line_feed : (word : List ℕ) (i : ℕ) → is_name word ≡ true → i < length word → (get_or word i 0 == 10) ≡ false
name_has_no_line_feed word i named lt = no_line_feed (get_or word i 0) (above_blanks (get_or word i 0) (byte_goes word i named lt))
