-- The first line of a text.
use Rattle.sep_certificate.proofs.Prelude.{◌≡◌, ℕ, ◌≤◌, Bool, ◌==◌, arith, refl, List, [], ◌∷◌, length, lines_of_parts, strip_carriage_return}

abbrev is_feed : ℕ → Bool
is_feed b = b == 10

-- the first part of a text is a line, where others follow
pub strip_first : (x : List ℕ) (parts : List (List ℕ)) → 1 ≤ length parts → lines_of_parts (x ∷ parts) ≡ strip_carriage_return x ∷ lines_of_parts parts
strip_first x [] some = absurd (omega arith)
strip_first x (y ∷ more) some = refl
