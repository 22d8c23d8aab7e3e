-- How a text is cut into lines.
use Rattle.std.specs.Prelude.{ℕ, Bool, ◌==◌, List, [], ◌∷◌}
use Rattle.std.specs.List.{slice_split}

-- the byte that ends a line
abbrev pub is_line_feed : ℕ → Bool
is_line_feed b = b == 10

-- the pieces between the line feeds of a text: one more than it has line feeds, the last one empty where it ends with
-- one
abbrev pub between_feeds : List ℕ → List (List ℕ)
between_feeds text = slice_split is_line_feed text

-- the last line may lack its line feed, so an empty piece at the end is no line
abbrev pub without_empty_end : List (List ℕ) → List (List ℕ)
without_empty_end [] = []
without_empty_end ([] ∷ []) = []
without_empty_end (piece ∷ rest) = piece ∷ without_empty_end rest

-- the lines of a text, without their line feeds
abbrev pub lines_of : List ℕ → List (List ℕ)
lines_of text = without_empty_end (between_feeds text)
