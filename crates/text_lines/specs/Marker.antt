-- A text and the marker lines that cut it into parts.
use Rattle.std.specs.Prelude.{ℕ, List, [], ◌∷◌, ◌++◌, Bool, ◌||◌, if◌then◌else◌, bytes_eq}
use Rattle.std.specs.List.{list_any, flat_map, join_with_byte}
use Rattle.text_lines.specs.Lines.{between_feeds}

-- `%%`, or `%%` and a carriage return
abbrev pub is_marker : List ℕ → Bool
is_marker line = bytes_eq line (37 ∷ 37 ∷ []) || bytes_eq line (37 ∷ 37 ∷ 13 ∷ [])

-- whether a marker line stands among these pieces; one without a line feed at the end of the text counts too
abbrev pub has_marker : List (List ℕ) → Bool
has_marker pieces = list_any is_marker pieces

abbrev pub lines_before : List (List ℕ) → List (List ℕ)
lines_before [] = []
lines_before (line ∷ lines) = if is_marker line then [] else line ∷ lines_before lines

abbrev pub lines_after : List (List ℕ) → List (List ℕ)
lines_after [] = []
lines_after (line ∷ lines) = if is_marker line then lines else lines_after lines

-- lines, each with a line feed at its end
abbrev pub ended : List (List ℕ) → List ℕ
ended lines = flat_map (λ line. line ++ 10 ∷ []) lines

-- what stands before the first marker line: whole lines, or all of the text
unfoldable pub part_of : List ℕ → List ℕ
part_of text = if has_marker (between_feeds text) then ended (lines_before (between_feeds text)) else text

-- what stands after the first marker line
unfoldable pub rest_of : List ℕ → List ℕ
rest_of text = if has_marker (between_feeds text) then join_with_byte 10 (lines_after (between_feeds text)) else []
