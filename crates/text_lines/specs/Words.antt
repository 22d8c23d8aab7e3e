-- How a line is cut into words, and the lines of a text that have words.
use Rattle.std.specs.Prelude.{ℕ, ◌+◌, Bool, ◌==◌, ◌||◌, List, [], ◌∷◌}
use Rattle.std.specs.List.{slice_split, before_first}
use Rattle.text_lines.specs.declared.token.Comments.{Comments}
use Rattle.text_lines.specs.declared.token.Comments.TheVariants.{FromHash, Absent}

-- what separates words: a tab, a carriage return, a space
abbrev pub is_blank : ℕ → Bool
is_blank b = b == 9 || b == 13 || b == 32

-- what is read of a line: where a text has comments, what stands before the first `#`, which is the byte 35
abbrev pub visible : Comments → List ℕ → List ℕ
visible FromHash line = before_first (λ b. b == 35) line
visible Absent line = line

-- no word is empty: between two blanks that stand side by side there is none
abbrev pub without_empty : List (List ℕ) → List (List ℕ)
without_empty [] = []
without_empty ([] ∷ pieces) = without_empty pieces
without_empty ((b ∷ piece) ∷ pieces) = (b ∷ piece) ∷ without_empty pieces

-- the words of what is read of a line
abbrev pub words_of : List ℕ → List (List ℕ)
words_of bytes = without_empty (slice_split is_blank bytes)

-- a line with words: its number, and the words
pub record Line : Type 0 where
  pub number : ℕ
  pub words : List (List ℕ)

-- a line in front of later ones, unless it has no word
abbrev pub line_with : ℕ → List (List ℕ) → List Line → List Line
line_with number [] later = later
line_with number (word ∷ words) later = record { number = number; words = word ∷ words } ∷ later

-- those of some lines that have words, in order; the first line has this number, and all lines count
abbrev pub numbered : Comments → ℕ → List (List ℕ) → List Line
numbered comments number [] = []
numbered comments number (line ∷ lines) =
    line_with number (words_of (visible comments line)) (numbered comments (number + 1) lines)
