-- The words of a text as places in it.
use Rattle.std.specs.Prelude.{ℕ, zero, suc, ◌+◌, ◌&&◌, List, [], ◌∷◌, ◌++◌, map, length, get_or, ◌==◌, nat_le}
use Rattle.std.specs.Prelude.{slice_range, if◌then◌else◌}
use Rattle.std.specs.List.{slice_split}
use Rattle.text_lines.specs.declared.token.Comments.{Comments}
use Rattle.text_lines.specs.declared.token.Token.{Token}
use Rattle.text_lines.specs.Lines.{lines_of}
use Rattle.text_lines.specs.Words.{is_blank, visible, Line}

-- a word of this many bytes at a place; no bytes are no word
abbrev pub word_token : ℕ → ℕ → ℕ → List Token
word_token line start zero = []
word_token line start (suc len) = record { line = line; start = start; «end» = start + suc len } ∷ []

-- the words among pieces that follow one another from a place on, with one byte between them
abbrev pub words_at : ℕ → ℕ → List (List ℕ) → List Token
words_at line at [] = []
words_at line at (piece ∷ pieces) = word_token line at (length piece) ++ words_at line (at + length piece + 1) pieces

-- the words of what is read of a line, which begins at a place
abbrev pub line_tokens : ℕ → ℕ → List ℕ → List Token
line_tokens line at bytes = words_at line at (slice_split is_blank bytes)

-- the words of lines that follow one another from a place on
abbrev pub tokens_from : Comments → ℕ → ℕ → List (List ℕ) → List Token
tokens_from comments number at [] = []
tokens_from comments number at (line ∷ lines) =
    line_tokens number at (visible comments line) ++ tokens_from comments (number + 1) (at + length line + 1) lines

-- the words of a text in order, each with the number of its line, where it begins, and where it ends
abbrev pub tokens_of : Comments → List ℕ → List Token
tokens_of comments text = tokens_from comments 1 0 (lines_of text)

-- the bytes of a word; none where it stands outside the text
abbrev pub word_in : List ℕ → Token → List ℕ
word_in text t =
    if nat_le t.start t.«end» && nat_le t.«end» (length text) then slice_range text t.start t.«end» else []

-- the bytes of each of these words
abbrev pub words_in : List ℕ → List Token → List (List ℕ)
words_in text tokens = map (word_in text) tokens

-- the first of some words
abbrev pub first_token : List Token → Token
first_token tokens = get_or tokens 0 (record { line = 0; start = 0; «end» = 0 })

-- a word in front of lines with words: on the first of them where it has its number, else on a line of its own
abbrev pub joined : List ℕ → Token → List Line → List Line
joined text t [] = record { number = t.line; words = word_in text t ∷ [] } ∷ []
joined text t (line ∷ lines) =
    if t.line == line.number
    then record { number = line.number; words = word_in text t ∷ line.words } ∷ lines
    else record { number = t.line; words = word_in text t ∷ [] } ∷ line ∷ lines

-- the lines on which these words stand, each with its words
abbrev pub lines_in : List ℕ → List Token → List Line
lines_in text [] = []
lines_in text (t ∷ tokens) = joined text t (lines_in text tokens)
