-- The words of a call, from its bytes.
use Rattle.std.specs.Prelude.{ℕ, Bool, List, nat_le}
use Rattle.std.specs.List.{slice_split}
use Rattle.text_lines.specs.Words.{without_empty}

-- what stands between words: a space, a line feed, a zero byte, and each other byte up to a space
abbrev pub divides : ℕ → Bool
divides b = nat_le b 32

-- the words that stand in these bytes; none is empty
abbrev pub words_in : List ℕ → List (List ℕ)
words_in bytes = without_empty (slice_split divides bytes)
