-- Words, templates and lines of a text.
use Rattle.std.specs.Prelude.{◌≡◌, ℕ, ◌-◌, ◌/◌, ◌%◌, ◌+◌, List, [], ◌∷◌, ◌++◌, true, false, ◌==◌, nat_lt, if◌then◌else◌}
use Rattle.std.specs.Prelude.{length, map, decimal, slice_index_or}
use Rattle.std.specs.Fmt.{signed_decimal}
use Rattle.std.specs.List.{flat_map, sum_by}
use Rattle.byte_streams.specs.declared.words.Word.{Word}
use Rattle.byte_streams.specs.declared.words.Word.TheVariants as entry

-- an upper-case hexadecimal digit
abbrev pub hex_digit : ℕ → ℕ
hex_digit n = if nat_lt n 10 then 48 + n else 55 + n

-- a byte as two upper-case hexadecimal digits
abbrev pub hex_word : ℕ → List ℕ
hex_word byte = hex_digit (byte / 16) ∷ hex_digit (byte % 16) ∷ []

-- Bytes that can stand as a word: some, and the last of them is no line feed.
abbrev pub IsWord : List ℕ → Type 0
IsWord word = (slice_index_or word (length word - 1) 10 == 10) ≡ false

-- a line: its first word, the others, each after a space, and a line feed
abbrev pub line : List ℕ → List (List ℕ) → List ℕ
line first others = first ++ flat_map (λ (word : List ℕ). 32 ∷ word) others ++ 10 ∷ []

-- the bytes of a word
abbrev pub word_bytes : Word → List ℕ
word_bytes (entry.Bytes bytes) = bytes.now
word_bytes (entry.Number n) = decimal n
word_bytes (entry.Large n) = decimal n
word_bytes (entry.Decimal z) = signed_decimal z

-- A template with each of these at a place of its own, in their order; a place is a question mark. With none left the
-- template stands as it is.
abbrev pub filled : List ℕ → List (List ℕ) → List ℕ
filled [] words = []
filled (byte ∷ rest) [] = byte ∷ rest
filled (byte ∷ rest) (word ∷ words) =
    elim (byte == 63) [ true ↦ word ++ filled rest words | false ↦ byte ∷ filled rest (word ∷ words) ]

-- the line of a template with these words at its places
abbrev pub filled_line : List ℕ → List Word → List ℕ
filled_line template words = filled template (map word_bytes words) ++ 10 ∷ []

-- how many bytes a word takes at most
abbrev pub word_room : Word → ℕ
word_room (entry.Bytes bytes) = length bytes.now
word_room (entry.Number n) = 10
word_room (entry.Large n) = 20
word_room (entry.Decimal z) = 20

-- how many bytes these take at most
abbrev pub words_room : List Word → ℕ
words_room words = sum_by word_room words

-- the most bytes of a short line, with its line feed
abbrev pub short_line_bytes : ℕ
short_line_bytes = 160
