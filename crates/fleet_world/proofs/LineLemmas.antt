-- A line of a schedule, read alone.
use Rattle.fleet_world.proofs.Prelude.{◌≡◌, ◌⊎◌, inl, inr, ℕ, ◌+◌, ◌<◌, ◌≤◌, Bool, true, false, List, [], ◌∷◌, length, take, drop, get_or, refl, sym, ap, ◌∙◌, arith, nat_lt, get_or-take, length-take, take_all, Absent, is_line_feed, lines_of, Line, line_with, numbered, words_of}
use Rattle.std.specs.List.{position_or_len}
use Rattle.std.proofs.lemmas.Bool.Decides.{nat_tests}
use Rattle.std.proofs.lemmas.List.Sums.{position_or_len_is, fails_before_first}
use Rattle.text_lines.specs.declared.token.Token.{Token}
use Rattle.text_lines.specs.Tokens.{lines_in, tokens_of, words_in}
use Rattle.text_lines.proofs.Cuts.{line_last, line_more, position_within}
use Rattle.text_lines.proofs.Grouped.{lines_grouped}

-- what stands before the first line feed is one line
before_feed : (n : ℕ) (xs line : List ℕ) → n ≡ position_or_len is_line_feed xs → n ≤ length xs → line ≡ take n xs → 0 < length line → lines_of line ≡ line ∷ []
before_feed n xs line is within line_is some =
    let len : length line ≡ n = ap (λ (l : List ℕ). length l) line_is ∙ omega (arith, length-take n xs, within) in
    let none : position_or_len is_line_feed line ≡ length line =
    position_or_len_is is_line_feed line (length line) 0 (omega arith)
    (λ k below. ap (λ (l : List ℕ). is_line_feed (get_or l k 0)) line_is ∙ ap is_line_feed (get_or-take n xs k 0 (omega (arith, below, len)))
    ∙ fails_before_first is_line_feed xs k 0 (omega (arith, below, len, is)))
    (λ less. absurd (omega (arith, less))) in
    line_last (length line) line (sym none) refl some

less_or_same : (b : Bool) (m n : ℕ) → nat_lt m n ≡ b → m ≤ n → (m < n) ⊎ (m ≡ n)
less_or_same true m n e l = inl (grind (arith, nat_tests))
less_or_same false m n e l = inr (grind (arith, nat_tests))

-- a line of a text is the one line of its own text
pub one_line : (xs line : List ℕ) (later : List (List ℕ)) → lines_of xs ≡ line ∷ later → 0 < length line → lines_of line ≡ line ∷ []
one_line [] line later is some = absurd (cc)
one_line (x ∷ xs) line later is some =
    let n : ℕ = position_or_len is_line_feed (x ∷ xs) in
    let within : n ≤ length (x ∷ xs) = position_within is_line_feed (x ∷ xs) in
    elim (less_or_same (nat_lt n (length (x ∷ xs))) n (length (x ∷ xs)) refl within) [
      | inl less ↦
          let cut : line ∷ later ≡ take n (x ∷ xs) ∷ lines_of (drop (n + 1) (x ∷ xs)) = sym is ∙ line_more n (x ∷ xs) refl less in
          let line_is : line ≡ take n (x ∷ xs) = cc in
          before_feed n (x ∷ xs) line refl within line_is some
      | inr same ↦
          let cut : line ∷ later ≡ (x ∷ xs) ∷ [] = sym is ∙ line_last n (x ∷ xs) refl same (omega arith) in
          let line_is : line ≡ x ∷ xs = cc in
          before_feed n (x ∷ xs) line refl within (line_is ∙ sym (take_all n (x ∷ xs) (omega (arith, same)))) some
    ]

-- the words of a line, grouped
grouped : (xs line : List ℕ) (later : List (List ℕ)) (ts : List Token) → lines_of xs ≡ line ∷ later → 0 < length line → ts ≡ tokens_of Absent line → lines_in line ts ≡ line_with 1 (words_of line) []
grouped xs line later ts is some ts_is =
    ap (lines_in line) ts_is ∙ lines_grouped Absent line ∙ ap (numbered Absent 1) (one_line xs line later is some)

no_words : (ws : List (List ℕ)) → [] ≡ line_with 1 ws [] → ws ≡ []
no_words [] is = refl
no_words (w ∷ ws) is = absurd (cc)

-- a line without words
pub blank_line : (xs line : List ℕ) (later : List (List ℕ)) (ts : List Token) → lines_of xs ≡ line ∷ later → ts ≡ tokens_of Absent line → ts ≡ [] → words_of line ≡ []
blank_line xs [] later ts is ts_is none = refl
blank_line xs (b ∷ bs) later ts is ts_is none =
    no_words (words_of (b ∷ bs)) (ap (lines_in (b ∷ bs)) (sym none) ∙ grouped xs (b ∷ bs) later ts is (omega arith) ts_is)

abbrev head_words : List Line → List (List ℕ)
head_words [] = []
head_words (line ∷ lines) = line.words

some_words : (k number : ℕ) (ws vs : List (List ℕ)) (others later : List Line) → record { number = k; words = vs } ∷ others ≡ line_with 1 ws [] → line_with number ws later ≡ record { number = number; words = vs } ∷ later
some_words k number [] vs others later is = absurd (cc)
some_words k number (w ∷ ws) vs others later is =
    let same : w ∷ ws ≡ vs = sym (ap head_words is) in
    ap (λ (us : List (List ℕ)). record { number = number; words = us } ∷ later) same

-- a line with words
pub line_front : (xs line : List ℕ) (after : List (List ℕ)) (ts : List Token) (count k number : ℕ) (later : List Line) → lines_of xs ≡ line ∷ after → ts ≡ tokens_of Absent line → 0 < length ts →
    lines_in line ts ≡ record { number = k; words = words_in line (take count ts) } ∷ lines_in line (drop count ts) →
    line_with number (words_of line) later ≡ record { number = number; words = words_in line (take count ts) } ∷ later
line_front xs [] after ts count k number later is ts_is some front = absurd (omega (arith, some, ap (λ (l : List Token). length l) ts_is))
line_front xs (b ∷ bs) after ts count k number later is ts_is some front =
    some_words k number (words_of (b ∷ bs)) (words_in (b ∷ bs) (take count ts)) (lines_in (b ∷ bs) (drop count ts)) later (sym front ∙ grouped xs (b ∷ bs) after ts is (omega arith) ts_is)
