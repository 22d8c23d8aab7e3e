-- The words of a line on its own are its words in the text.
use Rattle.choreo_reader.proofs.Prelude.{FromHash, ◌≡◌, ℕ, Bool, true, false, cond, List, [], ◌∷◌, ◌++◌, append-nil, refl, sym, ap, subst, ◌∙◌, ◌==◌, slice_split, onto_first, is_line_feed, between_feeds, without_empty_end, lines_of, Line, visible, words_of, line_with, numbered}
use Rattle.text_lines.specs.Tokens.{word_in, words_in, joined, lines_in, tokens_of}
use Rattle.text_lines.specs.declared.token.Token.{Token}
use Rattle.text_lines.proofs.Grouped.{lines_grouped}

-- ---- a line has no line feed

-- the first of these pieces is not cut again
abbrev FirstWhole : (ℕ → Bool) → List (List ℕ) → Type 0
FirstWhole cuts [] = Unit {0}
FirstWhole cuts (piece ∷ pieces) = slice_split cuts piece ≡ piece ∷ []

-- where a list is cut before its first element, and where it isn't
first_by : (cuts : ℕ → Bool) (b : Bool) (x : ℕ) (ps : List (List ℕ)) → cuts x ≡ b → FirstWhole cuts ps → FirstWhole cuts (cond b ([] ∷ ps) (onto_first x ps))
first_by cuts true x ps e h = refl
first_by cuts false x [] e h = ap (λ c. cond c ([] ∷ [] ∷ []) ((x ∷ []) ∷ [])) e
first_by cuts false x (p ∷ ps) e h =
    ap (λ c. cond c ([] ∷ slice_split cuts p) (onto_first x (slice_split cuts p))) e ∙ ap (onto_first x) h

first_whole : (cuts : ℕ → Bool) (xs : List ℕ) → FirstWhole cuts (slice_split cuts xs)
first_whole cuts [] = refl
first_whole cuts (x ∷ xs) = first_by cuts (cuts x) x (slice_split cuts xs) refl (first_whole cuts xs)

kept_whole : (cuts : ℕ → Bool) (ps : List (List ℕ)) → FirstWhole cuts ps → FirstWhole cuts (without_empty_end ps)
kept_whole cuts [] h = tt
kept_whole cuts ([] ∷ []) h = tt
kept_whole cuts ([] ∷ p ∷ ps) h = h
kept_whole cuts ((b ∷ p) ∷ ps) h = h

-- the first line of a text is one piece
pub one_piece : (text line : List ℕ) (later : List (List ℕ)) → lines_of text ≡ line ∷ later → between_feeds line ≡ line ∷ []
one_piece text line later e = subst (FirstWhole is_line_feed) e (kept_whole is_line_feed (between_feeds text) (first_whole is_line_feed text))

-- ---- the words of one line

-- the words of some lines
abbrev words_on : List Line → List (List ℕ)
words_on [] = []
words_on (line ∷ lines) = line.words ++ words_on lines

joined_by : (same : Bool) (text : List ℕ) (t : Token) (l : Line) (ls : List Line) → words_on (cond same (record { number = l.number; words = word_in text t ∷ l.words } ∷ ls) (record { number = t.line; words = word_in text t ∷ [] } ∷ l ∷ ls)) ≡ word_in text t ∷ words_on (l ∷ ls)
joined_by true text t l ls = refl
joined_by false text t l ls = refl

words_joined : (text : List ℕ) (t : Token) (ls : List Line) → words_on (joined text t ls) ≡ word_in text t ∷ words_on ls
words_joined text t [] = refl
words_joined text t (l ∷ ls) = joined_by (t.line == l.number) text t l ls

words_on_lines : (text : List ℕ) (ts : List Token) → words_on (lines_in text ts) ≡ words_in text ts
words_on_lines text [] = refl
words_on_lines text (t ∷ ts) = words_joined text t (lines_in text ts) ∙ ap (λ ws. word_in text t ∷ ws) (words_on_lines text ts)

words_on_one : (n : ℕ) (ws : List (List ℕ)) → words_on (line_with n ws []) ≡ ws
words_on_one n [] = refl
words_on_one n (w ∷ ws) = append-nil (w ∷ ws)

only_line : (line : List ℕ) → numbered FromHash 1 (without_empty_end (line ∷ [])) ≡ line_with 1 (words_of (visible FromHash line)) []
only_line [] = refl
only_line (b ∷ line) = refl

-- the words that are found in a line are its words
pub one_line : (line : List ℕ) (ts : List Token) → between_feeds line ≡ line ∷ [] → ts ≡ tokens_of FromHash line → words_in line ts ≡ words_of (visible FromHash line)
one_line line ts one e =
    ap (words_in line) e
    ∙ sym (words_on_lines line (tokens_of FromHash line))
    ∙ ap words_on (lines_grouped FromHash line)
    ∙ ap (λ ps. words_on (numbered FromHash 1 (without_empty_end ps))) one
    ∙ ap words_on (only_line line)
    ∙ words_on_one 1 (words_of (visible FromHash line))
