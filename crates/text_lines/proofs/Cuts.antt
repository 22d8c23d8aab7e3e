-- The first piece of bytes that are cut, and what stands after it.
use Rattle.text_lines.proofs.Prelude.{◌≡◌, ℕ, ◌+◌, ◌<◌, ◌≤◌, Bool, true, false, cond, List, [], ◌∷◌, ◌++◌, length, take, drop, refl, sym, ap, ◌∙◌, append_assoc, append-nil, Option, Some, None, arith, unwrap_or, not, false_from_ne_true, slice_split, onto_first, position_or_len, length-take, Token, Comments, is_line_feed, lines_of, without_empty_end, is_blank, visible, word_token, words_at, line_tokens, tokens_from, fails_before_first, position_or_len_is, prefix_len-le-length}
use Rattle.memchr.specs.Find.{IsFirstByte}
use Rattle.std.proofs.lemmas.List.Splits.{slice_split_first, slice_split_none}

pub position_within : (p : ℕ → Bool) (xs : List ℕ) → position_or_len p xs ≤ length xs
position_within p xs = prefix_len-le-length (λ x. not (p x)) xs

-- the first byte that passes is at the place that a search finds, or there is none
pub first_found : (p : ℕ → Bool) (xs : List ℕ) (o : Option ℕ) → IsFirstByte p xs o → unwrap_or o (length xs) ≡ position_or_len p xs
first_found p xs None none =
    sym (position_or_len_is p xs (length xs) 0 (omega arith) (λ k lt. false_from_ne_true _ (none k (omega arith) lt)) (λ lt. absurd (omega (arith, lt))))
first_found p xs (Some k) found =
    sym (position_or_len_is p xs k 0 (omega (arith, found.0.high)) (λ j lt. false_from_ne_true _ (found.0.before j (omega arith) lt)) (λ lt. found.1))

-- bytes with an end in them are cut there
pub cut_more : (p : ℕ → Bool) (n : ℕ) (xs : List ℕ) → n ≡ position_or_len p xs → n < length xs → slice_split p xs ≡ take n xs ∷ slice_split p (drop (n + 1) xs)
cut_more p n xs is lt = rw is (slice_split_first p xs 0 (rw (← is) lt))

-- bytes without an end are one piece
pub cut_none : (p : ℕ → Bool) (n : ℕ) (xs : List ℕ) → n ≡ position_or_len p xs → n ≡ length xs → slice_split p xs ≡ xs ∷ []
cut_none p n xs is all = slice_split_none p xs (λ k d lt. fails_before_first p xs k d (omega arith))

-- ---- lines

record SomePieces (ps : List (List ℕ)) : Type 0 where
  first : List ℕ
  others : List (List ℕ)
  is : ps ≡ first ∷ others

pieces_some_by : (b : Bool) (x : ℕ) (ps : List (List ℕ)) → SomePieces (cond b ([] ∷ ps) (onto_first x ps))
pieces_some_by true x ps = record { first = []; others = ps; is = refl }
pieces_some_by false x [] = record { first = x ∷ []; others = []; is = refl }
pieces_some_by false x (p ∷ ps) = record { first = x ∷ p; others = ps; is = refl }

pieces_some : (p : ℕ → Bool) (xs : List ℕ) → SomePieces (slice_split p xs)
pieces_some p [] = record { first = []; others = []; is = refl }
pieces_some p (x ∷ xs) = pieces_some_by (p x) x (slice_split p xs)

not_last : (w p : List ℕ) (ps : List (List ℕ)) → without_empty_end (w ∷ p ∷ ps) ≡ w ∷ without_empty_end (p ∷ ps)
not_last [] p ps = refl
not_last (b ∷ w) p ps = refl

alone : (w : List ℕ) → 0 < length w → without_empty_end (w ∷ []) ≡ w ∷ []
alone [] h = absurd (omega arith)
alone (b ∷ w) h = refl

-- a line that a line feed ends
pub line_more : (n : ℕ) (xs : List ℕ) → n ≡ position_or_len is_line_feed xs → n < length xs → lines_of xs ≡ take n xs ∷ lines_of (drop (n + 1) xs)
line_more n xs is lt =
    let s = pieces_some is_line_feed (drop (n + 1) xs) in
    ap without_empty_end (cut_more is_line_feed n xs is lt)
    ∙ ap (λ ps. without_empty_end (take n xs ∷ ps)) s.is
    ∙ not_last (take n xs) s.first s.others
    ∙ ap (λ ps. take n xs ∷ without_empty_end ps) (sym s.is)

-- a last line without its line feed
pub line_last : (n : ℕ) (xs : List ℕ) → n ≡ position_or_len is_line_feed xs → n ≡ length xs → 0 < length xs → lines_of xs ≡ xs ∷ []
line_last n xs is all some = ap without_empty_end (cut_none is_line_feed n xs is all) ∙ alone xs some

-- ---- words

-- a word, and those after the blank that ends it
pub word_more : (line at n : ℕ) (xs : List ℕ) (old new total : List Token) → n ≡ position_or_len is_blank xs → n < length xs → new ≡ old ++ word_token line at n → old ++ line_tokens line at xs ≡ total → new ++ line_tokens line (at + (n + 1)) (drop (n + 1) xs) ≡ total
word_more line at n xs old new total is lt made so_far =
    let size : length (take n xs) ≡ n = omega (arith, length-take n xs) in
    let place : at + (n + 1) ≡ at + n + 1 = omega arith in
    let cut : line_tokens line at xs ≡ word_token line at n ++ line_tokens line (at + n + 1) (drop (n + 1) xs) =
    ap (words_at line at) (cut_more is_blank n xs is lt)
    ∙ ap (λ (k : ℕ). word_token line at k ++ line_tokens line (at + k + 1) (drop (n + 1) xs)) size in
    ap (λ (k : ℕ). new ++ line_tokens line k (drop (n + 1) xs)) place
    ∙ ap (λ ts. ts ++ line_tokens line (at + n + 1) (drop (n + 1) xs)) made
    ∙ append_assoc old (word_token line at n) (line_tokens line (at + n + 1) (drop (n + 1) xs))
    ∙ ap (λ ts. old ++ ts) (sym cut)
    ∙ so_far

-- the last word
pub word_last : (line at n : ℕ) (xs : List ℕ) (old new total : List Token) → n ≡ position_or_len is_blank xs → n ≡ length xs → new ≡ old ++ word_token line at n → old ++ line_tokens line at xs ≡ total → new ≡ total
word_last line at n xs old new total is all made so_far =
    let cut : line_tokens line at xs ≡ word_token line at n =
    ap (words_at line at) (cut_none is_blank n xs is all)
    ∙ append-nil (word_token line at (length xs))
    ∙ ap (word_token line at) (sym all) in
    made ∙ ap (λ ts. old ++ ts) (sym cut) ∙ so_far

-- the words of one more line
pub line_put : (comments : Comments) (number at : ℕ) (line shown rest behind : List ℕ) (old new total : List Token) → lines_of rest ≡ line ∷ lines_of behind → shown ≡ visible comments line → new ≡ old ++ line_tokens number at shown → old ++ tokens_from comments number at (lines_of rest) ≡ total → new ++ tokens_from comments (number + 1) (at + (length line + 1)) (lines_of behind) ≡ total
line_put comments number at line shown rest behind old new total cut seen made so_far =
    let place : at + (length line + 1) ≡ at + length line + 1 = omega arith in
    let later = tokens_from comments (number + 1) (at + length line + 1) (lines_of behind) in
    ap (λ (k : ℕ). new ++ tokens_from comments (number + 1) k (lines_of behind)) place
    ∙ ap (λ ts. ts ++ later) made
    ∙ ap (λ bytes. (old ++ line_tokens number at bytes) ++ later) seen
    ∙ append_assoc old (line_tokens number at (visible comments line)) later
    ∙ ap (λ ls. old ++ tokens_from comments number at ls) (sym cut)
    ∙ so_far
