-- The words of a text, by their lines, are its lines with words.
use Rattle.text_lines.proofs.Prelude.{◌≡◌, ℕ, suc, ◌+◌, ◌-◌, ◌<◌, ◌≤◌, Bool, true, false, List, [], ◌∷◌, ◌++◌, length, take, drop, refl, sym, ap, subst, ◌∙◌, arith, append_assoc, cond, ◌&&◌, ◌==◌, nat_le, slice_range, drop-drop, append-nil, length-drop, length-append, take_at, take-append-drop, nat_tests, slice_split, onto_first, position_or_len, Comments, FromHash, Absent, is_line_feed, lines_of, without_empty_end, Line, is_blank, visible, without_empty, words_of, line_with, numbered, words_at, tokens_from, tokens_of, word_in, joined, lines_in, Token}
use Rattle.text_lines.proofs.ByLine.{Begins, joined_same, other_line}

-- these pieces stand in the text from a place on, with one byte between them
abbrev StandAt : List ℕ → ℕ → List (List ℕ) → Type 0
StandAt text at [] = Unit {0}
StandAt text at (p ∷ ps) = (more : List ℕ) × (drop at text ≡ p ++ more) × StandAt text (at + length p + 1) ps

drop_next : (text : List ℕ) (at b : ℕ) (rest : List ℕ) → drop at text ≡ b ∷ rest → drop (at + 1) text ≡ rest
drop_next text at b rest h = sym (drop-drop 1 at text) ∙ ap (drop 1) h

stand_cut : (x : Bool) (b : ℕ) (text : List ℕ) (at : ℕ) (ps : List (List ℕ)) (rest : List ℕ) → drop at text ≡ b ∷ rest → StandAt text (at + 1) ps → StandAt text at (cond x ([] ∷ ps) (onto_first b ps))
stand_cut true b text at ps rest h s =
    let e : at + 1 ≡ at + length {A = ℕ} [] + 1 = omega arith in
    (b ∷ rest, h, subst (λ n. StandAt text n ps) e s)
stand_cut false b text at [] rest h s = (rest, h, tt)
stand_cut false b text at (p ∷ ps) rest h (more, d, s) =
    let e : at + 1 + length p + 1 ≡ at + length (b ∷ p) + 1 = omega arith in
    (more, h ∙ ap (λ xs. b ∷ xs) (sym (drop_next text at b rest h) ∙ d), subst (λ n. StandAt text n ps) e s)

stand_pieces : (ends : ℕ → Bool) (bs more text : List ℕ) (at : ℕ) → drop at text ≡ bs ++ more → StandAt text at (slice_split ends bs)
stand_pieces ends [] more text at h = (more, h, tt)
stand_pieces ends (b ∷ bs) more text at h =
    stand_cut (ends b) b text at (slice_split ends bs) (bs ++ more) h (stand_pieces ends bs more text (at + 1) (drop_next text at b (bs ++ more) h))

stand_lines : (text : List ℕ) (at : ℕ) (ps : List (List ℕ)) → StandAt text at ps → StandAt text at (without_empty_end ps)
stand_lines text at [] s = tt
stand_lines text at ([] ∷ []) s = tt
stand_lines text at ((b ∷ p) ∷ []) s = (s.0, s.1, tt)
stand_lines text at ([] ∷ q ∷ ps) (more, d, s) = (more, d, stand_lines text (at + length {A = ℕ} [] + 1) (q ∷ ps) s)
stand_lines text at ((b ∷ p) ∷ q ∷ ps) (more, d, s) = (more, d, stand_lines text (at + length (b ∷ p) + 1) (q ∷ ps) s)

le_yes : (a b : ℕ) → a ≤ b → nat_le a b ≡ true
le_yes a b h = grind (arith, nat_tests)

-- the word of a token that stands in the text
stand_word : (text : List ℕ) (n at : ℕ) (b : ℕ) (p more : List ℕ) → drop at text ≡ (b ∷ p) ++ more → word_in text (record { line = n; start = at; «end» = at + suc (length p) }) ≡ b ∷ p
stand_word text n at b p more h =
    let len : length text - at ≡ suc (length p) + length more = sym (length-drop at text) ∙ ap length h ∙ length-append (b ∷ p) more in
    let diff : at + suc (length p) - at ≡ length (b ∷ p) = omega arith in
    ap (λ x. cond (x && nat_le (at + suc (length p)) (length text)) (slice_range text at (at + suc (length p))) []) (le_yes at (at + suc (length p)) (omega arith))
    ∙ ap (λ x. cond x (slice_range text at (at + suc (length p))) []) (le_yes (at + suc (length p)) (length text) (omega arith))
    ∙ ap (λ m. take m (drop at text)) diff
    ∙ ap (take (length (b ∷ p))) h
    ∙ take_at (b ∷ p) more (length (b ∷ p)) refl

-- no line has the number n, or a smaller one
data Later : ℕ → List Line → Type 0 where
  none : (n : ℕ) → Later n []
  some : (n m : ℕ) (ls : List Line) → n < m → Begins m ls → Later n ls

add_word : (text : List ℕ) (t : Token) (n : ℕ) (ws : List (List ℕ)) (ls : List Line) → t.line ≡ n → Later n ls → joined text t (line_with n ws ls) ≡ line_with n (word_in text t ∷ ws) ls
add_word text t n [] ls e (none m) = ap (λ k. record { number = k; words = word_in text t ∷ [] } ∷ []) e
add_word text t n [] ls e (some n' m ls' lt b) = other_line text t n m ls e (λ q. absurd (omega arith)) b
add_word text t n (w ∷ ws) ls e l = joined_same text t n (w ∷ ws) ls e

group : (text : List ℕ) (n at : ℕ) (ps : List (List ℕ)) (ts : List Token) → StandAt text at ps → Later n (lines_in text ts) → lines_in text (words_at n at ps ++ ts) ≡ line_with n (without_empty ps) (lines_in text ts)
group text n at [] ts s l = refl
group text n at ([] ∷ ps) ts (more, d, s) l = group text n (at + length {A = ℕ} [] + 1) ps ts s l
group text n at ((b ∷ p) ∷ ps) ts (more, d, s) l =
    let t : Token = record { line = n; start = at; «end» = at + suc (length p) } in
    ap (joined text t) (group text n (at + length (b ∷ p) + 1) ps ts s l)
    ∙ add_word text t n (without_empty ps) (lines_in text ts) refl l
    ∙ ap (λ w. record { number = n; words = w ∷ without_empty ps } ∷ lines_in text ts) (stand_word text n at b p more d)

later_with : (n m : ℕ) (ws : List (List ℕ)) (ls : List Line) → n < m → Later n ls → Later n (line_with m ws ls)
later_with n m [] ls h l = l
later_with n m (w ∷ ws) ls h l = some n m (line_with m (w ∷ ws) ls) h (record { words = w ∷ ws; others = ls; is = refl })

numbered_later : (comments : Comments) (n m : ℕ) (ls : List (List ℕ)) → n < m → Later n (numbered comments m ls)
numbered_later comments n m [] h = none n
numbered_later comments n m (l ∷ ls) h =
    later_with n m (words_of (visible comments l)) (numbered comments (m + 1) ls) h (numbered_later comments n (m + 1) ls (omega arith))

visible_front : (comments : Comments) (l : List ℕ) → (rest : List ℕ) × (l ≡ visible comments l ++ rest)
visible_front FromHash l = (drop (position_or_len (λ b. b == 35) l) l, sym (take-append-drop (position_or_len (λ b. b == 35) l) l))
visible_front Absent l = ([], sym (append-nil l))

group_lines : (comments : Comments) (text : List ℕ) (n at : ℕ) (ls : List (List ℕ)) → StandAt text at ls → lines_in text (tokens_from comments n at ls) ≡ numbered comments n ls
group_lines comments text n at [] s = refl
group_lines comments text n at (l ∷ ls) (more, d, s) =
    let o = visible_front comments l in
    let v = visible comments l in
    let there : drop at text ≡ v ++ (o.0 ++ more) = d ∙ ap (λ xs. xs ++ more) o.1 ∙ append_assoc v o.0 more in
    let rest = group_lines comments text (n + 1) (at + length l + 1) ls s in
    let later : Later n (lines_in text (tokens_from comments (n + 1) (at + length l + 1) ls)) = subst (λ xs. Later n xs) (sym rest) (numbered_later comments n (n + 1) ls (omega arith)) in
    group text n at (slice_split is_blank v) (tokens_from comments (n + 1) (at + length l + 1) ls) (stand_pieces is_blank v (o.0 ++ more) text at there) later
    ∙ ap (line_with n (words_of v)) rest

-- the words of a text, by their lines, are its lines with words
pub lines_grouped : (comments : Comments) (text : List ℕ) → lines_in text (tokens_of comments text) ≡ numbered comments 1 (lines_of text)
lines_grouped comments text = group_lines comments text 1 0 (lines_of text) (stand_lines text 0 (slice_split is_line_feed text) (stand_pieces is_line_feed text [] text 0 (sym (append-nil text))))
