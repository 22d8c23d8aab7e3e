-- The words in bytes, from the first of them on.
use Rattle.hemtoghai.proofs.Prelude.{◌≡◌, inl, inr, ℕ, ◌+◌, ◌<◌, ◌≤◌, List, [], ◌∷◌, ◌++◌, length, take, drop, refl, sym, ap, subst, ◌∙◌, arith, append_assoc, All, IsUtf8, position_or_len, slice_split, cases_lt, take_all, divides, words_in}
use Rattle.std.proofs.lemmas.List.Elements.{All-nil, All-cons, All-head, All-tail}
use Rattle.text_lines.specs.Words.{without_empty}
use Rattle.text_lines.proofs.Cuts.{cut_more, cut_none, position_within}

one_piece : (p : List ℕ) (ps : List (List ℕ)) → without_empty (p ∷ ps) ≡ without_empty (p ∷ []) ++ without_empty ps
one_piece [] ps = refl
one_piece (b ∷ bs) ps = refl

-- the first piece, and the words after what ends it
words_more : (n : ℕ) (xs : List ℕ) → n ≡ position_or_len divides xs → n < length xs → words_in xs ≡ without_empty (take n xs ∷ []) ++ words_in (drop (n + 1) xs)
words_more n xs is lt = ap without_empty (cut_more divides n xs is lt) ∙ one_piece (take n xs) (slice_split divides (drop (n + 1) xs))

-- the last piece
words_last : (n : ℕ) (xs : List ℕ) → n ≡ position_or_len divides xs → n ≡ length xs → words_in xs ≡ without_empty (take n xs ∷ [])
words_last n xs is all =
    let whole : take n xs ≡ xs = take_all n xs (omega (arith, all)) in
    ap without_empty (cut_none divides n xs is all) ∙ ap (λ (p : List ℕ). without_empty (p ∷ [])) (sym whole)

-- with the first piece taken, the words after it are left
pub words_taken : (n : ℕ) (xs : List ℕ) (old new all : List (List ℕ)) → n ≡ position_or_len divides xs → n < length xs → new ≡ old ++ without_empty (take n xs ∷ []) → old ++ words_in xs ≡ all → new ++ words_in (drop (n + 1) xs) ≡ all
words_taken n xs old new all is lt made so_far =
    ap (λ (ws : List (List ℕ)). ws ++ words_in (drop (n + 1) xs)) made
    ∙ append_assoc old (without_empty (take n xs ∷ [])) (words_in (drop (n + 1) xs))
    ∙ ap (λ (ws : List (List ℕ)). old ++ ws) (sym (words_more n xs is lt))
    ∙ so_far

-- with the last one taken, none is
pub words_done : (n : ℕ) (xs : List ℕ) (old new all : List (List ℕ)) → n ≡ position_or_len divides xs → n ≡ length xs → new ≡ old ++ without_empty (take n xs ∷ []) → old ++ words_in xs ≡ all → new ≡ all
words_done n xs old new all is last made so_far = made ∙ ap (λ (ws : List (List ℕ)). old ++ ws) (sym (words_last n xs is last)) ∙ so_far

all_right : (P : List ℕ → Type 0) (xs ys : List (List ℕ)) → All P (xs ++ ys) → All P ys
all_right P [] ys each = each
all_right P (x ∷ xs) ys each = all_right P xs ys (All-tail P x (xs ++ ys) each)

all_left : (P : List ℕ → Type 0) (xs ys : List (List ℕ)) → All P (xs ++ ys) → All P xs
all_left P [] ys each = All-nil P
all_left P (x ∷ xs) ys each = All-cons P x xs (All-head P x (xs ++ ys) each) (all_left P xs ys (All-tail P x (xs ++ ys) each))

-- where the first piece isn't UTF-8, not all words are
pub not_all : (n : ℕ) (xs : List ℕ) (old all : List (List ℕ)) → n ≡ position_or_len divides xs → old ++ words_in xs ≡ all → (All IsUtf8 (without_empty (take n xs ∷ [])) → ⊥) → All IsUtf8 all → ⊥
not_all n xs old all is so_far faulty each =
    let rest : All IsUtf8 (words_in xs) = all_right IsUtf8 old (words_in xs) (subst (All IsUtf8) (sym so_far) each) in
    elim (cases_lt n (length xs)) [
      | inl lt ↦ faulty (all_left IsUtf8 _ (words_in (drop (n + 1) xs)) (subst (All IsUtf8) (words_more n xs is lt) rest))
      | inr le ↦
          let within : position_or_len divides xs ≤ length xs = position_within divides xs in
          faulty (subst (All IsUtf8) (words_last n xs is (omega (arith, le, is, within))) rest)
    ]

-- one word that isn't UTF-8 is one of its own piece
pub not_one : (word : List ℕ) → (IsUtf8 word → ⊥) → 0 < length word → All IsUtf8 (without_empty (word ∷ [])) → ⊥
not_one [] faulty some each = omega (arith, some)
not_one (b ∷ bs) faulty some each = faulty (All-head IsUtf8 (b ∷ bs) [] each)
