-- How little is read of what stands after a text.
use Rattle.show_direct.proofs.Prelude.{◌≡◌, ◌⊎◌, inl, inr, ℕ, ◌+◌, ◌≤◌, Bool, true, false, cond, ◌||◌, List, [], ◌∷◌, ◌++◌, append_assoc, length, length-append, refl, sym, ap, subst, ◌∙◌, arith, join_with_byte, has_marker, is_marker, lines_after, Asked, has_whole_marker, without_last, MayGive, Told, comes, comes_before, left_of}
use Rattle.std.proofs.lemmas.List.Splits.{join_with_byte-slice_split}
use Rattle.text_lines.specs.Lines.{between_feeds, is_line_feed}
unfoldable use Rattle.text_lines.specs.Marker.{rest_of}
use Rattle.byte_streams.proofs.CutLemmas.{IsFull-split, split-goes_on}

-- a line in front makes joined lines longer
join_longer : (l : List ℕ) (ls : List (List ℕ)) → length (join_with_byte 10 ls) ≤ length (join_with_byte 10 (l ∷ ls))
join_longer l [] = omega arith
join_longer l (k ∷ ls) = omega (arith, length-append l (10 ∷ join_with_byte 10 (k ∷ ls)))

-- what stands after the first marker line isn't longer than all lines
after_lines : (ls : List (List ℕ)) → length (join_with_byte 10 (lines_after ls)) ≤ length (join_with_byte 10 ls)
after_lines [] = omega arith
after_lines (l ∷ ls) = elim (is_marker l) as (λ b. length (join_with_byte 10 (cond b ls (lines_after ls))) ≤ length (join_with_byte 10 (l ∷ ls))) [
  | true ↦ join_longer l ls
  | false ↦ omega (arith, after_lines ls, join_longer l ls)
]

-- nor than what stands after lines of which none is a marker line, and after a part of the next one
after_front : (front : List (List ℕ)) (part m : List ℕ) (ms : List (List ℕ)) → has_marker front ≡ false →
    length (join_with_byte 10 (lines_after (front ++ (part ++ m) ∷ ms))) ≤ length (join_with_byte 10 (m ∷ ms))
after_front [] part m ms none = elim (is_marker (part ++ m)) as (λ b. length (join_with_byte 10 (cond b ms (lines_after ms))) ≤ length (join_with_byte 10 (m ∷ ms))) [
  | true ↦ join_longer m ms
  | false ↦ omega (arith, after_lines ms, join_longer m ms)
]
after_front (l ∷ front) part m ms none = by (is_marker l) none (after_front front part m ms)
  where
    by : (b : Bool) → (b || has_marker front) ≡ false →
        (has_marker front ≡ false → length (join_with_byte 10 (lines_after (front ++ (part ++ m) ∷ ms))) ≤ length (join_with_byte 10 (m ∷ ms))) →
        length (join_with_byte 10 (cond b (front ++ (part ++ m) ∷ ms) (lines_after (front ++ (part ++ m) ∷ ms)))) ≤ length (join_with_byte 10 (m ∷ ms))
    by true e later = absurd (cc)
    by false e later = later e

-- lines, apart from the last one
record HasLast (pieces : List (List ℕ)) : Type 0 where
  last : List ℕ
  is : pieces ≡ without_last pieces ++ last ∷ []

last_of : (first : List ℕ) (others : List (List ℕ)) → HasLast (first ∷ others)
last_of first [] = record { last = first; is = refl }
last_of first (next ∷ rest) = let more = last_of next rest in record { last = more.last; is = ap (λ (ps : List (List ℕ)). first ∷ ps) more.is }

by_marker : (marked : Bool) (ls : List (List ℕ)) (n : ℕ) → length (join_with_byte 10 (lines_after ls)) ≤ n → length (cond marked (join_with_byte 10 (lines_after ls)) []) ≤ n
by_marker true ls n few = few
by_marker false ls n few = omega arith

-- What stands after bytes without a whole marker line holds what stands after the first marker line.
pub rest_after : (front more : List ℕ) → has_whole_marker front ≡ false → length (rest_of (front ++ more)) ≤ length more
unfolding rest_of
rest_after front more none =
    let full = IsFull-split is_line_feed front in
    let others = IsFull-split is_line_feed more in
    let cut : HasLast (between_feeds front) = rw full.is (last_of full.first full.others) in
    let all : between_feeds (front ++ more) ≡ without_last (between_feeds front) ++ (cut.last ++ others.first) ∷ others.others =
    split-goes_on is_line_feed front more (without_last (between_feeds front)) cut.last others.first others.others cut.is others.is in
    let back : join_with_byte 10 (others.first ∷ others.others) ≡ more = ap (λ (ls : List (List ℕ)). join_with_byte 10 ls) (sym others.is) ∙ join_with_byte-slice_split 10 more in
    let few : length (join_with_byte 10 (lines_after (between_feeds (front ++ more)))) ≤ length more =
    subst (λ (text : List ℕ). length (join_with_byte 10 (lines_after (between_feeds (front ++ more)))) ≤ length text) back
    (subst (λ (ls : List (List ℕ)). length (join_with_byte 10 (lines_after ls)) ≤ length (join_with_byte 10 (others.first ∷ others.others))) (sym all)
    (after_front (without_last (between_feeds front)) cut.last others.first others.others none)) in
    by_marker (has_marker (between_feeds (front ++ more))) (between_feeds (front ++ more)) (length more) few

-- Before each read the reader held no whole marker line: so at most the bytes of one read stand after the text.
pub few_asked : (met : Bool) (old new : Told) (all waited : List ℕ) → MayGive met new all → (new ≡ old) ⊎ Asked waited old new → length waited ≤ 4096 →
    length (rest_of (waited ++ left_of all old)) ≤ length (left_of all new) + 4096
few_asked met old new all waited may (inl same) held =
    let none = rest_after [] (waited ++ left_of all old) refl in
    omega (arith, none, length-append waited (left_of all old), ap (λ (t : Told). length (left_of all t)) same, held)
few_asked met old new all waited may (inr asked) held =
    let before : left_of all old ≡ (asked.before ++ asked.last) ++ may.rest = comes_before met old new all (asked.before ++ asked.last) may asked.taken in
    let after : left_of all new ≡ may.rest = comes new all may.rest may.is in
    let cut : waited ++ left_of all old ≡ (waited ++ asked.before) ++ (asked.last ++ may.rest) =
    ap (λ (xs : List ℕ). waited ++ xs) (before ∙ append_assoc asked.before asked.last may.rest) ∙ sym (append_assoc waited asked.before (asked.last ++ may.rest)) in
    let few : length (rest_of (waited ++ left_of all old)) ≤ length (asked.last ++ may.rest) =
    subst (λ (text : List ℕ). length (rest_of text) ≤ length (asked.last ++ may.rest)) (sym cut) (rest_after (waited ++ asked.before) (asked.last ++ may.rest) asked.unmarked) in
    omega (arith, few, length-append asked.last may.rest, ap (λ (xs : List ℕ). length xs) after, asked.most)
