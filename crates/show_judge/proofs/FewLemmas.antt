-- How much was read of a text that is too long.
use Rattle.show_judge.proofs.Prelude.{common_steps, ◌≡◌, ◌⊎◌, inl, inr, ℕ, ◌+◌, ◌<◌, ◌≤◌, Bool, true, false, cond, ◌||◌, List, [], ◌∷◌, ◌++◌, length, length-append, Option, Some, None, IfSome, refl, subst, arith, between_feeds, has_marker, is_marker, lines_after, lines_before, part_of, rest_of, ended as ended_lines, Held, stream, TakesFewAfter, TakesAtMost, most_text}
use Rattle.std.specs.List.{join_with_byte}
use Rattle.std.proofs.lemmas.Slice.Eq.{bytes_eq-Decides}
use Rattle.std.proofs.lemmas.List.Splits.{join_with_byte-slice_split}

-- where nothing waits the bytes to come are those of the source
pub stream_new : (held : Held) (left : Option (List ℕ)) → held.waiting ≡ [] → stream held left ≡ left
stream_new held None none = refl
stream_new held (Some bytes) none = rw none refl

-- so what holds of the one holds of the other
pub at_new : (P : Option (List ℕ) → Type 0) (held : Held) (left : Option (List ℕ)) → held.waiting ≡ [] → P (stream held left) → P left
at_new P held left none p = subst P (stream_new held left none) p

or_true : (a b : Bool) → (a || b) ≡ true → (a ≡ true) ⊎ (b ≡ true)
or_true true b e = inl refl
or_true false b e = inr e

-- a marker line has at least two bytes
marker_length : (line : List ℕ) → is_marker line ≡ true → 2 ≤ length line
marker_length line is = grind (arith, common_steps, or_true, bytes_eq-Decides)

-- Nothing stands after a marker line, or what stands before it and after it leaves at least three bytes of the text to it.
abbrev pub AreApart : List ℕ → List ℕ → List ℕ → Type 0
AreApart front rest text = (rest ≡ []) ⊎ (length front + 3 + length rest ≤ length text)

apart_lines : (lines : List (List ℕ)) → has_marker lines ≡ true → AreApart (ended_lines (lines_before lines)) (join_with_byte 10 (lines_after lines)) (join_with_byte 10 lines)
apart_lines [] is = absurd (let e : false ≡ true = is in cc)
apart_lines (line ∷ []) is = grind (arith, common_steps, cond)
apart_lines (line ∷ next ∷ lines) is = by (is_marker line) refl is (apart_lines (next ∷ lines))
  where
    by : (b : Bool) → is_marker line ≡ b → (b || has_marker (next ∷ lines)) ≡ true →
        (has_marker (next ∷ lines) ≡ true → AreApart (ended_lines (lines_before (next ∷ lines))) (join_with_byte 10 (lines_after (next ∷ lines))) (join_with_byte 10 (next ∷ lines))) →
        AreApart (ended_lines (cond b [] (line ∷ lines_before (next ∷ lines)))) (join_with_byte 10 (cond b (next ∷ lines) (lines_after (next ∷ lines)))) (line ++ 10 ∷ join_with_byte 10 (next ∷ lines))
    by true marks found more = inr (omega (arith, marker_length line marks, length-append line (10 ∷ join_with_byte 10 (next ∷ lines))))
    by false marks found more = elim (more found) [
      | inl none ↦ inl none
      | inr long ↦ inr (omega (
        arith,
        long,
        length-append line (10 ∷ join_with_byte 10 (next ∷ lines)),
        length-append line (10 ∷ []),
        length-append (line ++ 10 ∷ []) (ended_lines (lines_before (next ∷ lines))),
      ))
    ]

apart_text : (text : List ℕ) → AreApart (part_of text) (rest_of text) text
unfolding part_of rest_of
apart_text text = by (has_marker (between_feeds text)) refl
  where
    by : (b : Bool) → has_marker (between_feeds text) ≡ b →
        AreApart (cond b (ended_lines (lines_before (between_feeds text))) text) (cond b (join_with_byte 10 (lines_after (between_feeds text))) []) text
    by true is = subst (λ (all : List ℕ). AreApart (ended_lines (lines_before (between_feeds text))) (join_with_byte 10 (lines_after (between_feeds text))) all)
        (join_with_byte-slice_split 10 text) (apart_lines (between_feeds text) is)
    by false is = inl refl

-- where a show's text is too long, at most 4,096 bytes after its marker line were taken
pub few_after_long : (old new : Option (List ℕ)) → IfSome old (λ all. most_text < length (part_of all)) → TakesAtMost (most_text + 4 + 4096) old new → TakesFewAfter old new
few_after_long None new long few = tt
few_after_long (Some all) None long few = tt
few_after_long (Some all) (Some rest) long few = grind (arith, common_steps, apart_text)

-- so it is of the first text of an input
pub long_text : (held : Held) (old new : Option (List ℕ)) (limit : ℕ) → held.waiting ≡ [] → limit ≡ most_text → IfSome (stream held old) (λ comes. limit < length (part_of comes)) →
    TakesAtMost (limit + 4 + 4096) old new → TakesFewAfter old new
long_text held old new limit none is long few =
    few_after_long old new (at_new (λ (left : Option (List ℕ)). IfSome left (λ comes. most_text < length (part_of comes))) held old none (subst (λ (n : ℕ). IfSome (stream held old) (λ comes. n < length (part_of comes))) is long))
    (subst (λ (n : ℕ). TakesAtMost (n + 4 + 4096) old new) is few)
