-- A part byte by byte is the part by lines.
use Rattle.byte_streams.proofs.Prelude.{common_steps, ◌≡◌, ℕ, Bool, true, false, cond, ◌&&◌, ◌||◌, eqb, List, [], ◌∷◌, ◌++◌, append_assoc, refl, sym, ap, ◌∙◌, arith, join_with_byte, onto_first, eqb-true, join_with_byte-slice_split, between_feeds, is_marker, has_marker, lines_before, lines_after, ended, part_of, rest_of, ArePlain, begins_after, first_piece, after_piece, part_left, is_marked_left, rest_left, PartLaw}

-- the pieces after the first
abbrev tail_pieces : List ℕ → List (List ℕ)
tail_pieces [] = []
tail_pieces (b ∷ bytes) = cond (eqb b 10) (between_feeds bytes) (tail_pieces bytes)

split_is : (xs : List ℕ) → between_feeds xs ≡ first_piece xs ∷ tail_pieces xs
split_is [] = refl
split_is (b ∷ bytes) = go (eqb b 10) (split_is bytes)
  where
    go : (c : Bool) → between_feeds bytes ≡ first_piece bytes ∷ tail_pieces bytes →
        cond c ([] ∷ between_feeds bytes) (onto_first b (between_feeds bytes)) ≡ cond c [] (b ∷ first_piece bytes) ∷ cond c (between_feeds bytes) (tail_pieces bytes)
    go true is = refl
    go false is = ap (onto_first b) is

-- ---- marked
marked_is : (bytes : List ℕ) (at_line : Bool) → is_marked_left at_line bytes ≡ ((at_line && is_marker (first_piece bytes)) || has_marker (tail_pieces bytes))
marked_is [] true = refl
marked_is [] false = refl
marked_is (b ∷ bytes) at_line = go (at_line && is_marker (first_piece (b ∷ bytes))) (marked_is bytes (eqb b 10))
  where
    later : (c : Bool) → ((c && is_marker (first_piece bytes)) || has_marker (tail_pieces bytes)) ≡ has_marker (cond c (between_feeds bytes) (tail_pieces bytes))
    later true = ap has_marker (sym (split_is bytes))
    later false = refl

    go : (m : Bool) → is_marked_left (eqb b 10) bytes ≡ ((eqb b 10 && is_marker (first_piece bytes)) || has_marker (tail_pieces bytes)) →
        cond m true (is_marked_left (eqb b 10) bytes) ≡ (m || has_marker (tail_pieces (b ∷ bytes)))
    go true before = refl
    go false before = before ∙ later (eqb b 10)

-- ---- the part
abbrev left_of : Bool → List ℕ → List ℕ → List (List ℕ) → List ℕ
left_of m bytes first tail = cond m [] (cond (has_marker tail) (first ++ 10 ∷ ended (lines_before tail)) bytes)

part_is : (bytes : List ℕ) (at_line : Bool) → part_left at_line bytes ≡ left_of (at_line && is_marker (first_piece bytes)) bytes (first_piece bytes) (tail_pieces bytes)
part_is [] true = refl
part_is [] false = refl
part_is (b ∷ bytes) at_line = go (at_line && is_marker (first_piece (b ∷ bytes))) (eqb b 10) refl (part_is bytes (eqb b 10))
  where
    -- after a line feed
    feed : (m k : Bool) → is_marker (first_piece bytes) ≡ m → has_marker (tail_pieces bytes) ≡ k →
        b ∷ cond m [] (cond k (first_piece bytes ++ 10 ∷ ended (lines_before (tail_pieces bytes))) bytes)
        ≡ cond (m || k) (b ∷ ended (cond m [] (first_piece bytes ∷ lines_before (tail_pieces bytes)))) (b ∷ bytes)
    feed true k f g = refl
    feed false true f g = ap (λ (xs : List ℕ). b ∷ xs) (sym (append_assoc (first_piece bytes) (10 ∷ []) (ended (lines_before (tail_pieces bytes)))))
    feed false false f g = refl

    plain : (k : Bool) → b ∷ cond k (first_piece bytes ++ 10 ∷ ended (lines_before (tail_pieces bytes))) bytes ≡ cond k ((b ∷ first_piece bytes) ++ 10 ∷ ended (lines_before (tail_pieces bytes))) (b ∷ bytes)
    plain true = refl
    plain false = refl

    go : (m c : Bool) → eqb b 10 ≡ c → part_left (eqb b 10) bytes ≡ left_of (eqb b 10 && is_marker (first_piece bytes)) bytes (first_piece bytes) (tail_pieces bytes) →
        cond m [] (b ∷ part_left (eqb b 10) bytes) ≡ left_of m (b ∷ bytes) (cond (eqb b 10) [] (b ∷ first_piece bytes)) (cond (eqb b 10) (between_feeds bytes) (tail_pieces bytes))
    go true c is before = refl
    go false true is before =
        let ten : b ≡ 10 = eqb-true b 10 is in
        ap (λ (xs : List ℕ). b ∷ xs) before
        ∙ ap (λ (d : Bool). b ∷ left_of (d && is_marker (first_piece bytes)) bytes (first_piece bytes) (tail_pieces bytes)) is
        ∙ feed (is_marker (first_piece bytes)) (has_marker (tail_pieces bytes)) refl refl
        ∙ ap (λ (n : ℕ). cond (has_marker (first_piece bytes ∷ tail_pieces bytes)) (n ∷ ended (lines_before (first_piece bytes ∷ tail_pieces bytes))) (b ∷ bytes)) ten
        ∙ ap (λ (ps : List (List ℕ)). left_of false (b ∷ bytes) [] ps) (sym (split_is bytes))
        ∙ ap (λ (d : Bool). left_of false (b ∷ bytes) (cond d [] (b ∷ first_piece bytes)) (cond d (between_feeds bytes) (tail_pieces bytes))) (sym is)
    go false false is before =
        ap (λ (xs : List ℕ). b ∷ xs) before
        ∙ ap (λ (d : Bool). b ∷ left_of (d && is_marker (first_piece bytes)) bytes (first_piece bytes) (tail_pieces bytes)) is
        ∙ plain (has_marker (tail_pieces bytes))
        ∙ ap (λ (d : Bool). left_of false (b ∷ bytes) (cond d [] (b ∷ first_piece bytes)) (cond d (between_feeds bytes) (tail_pieces bytes))) (sym is)

part_law : (all : List ℕ) → part_left true all ≡ part_of all
unfolding part_of
part_law all = grind (arith, common_steps, part_is, tail_pieces, cond, split_is, append_assoc)

-- ---- the rest
after_is : (bytes : List ℕ) → after_piece bytes ≡ join_with_byte 10 (tail_pieces bytes)
after_is [] = refl
after_is (b ∷ bytes) = go (eqb b 10) (after_is bytes)
  where
    go : (c : Bool) → after_piece bytes ≡ join_with_byte 10 (tail_pieces bytes) →
        cond c bytes (after_piece bytes) ≡ join_with_byte 10 (cond c (between_feeds bytes) (tail_pieces bytes))
    go true before = sym (join_with_byte-slice_split 10 bytes)
    go false before = before

abbrev after_of : Bool → List (List ℕ) → List ℕ
after_of m tail = cond m (join_with_byte 10 tail) (cond (has_marker tail) (join_with_byte 10 (lines_after tail)) [])

rest_is : (bytes : List ℕ) (at_line : Bool) → rest_left at_line bytes ≡ after_of (at_line && is_marker (first_piece bytes)) (tail_pieces bytes)
rest_is [] true = refl
rest_is [] false = refl
rest_is (b ∷ bytes) at_line = go (at_line && is_marker (first_piece (b ∷ bytes))) (rest_is bytes (eqb b 10))
  where
    feed : (m k : Bool) → is_marker (first_piece bytes) ≡ m → has_marker (tail_pieces bytes) ≡ k →
        cond m (join_with_byte 10 (tail_pieces bytes)) (cond k (join_with_byte 10 (lines_after (tail_pieces bytes))) [])
        ≡ cond (m || k) (join_with_byte 10 (cond m (tail_pieces bytes) (lines_after (tail_pieces bytes)))) []
    feed true k f g = refl
    feed false k f g = refl

    later : (c : Bool) → after_of (c && is_marker (first_piece bytes)) (tail_pieces bytes) ≡ after_of false (cond c (between_feeds bytes) (tail_pieces bytes))
    later true = feed (is_marker (first_piece bytes)) (has_marker (tail_pieces bytes)) refl refl ∙ ap (after_of false) (sym (split_is bytes))
    later false = refl

    go : (m : Bool) → rest_left (eqb b 10) bytes ≡ after_of (eqb b 10 && is_marker (first_piece bytes)) (tail_pieces bytes) →
        cond m (after_piece (b ∷ bytes)) (rest_left (eqb b 10) bytes) ≡ after_of m (tail_pieces (b ∷ bytes))
    go true before = after_is (b ∷ bytes)
    go false before = before ∙ later (eqb b 10)

rest_law : (all : List ℕ) → rest_left true all ≡ rest_of all
unfolding rest_of
rest_law all = grind (arith, common_steps, rest_is, tail_pieces, cond, split_is)

pub part_by_bytes : PartLaw
part_by_bytes = grind (arith, common_steps, part_law, marked_is, split_is, rest_law)

-- ---- bytes at which no marker line stands
pub record Passes (at_line : Bool) (bytes rest : List ℕ) : Type 0 where
  pub part : part_left at_line (bytes ++ rest) ≡ bytes ++ part_left (begins_after at_line bytes) rest
  pub marked : is_marked_left at_line (bytes ++ rest) ≡ is_marked_left (begins_after at_line bytes) rest
  pub after : rest_left at_line (bytes ++ rest) ≡ rest_left (begins_after at_line bytes) rest

pub passed : (at_line : Bool) (bytes rest : List ℕ) → ArePlain at_line bytes rest → Passes at_line bytes rest
passed at_line [] rest plain = record { part = refl; marked = refl; after = refl }
passed at_line (b ∷ bytes) rest plain =
    let more = passed (eqb b 10) bytes rest plain.1 in
    record {
      part = rw plain.0 (ap (λ (xs : List ℕ). b ∷ xs) more.part);
      marked = rw plain.0 more.marked;
      after = rw plain.0 more.after;
    }
