-- The lines that were gathered so far, and the part that they make.
use Rattle.byte_streams.proofs.Prelude.{common_steps, ◌≡◌, ℕ, zero, suc, ◌+◌, ◌≤◌, Bool, true, false, cond, ◌||◌, ◌&&◌, eqb, List, [], ◌∷◌, ◌++◌, length, take, drop, refl, sym, ap, ◌∙◌, append_assoc, length-append, inl, inr, ◌⊎◌, arith, join_with_byte, append-nil, take-append-le, drop-append-le, take-append-drop, drop_all, take_all, length-drop, length-take, join_with_byte-slice_split, cases_Bool, eqb-true, bytes_eq-Decides, between_feeds, is_marker, has_marker, lines_before, lines_after, ended, part_of, rest_of, first_piece, Runs}
use Rattle.std.proofs.lemmas.List.Concat.{flat_map-append}
use Rattle.byte_streams.proofs.CutLemmas.{split-goes_on, IsFull-split}

-- These bytes are lines without a marker line, and then the line that begins at start.
pub record Gathers (bytes : List ℕ) (start : ℕ) : Type 0 where
  pub within : start ≤ length bytes
  pub done : List (List ℕ)
  pub lines : between_feeds bytes ≡ done ++ drop start bytes ∷ []
  pub none : has_marker done ≡ false
  pub front : take start bytes ≡ ended done

-- nothing is gathered at first
pub Gathers-none : Gathers [] 0
Gathers-none = record { within = omega arith; done = []; lines = refl; none = refl; front = refl }

-- bytes without a line feed go on with the last line
pub Gathers-run : (bytes : List ℕ) (start : ℕ) (run : List ℕ) → between_feeds run ≡ run ∷ [] → Gathers bytes start → Gathers (bytes ++ run) start
Gathers-run bytes start run whole g = grind (arith, common_steps, length-append, drop-append-le, split-goes_on, eqb, drop, take-append-le)

-- a byte that is no line feed goes on with the last line
pub Gathers-push : (bytes : List ℕ) (start b : ℕ) → eqb b 10 ≡ false → Gathers bytes start → Gathers (bytes ++ b ∷ []) start
Gathers-push bytes start b plain g =
    Gathers-run bytes start (b ∷ []) (ap (λ (t : Bool). cond t ([] ∷ [] ∷ []) ((b ∷ []) ∷ [])) plain) g

-- the first bytes of a line have no line feed
pub front_whole : (n : ℕ) (bytes : List ℕ) → n ≤ length (first_piece bytes) → between_feeds (take n bytes) ≡ take n bytes ∷ []
front_whole zero bytes few = refl
front_whole (suc n) [] few = refl
front_whole (suc n) (b ∷ bytes) few = elim (cases_Bool (eqb b 10)) [
  | inl feed ↦ absurd (let none : length (first_piece (b ∷ bytes)) ≡ 0 = rw feed refl in omega (arith, few, none))
  | inr other ↦
      let size : length (first_piece (b ∷ bytes)) ≡ suc (length (first_piece bytes)) = rw other refl in
      rw (other, front_whole n bytes (omega (arith, few, size))) refl
]

-- a choice that is false has no true side
or_false : (a b : Bool) → (a || b) ≡ false → (a ≡ false) × (b ≡ false)
or_false true b e = absurd (let w : true ≡ false = e in cc)
or_false false b e = (refl, e)

-- a choice that is true has a true side
or_true : (a b : Bool) → (a || b) ≡ true → (a ≡ true) ⊎ (b ≡ true)
or_true true b e = inl refl
or_true false b e = inr e

-- a line that is no marker line adds none
any-push : (ls : List (List ℕ)) (l : List ℕ) → has_marker ls ≡ false → is_marker l ≡ false → has_marker (ls ++ l ∷ []) ≡ false
any-push [] l none plain = rw plain refl
any-push (k ∷ ls) l none plain =
    let both = or_false (is_marker k) (has_marker ls) none in
    rw both.0 (any-push ls l both.1 plain)

-- a line feed ends a line that is no marker line, and an empty one begins
pub Gathers-feed : (bytes : List ℕ) (start : ℕ) → is_marker (drop start bytes) ≡ false → Gathers bytes start → Gathers (bytes ++ 10 ∷ []) (length (bytes ++ 10 ∷ []))
Gathers-feed bytes start plain g =
    let after : drop (length (bytes ++ 10 ∷ [])) (bytes ++ 10 ∷ []) ≡ [] = drop_all (length (bytes ++ 10 ∷ [])) (bytes ++ 10 ∷ []) (omega arith) in
    let all : take (length (bytes ++ 10 ∷ [])) (bytes ++ 10 ∷ []) ≡ bytes ++ 10 ∷ [] = take_all (length (bytes ++ 10 ∷ [])) (bytes ++ 10 ∷ []) (omega arith) in
    let cut = split-goes_on (λ x. eqb x 10) bytes (10 ∷ []) g.done (drop start bytes) [] ([] ∷ []) g.lines refl in
    let line : List ℕ = drop start bytes ++ 10 ∷ [] in
    let split : bytes ≡ ended g.done ++ drop start bytes = sym (take-append-drop start bytes) ∙ ap (λ (xs : List ℕ). xs ++ drop start bytes) g.front in
    let last : ended (g.done ++ drop start bytes ∷ []) ≡ ended g.done ++ line = flat_map-append (λ (l : List ℕ). l ++ 10 ∷ []) g.done (drop start bytes ∷ []) ∙ ap (λ (xs : List ℕ). ended g.done ++ xs) (append-nil line) in
    grind (arith, common_steps, drop, append-nil, append_assoc, any-push)

-- ---- the part

-- these lines have a marker line, with these lines before it and those after it
record IsCut (lines before after : List (List ℕ)) : Type 0 where
  marked : has_marker lines ≡ true
  before_is : lines_before lines ≡ before
  after_is : lines_after lines ≡ after

-- the first marker line cuts the lines
cut_at : (done : List (List ℕ)) (m : List ℕ) (more : List (List ℕ)) → has_marker done ≡ false → is_marker m ≡ true → IsCut (done ++ m ∷ more) done more
cut_at [] m more none is = record { marked = rw is refl; before_is = rw is refl; after_is = rw is refl }
cut_at (l ∷ done) m more none is =
    let both = or_false (is_marker l) (has_marker done) none in
    let rest = cut_at done m more both.1 is in
    record { marked = rw both.0 rest.marked; before_is = rw (both.0, rest.before_is) refl; after_is = rw (both.0) rest.after_is }

-- the part and the rest of a text that a marker line cuts
part_at : (text : List ℕ) (before after : List (List ℕ)) → IsCut (between_feeds text) before after → (part_of text ≡ ended before) × (rest_of text ≡ join_with_byte 10 after)
unfolding part_of rest_of
part_at text before after cut = (rw (cut.marked, cut.before_is) refl, rw (cut.marked, cut.after_is) refl)

-- what was found in a text
pub record Finds (text part : List ℕ) (is_marked : Bool) (rest : List ℕ) : Type 0 where
  pub part_is : part ≡ part_of text
  pub marked_is : is_marked ≡ has_marker (between_feeds text)
  pub rest_is : rest ≡ rest_of text

-- where the last gathered line is a marker line with its line feed, the part is what stands before it
pub Finds-marker : (text bytes rest : List ℕ) (start : ℕ) → text ≡ bytes ++ 10 ∷ rest → is_marker (drop start bytes) ≡ true → Gathers bytes start → Finds text (take start bytes) true rest
Finds-marker text bytes rest start e is g =
    let lines : between_feeds text ≡ g.done ++ drop start bytes ∷ between_feeds rest = ap between_feeds e ∙ split-goes_on (λ x. eqb x 10) bytes (10 ∷ rest) g.done (drop start bytes) [] (between_feeds rest) g.lines refl ∙ rw (append-nil (drop start bytes)) refl in
    let cut : IsCut (between_feeds text) g.done (between_feeds rest) = rw lines (cut_at g.done (drop start bytes) (between_feeds rest) g.none is) in
    let both = part_at text g.done (between_feeds rest) cut in
    record { part_is = g.front ∙ sym both.0; marked_is = sym cut.marked; rest_is = sym (both.1 ∙ join_with_byte-slice_split 10 rest) }

-- a marker line at the end of the input needs no line feed
pub Finds-last_marker : (bytes : List ℕ) (start : ℕ) → is_marker (drop start bytes) ≡ true → Gathers bytes start → Finds bytes (take start bytes) true []
Finds-last_marker bytes start is g =
    let cut : IsCut (between_feeds bytes) g.done [] = rw g.lines (cut_at g.done (drop start bytes) [] g.none is) in
    let both = part_at bytes g.done [] cut in
    record { part_is = g.front ∙ sym both.0; marked_is = sym cut.marked; rest_is = sym both.1 }

-- with no marker line the part is all of the input
pub Finds-none : (bytes : List ℕ) (start : ℕ) → is_marker (drop start bytes) ≡ false → Gathers bytes start → Finds bytes bytes false []
unfolding part_of rest_of
Finds-none bytes start plain g =
    let none : has_marker (between_feeds bytes) ≡ false = rw g.lines (any-push g.done (drop start bytes) g.none plain) in
    record { part_is = rw none refl; marked_is = sym none; rest_is = rw none refl }

-- ---- too long a part

-- a marker line has at most three bytes
short_marker : (line : List ℕ) → is_marker line ≡ true → length line ≤ 3
short_marker line is = grind (arith, common_steps, or_true, bytes_eq-Decides)

-- lines that are no marker lines stand before the first one
plain_before : (done lines : List (List ℕ)) → has_marker done ≡ false → lines_before (done ++ lines) ≡ done ++ lines_before lines
plain_before [] lines none = refl
plain_before (l ∷ done) lines none =
    let both = or_false (is_marker l) (has_marker done) none in
    rw both.0 (ap (λ (ls : List (List ℕ)). l ∷ ls) (plain_before done lines both.1))

-- a line that is no marker line belongs to the part
first_before : (line : List ℕ) (lines : List (List ℕ)) → (is_marker line ≡ true) ⊎ (length line ≤ length (ended (lines_before (line ∷ lines))))
first_before line lines = grind (arith, common_steps, cond, length-append)

-- gathered bytes belong to the part, but for three at most
pub too_long : (text bytes more : List ℕ) (start : ℕ) → text ≡ bytes ++ more → Gathers bytes start → length bytes ≤ length (part_of text) + 3
unfolding part_of
too_long text bytes more start e g = elim (cases_Bool (has_marker (between_feeds text))) [
  | inr none ↦ rw none (omega (arith, ap length e, length-append bytes more))
  | inl marked ↦
      let full = IsFull-split (λ x. eqb x 10) more in
      let line : List ℕ = drop start bytes ++ full.first in
      let lines : between_feeds text ≡ g.done ++ line ∷ full.others = ap between_feeds e ∙ split-goes_on (λ x. eqb x 10) bytes more g.done (drop start bytes) full.first full.others g.lines full.is in
      let before : lines_before (between_feeds text) ≡ g.done ++ lines_before (line ∷ full.others) = ap lines_before lines ∙ plain_before g.done (line ∷ full.others) g.none in
      let sizes : length (ended (lines_before (between_feeds text))) ≡ length (ended g.done) + length (ended (lines_before (line ∷ full.others))) = rw (before, flat_map-append (λ (l : List ℕ). l ++ 10 ∷ []) g.done (lines_before (line ∷ full.others))) (length-append (ended g.done) (ended (lines_before (line ∷ full.others)))) in
      let begun : length (ended g.done) ≡ start = sym (ap length g.front) ∙ omega (arith, length-take start bytes, g.within) in
      let at_least : length (drop start bytes) ≤ length line = omega (arith, length-append (drop start bytes) full.first) in
      grind (arith, common_steps, first_before, short_marker, length-drop)
]

-- ---- one byte more

-- one byte more is gathered
pub Gathers-add : (bytes after : List ℕ) (start next byte : ℕ) → Gathers bytes start → (eqb byte 10 && is_marker (drop start bytes)) ≡ false → after ≡ bytes ++ byte ∷ [] → next ≡ cond (eqb byte 10) (length bytes + 1) start → Gathers after next
Gathers-add bytes after start next byte g plain made moved =
    grind (arith, common_steps, cases_Bool, eqb, eqb-true, length-append, drop, Gathers-feed, Gathers-push)

-- one byte more is gathered, and a run without a line feed
pub Gathers-runs : (bytes after waited waits : List ℕ) (start next byte : ℕ) → Gathers bytes start → (eqb byte 10 && is_marker (drop start bytes)) ≡ false → Runs waited waits bytes after byte → next ≡ cond (eqb byte 10) (length bytes + 1) start → Gathers after next
Gathers-runs bytes after waited waits start next byte g plain runs moved =
    rw (runs.put, ← append_assoc bytes (byte ∷ []) runs.run) (Gathers-run (bytes ++ byte ∷ []) next runs.run runs.whole (Gathers-add bytes (bytes ++ byte ∷ []) start next byte g plain refl moved))

-- a byte that ends a marker line is a line feed after one
pub ends_marker_is : (byte : ℕ) (line : List ℕ) → (eqb byte 10 && is_marker line) ≡ true → (byte ≡ 10) × (is_marker line ≡ true)
ends_marker_is byte line e = grind (arith, common_steps, cases_Bool, eqb, eqb-true)
