-- A marker line with its line feed cuts a text, whatever comes after it.
use Rattle.byte_streams.proofs.Prelude.{common_steps, ◌≡◌, ℕ, Bool, true, false, cond, eqb, ◌||◌, List, [], ◌∷◌, ◌++◌, drop, refl, sym, ap, ◌∙◌, append_assoc, append-nil, arith, join_with_byte, Result, Ok, Err, IfOk, join_with_byte-slice_split, between_feeds, is_marker, has_marker, lines_before, lines_after, ended, part_of, rest_of, Part, IoFault, has_whole_marker, without_last, MarkerLaw, TookMarked, Told, Took}
use Rattle.byte_streams.proofs.AskingLemmas.{without_last-push}
use Rattle.byte_streams.proofs.CutLemmas.{IsFull-split, split-goes_on}
use Rattle.byte_streams.proofs.MarkLemmas.{Gathers}
use Rattle.byte_streams.proofs.ToldLemmas.{Took-trans}

-- ---- what was gathered up to the line feed of a marker line

any-last : (ls : List (List ℕ)) (l : List ℕ) → is_marker l ≡ true → has_marker (ls ++ l ∷ []) ≡ true
any-last [] l is = rw is refl
any-last (k ∷ ls) l is = elim (is_marker k) as (λ b. (b || has_marker (ls ++ l ∷ [])) ≡ true) [
  | true ↦ refl
  | false ↦ any-last ls l is
]

-- gathered bytes whose last line is a marker line, and its line feed
pub Gathers-marked : (bytes : List ℕ) (start : ℕ) → Gathers bytes start → is_marker (drop start bytes) ≡ true → has_whole_marker (bytes ++ 10 ∷ []) ≡ true
Gathers-marked bytes start g is =
    let lines : between_feeds (bytes ++ 10 ∷ []) ≡ g.done ++ (drop start bytes ++ []) ∷ [] ∷ [] = split-goes_on (λ x. eqb x 10) bytes (10 ∷ []) g.done (drop start bytes) [] ([] ∷ []) g.lines refl in
    let plain : between_feeds (bytes ++ 10 ∷ []) ≡ (g.done ++ drop start bytes ∷ []) ++ [] ∷ [] =
    lines ∙ ap (λ (l : List ℕ). g.done ++ l ∷ [] ∷ []) (append-nil (drop start bytes)) ∙ sym (append_assoc g.done (drop start bytes ∷ []) ([] ∷ [])) in
    rw (plain, without_last-push (g.done ++ drop start bytes ∷ []) []) (any-last g.done (drop start bytes) is)

-- a marker line that ended a part with its line feed
pub fed_marked : (a b c : List ℕ) (t u v : Told) (bytes : List ℕ) (start : ℕ) → Took a b t u bytes → Took b c u v (10 ∷ []) → is_marker (drop start bytes) ≡ true → Gathers bytes start →
    TookMarked a c t v
fed_marked a b c t u v bytes start before now is g = (bytes ++ 10 ∷ [], Took-trans a b c t u v bytes (10 ∷ []) before now, Gathers-marked bytes start g is)

-- a part that is given, whose marker line has this
pub ok_marked : (result : Result Part IoFault) (P : Type 0) → P → IfOk result (λ part. part.marker ≡ true → P)
ok_marked (Ok part) P p = λ _. p
ok_marked (Err fault) P p = tt

-- ---- the law

-- a list of pieces, apart from its last one
record HasLast (pieces : List (List ℕ)) : Type 0 where
  last : List ℕ
  is : pieces ≡ without_last pieces ++ last ∷ []

last_of : (first : List ℕ) (others : List (List ℕ)) → HasLast (first ∷ others)
last_of first [] = record { last = first; is = refl }
last_of first (next ∷ rest) = let more = last_of next rest in record { last = more.last; is = ap (λ (ps : List (List ℕ)). first ∷ ps) more.is }

any-front : (ls ms : List (List ℕ)) → has_marker ls ≡ true → has_marker (ls ++ ms) ≡ true
any-front [] ms is = absurd (let e : false ≡ true = is in cc)
any-front (l ∷ ls) ms is = by (is_marker l) is (any-front ls ms) where
  by : (b : Bool) → (b || has_marker ls) ≡ true → (has_marker ls ≡ true → has_marker (ls ++ ms) ≡ true) → (b || has_marker (ls ++ ms)) ≡ true
  by true found more = refl
  by false found more = more found

before-front : (ls ms : List (List ℕ)) → has_marker ls ≡ true → lines_before (ls ++ ms) ≡ lines_before ls
before-front [] ms is = absurd (let e : false ≡ true = is in cc)
before-front (l ∷ ls) ms is = by (is_marker l) is (before-front ls ms) where
  by : (b : Bool) → (b || has_marker ls) ≡ true → (has_marker ls ≡ true → lines_before (ls ++ ms) ≡ lines_before ls) →
      cond b [] (l ∷ lines_before (ls ++ ms)) ≡ cond b [] (l ∷ lines_before ls)
  by true found more = refl
  by false found more = ap (λ (ks : List (List ℕ)). l ∷ ks) (more found)

after-front : (ls ms : List (List ℕ)) → has_marker ls ≡ true → lines_after (ls ++ ms) ≡ lines_after ls ++ ms
after-front [] ms is = absurd (let e : false ≡ true = is in cc)
after-front (l ∷ ls) ms is = by (is_marker l) is (after-front ls ms) where
  by : (b : Bool) → (b || has_marker ls) ≡ true → (has_marker ls ≡ true → lines_after (ls ++ ms) ≡ lines_after ls ++ ms) →
      cond b (ls ++ ms) (lines_after (ls ++ ms)) ≡ cond b ls (lines_after ls) ++ ms
  by true found more = refl
  by false found more = more found

-- the last line of one text goes on with the first of another
join-meet : (ls : List (List ℕ)) (l m : List ℕ) (ms : List (List ℕ)) → join_with_byte 10 (ls ++ (l ++ m) ∷ ms) ≡ join_with_byte 10 (ls ++ l ∷ []) ++ join_with_byte 10 (m ∷ ms)
join-meet [] l m [] = refl
join-meet [] l m (n ∷ ms) = append_assoc l m (10 ∷ join_with_byte 10 (n ∷ ms))
join-meet (k ∷ []) l m ms = ap (λ (xs : List ℕ). k ++ 10 ∷ xs) (join-meet [] l m ms) ∙ sym (append_assoc k (10 ∷ join_with_byte 10 (l ∷ [])) (join_with_byte 10 (m ∷ ms)))
join-meet (k ∷ j ∷ ls) l m ms = ap (λ (xs : List ℕ). k ++ 10 ∷ xs) (join-meet (j ∷ ls) l m ms) ∙ sym (append_assoc k (10 ∷ join_with_byte 10 (j ∷ ls ++ l ∷ [])) (join_with_byte 10 (m ∷ ms)))

-- the part and the rest of a text that has a marker line
marked_part : (text : List ℕ) → has_marker (between_feeds text) ≡ true → (part_of text ≡ ended (lines_before (between_feeds text))) × (rest_of text ≡ join_with_byte 10 (lines_after (between_feeds text)))
unfolding part_of rest_of
marked_part text is = (rw is refl, rw is refl)

cut_by : (text more last m : List ℕ) (front ms : List (List ℕ)) → between_feeds text ≡ front ++ last ∷ [] → between_feeds more ≡ m ∷ ms → has_marker front ≡ true →
    (part_of (text ++ more) ≡ part_of text) × (rest_of (text ++ more) ≡ rest_of text ++ more) × (has_marker (between_feeds (text ++ more)) ≡ true)
cut_by text more last m front ms lines others is =
    let all : between_feeds (text ++ more) ≡ front ++ (last ++ m) ∷ ms = split-goes_on (λ x. eqb x 10) text more front last m ms lines others in
    let whole : has_marker (between_feeds (text ++ more)) ≡ true = rw all (any-front front ((last ++ m) ∷ ms) is) in
    let marked : has_marker (between_feeds text) ≡ true = rw lines (any-front front (last ∷ []) is) in
    let long = marked_part (text ++ more) whole in
    let short = marked_part text marked in
    let back : join_with_byte 10 (m ∷ ms) ≡ more = ap (λ (ls : List (List ℕ)). join_with_byte 10 ls) (sym others) ∙ join_with_byte-slice_split 10 more in
    grind (arith, common_steps, before-front, after-front, join-meet)

pub marker_law : MarkerLaw
marker_law text more is =
    let full = IsFull-split (λ x. eqb x 10) text in
    let others = IsFull-split (λ x. eqb x 10) more in
    let cut : HasLast (between_feeds text) = rw full.is (last_of full.first full.others) in
    cut_by text more cut.last others.first (without_last (between_feeds text)) others.others cut.is others.is is

-- ---- a whole marker line stays whole, whatever comes after it

without_last-append : (ls : List (List ℕ)) (l : List ℕ) (ms : List (List ℕ)) → without_last (ls ++ l ∷ ms) ≡ ls ++ without_last (l ∷ ms)
without_last-append [] l ms = refl
without_last-append (k ∷ []) l ms = refl
without_last-append (k ∷ j ∷ ls) l ms = ap (λ (ps : List (List ℕ)). k ∷ ps) (without_last-append (j ∷ ls) l ms)

pub whole_marker-front : (text more : List ℕ) → has_whole_marker text ≡ true → has_whole_marker (text ++ more) ≡ true
whole_marker-front text more is =
    let full = IsFull-split (λ x. eqb x 10) text in
    let others = IsFull-split (λ x. eqb x 10) more in
    let cut : HasLast (between_feeds text) = rw full.is (last_of full.first full.others) in
    let front : List (List ℕ) = without_last (between_feeds text) in
    let all : between_feeds (text ++ more) ≡ front ++ (cut.last ++ others.first) ∷ others.others = split-goes_on (λ x. eqb x 10) text more front cut.last others.first others.others cut.is others.is in
    rw (all, without_last-append front (cut.last ++ others.first) others.others) (any-front front (without_last ((cut.last ++ others.first) ∷ others.others)) is)
