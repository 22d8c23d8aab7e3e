-- A text without a whole marker line, and a line that goes on too long to be one.
use Rattle.hemtoghai.proofs.Prelude.{◌≡◌, ℕ, zero, suc, ◌<◌, Bool, true, false, ◌||◌, List, [], ◌∷◌, ◌++◌, length, replicate, refl, ap, arith, onto_first, false_from_ne_true, length-append, length-replicate, between_feeds, is_line_feed, has_marker, is_marker, has_whole_marker, without_last}
use Rattle.std.specs.Str.{bytes_eq}
use Rattle.std.proofs.lemmas.Slice.Eq.{bytes_eq-Decides}
use Rattle.byte_streams.proofs.CutLemmas.{IsFull-split, split-goes_on}

-- zero bytes are one line
one_line : (n : ℕ) → between_feeds (replicate n 0) ≡ replicate n 0 ∷ []
one_line zero = refl
one_line (suc n) = ap (λ (ls : List (List ℕ)). onto_first 0 ls) (one_line n)

-- texts of other lengths differ
differ : (xs ys : List ℕ) → length ys < length xs → bytes_eq xs ys ≡ false
differ xs ys more = false_from_ne_true (bytes_eq xs ys) (λ same. omega (arith, more, ap (λ (zs : List ℕ). length zs) ((bytes_eq-Decides xs ys).0 same)))

-- a line of more than three bytes is no marker line
long_line : (line : List ℕ) → 3 < length line → is_marker line ≡ false
long_line line more = rw (differ line (37 ∷ 37 ∷ []) (omega (arith, more)), differ line (37 ∷ 37 ∷ 13 ∷ []) (omega (arith, more))) refl

-- where no line is one, and the last isn't
none_last : (lines : List (List ℕ)) (line : List ℕ) → has_marker lines ≡ false → is_marker line ≡ false → has_marker (lines ++ line ∷ []) ≡ false
none_last [] line none is = rw is refl
none_last (first ∷ lines) line none is = by (is_marker first) none (λ more. none_last lines line more is) where
  by : (b : Bool) → (b || has_marker lines) ≡ false → (has_marker lines ≡ false → has_marker (lines ++ line ∷ []) ≡ false) → (b || has_marker (lines ++ line ∷ [])) ≡ false
  by true none more = absurd (let e : true ≡ false = none in cc)
  by false none more = more none

-- a list of pieces, apart from its last one
record HasLast (pieces : List (List ℕ)) : Type 0 where
  last : List ℕ
  is : pieces ≡ without_last pieces ++ last ∷ []

last_of : (first : List ℕ) (others : List (List ℕ)) → HasLast (first ∷ others)
last_of first [] = record { last = first; is = refl }
last_of first (next ∷ rest) = let more = last_of next rest in record { last = more.last; is = ap (λ (ps : List (List ℕ)). first ∷ ps) more.is }

-- A text without a whole marker line that goes on with some zero bytes has no marker line.
pub never_marked : (text : List ℕ) (n : ℕ) → 3 < n → has_whole_marker text ≡ false → has_marker (between_feeds (text ++ replicate n 0)) ≡ false
never_marked text n more unmarked =
    let full = IsFull-split is_line_feed text in
    let cut : HasLast (between_feeds text) = rw full.is (last_of full.first full.others) in
    let all : between_feeds (text ++ replicate n 0) ≡ without_last (between_feeds text) ++ (cut.last ++ replicate n 0) ∷ [] =
    split-goes_on is_line_feed text (replicate n 0) (without_last (between_feeds text)) cut.last (replicate n 0) [] cut.is (one_line n) in
    let long : is_marker (cut.last ++ replicate n 0) ≡ false = long_line (cut.last ++ replicate n 0) (omega (arith, more, length-append cut.last (replicate n 0), length-replicate {A = ℕ} n 0)) in
    rw all (none_last (without_last (between_feeds text)) (cut.last ++ replicate n 0) unmarked long)
