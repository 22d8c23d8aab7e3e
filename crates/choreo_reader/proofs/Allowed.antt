-- Which texts have no forbidden byte; among them are those whose bytes may all stand anywhere.
use Rattle.choreo_reader.proofs.Prelude.{◌≡◌, ℕ, zero, suc, ◌+◌, Bool, true, false, cond, List, [], ◌∷◌, take, Option, Some, None, refl, sym, ap, ◌∙◌, ◌&&◌, ◌||◌, ◌==◌, list_all, onto_first, position_or_len, false≢true, is_line_feed, between_feeds, without_empty_end, lines_of, visible, FromHash, Fault, are_allowed, forbidden, forbidden_from, fault_at, stands_anywhere}
use Rattle.choreo_lines.specs.declared.line.LineKind.TheVariants as kind

both : (a b : Bool) → (a && b) ≡ true → (a ≡ true) × (b ≡ true)
both true b h = (refl, h)
both false b h = absurd (false≢true h)

and_of : (a b : Bool) → a ≡ true → b ≡ true → (a && b) ≡ true
and_of a b e f = ap (λ c. c && b) e ∙ f

other : (a b : Bool) → a ≡ false → (a || b) ≡ true → b ≡ true
other a b e h = sym (ap (λ c. c || b) e) ∙ h

-- the pieces stay allowed where one more byte stands before them
cut_allowed : (feed : Bool) (x : ℕ) (ps : List (List ℕ)) → is_line_feed x ≡ feed → stands_anywhere x ≡ true → list_all are_allowed ps ≡ true → list_all are_allowed (cond feed ([] ∷ ps) (onto_first x ps)) ≡ true
cut_allowed true x ps e stands all = all
cut_allowed false x [] e stands all = and_of _ _ (and_of _ _ (other _ _ e stands) refl) refl
cut_allowed false x (p ∷ ps) e stands all =
    and_of _ _ (and_of _ _ (other _ _ e stands) (both _ _ all).0) (both _ _ all).1

pieces_allowed : (text : List ℕ) → list_all stands_anywhere text ≡ true → list_all are_allowed (between_feeds text) ≡ true
pieces_allowed [] all = refl
pieces_allowed (x ∷ text) all =
    cut_allowed (is_line_feed x) x (between_feeds text) refl (both _ _ all).0 (pieces_allowed text (both _ _ all).1)

lines_allowed : (ps : List (List ℕ)) → list_all are_allowed ps ≡ true → list_all are_allowed (without_empty_end ps) ≡ true
lines_allowed [] all = refl
lines_allowed ([] ∷ []) all = refl
lines_allowed ([] ∷ p ∷ ps) all = lines_allowed (p ∷ ps) all
lines_allowed ((b ∷ p) ∷ ps) all = and_of _ _ (both _ _ all).0 (lines_allowed ps (both _ _ all).1)

front_allowed : (n : ℕ) (bytes : List ℕ) → are_allowed bytes ≡ true → are_allowed (take n bytes) ≡ true
front_allowed zero bytes all = refl
front_allowed (suc n) [] all = refl
front_allowed (suc n) (b ∷ bytes) all = and_of _ _ (both _ _ all).0 (front_allowed n bytes (both _ _ all).1)

none_forbidden : (number : ℕ) (lines : List (List ℕ)) → list_all are_allowed lines ≡ true → forbidden_from number lines ≡ None
none_forbidden number [] all = refl
none_forbidden number (line ∷ lines) all =
    ap (λ c. cond c (forbidden_from (number + 1) lines) (Some (fault_at number kind.BadByte)))
    (front_allowed (position_or_len (λ b. b == 35) line) line (both _ _ all).0)
    ∙ none_forbidden (number + 1) lines (both _ _ all).1

-- where each byte may stand anywhere, no line has a forbidden byte
pub plain_allowed : (text : List ℕ) → list_all stands_anywhere text ≡ true → forbidden text ≡ None
plain_allowed text all = none_forbidden 1 (lines_of text) (lines_allowed (between_feeds text) (pieces_allowed text all))

-- Where all bytes outside the comments are allowed, no line is at fault for them; and the other way round.

clean_by : (b c : Bool) (others : Option Fault) (number : ℕ) → cond b others (Some (fault_at number kind.BadByte)) ≡ None → (others ≡ None → c ≡ true) → (b && c) ≡ true
clean_by true c others number h more = more h
clean_by false c others number h more = cc

lines_clean : (number : ℕ) (lines : List (List ℕ)) → forbidden_from number lines ≡ None → list_all (λ line. are_allowed (visible FromHash line)) lines ≡ true
lines_clean number [] h = refl
lines_clean number (line ∷ lines) h =
    clean_by (are_allowed (visible FromHash line)) (list_all (λ l. are_allowed (visible FromHash l)) lines) (forbidden_from (number + 1) lines) number h (lines_clean (number + 1) lines)

clean_lines : (number : ℕ) (lines : List (List ℕ)) → list_all (λ line. are_allowed (visible FromHash line)) lines ≡ true → forbidden_from number lines ≡ None
clean_lines number [] h = refl
clean_lines number (line ∷ lines) h =
    let p = both (are_allowed (visible FromHash line)) (list_all (λ l. are_allowed (visible FromHash l)) lines) h in
    ap (λ b. cond b (forbidden_from (number + 1) lines) (Some (fault_at number kind.BadByte))) p.0 ∙ clean_lines (number + 1) lines p.1

pub none_clean : (text : List ℕ) → forbidden text ≡ None → list_all (λ line. are_allowed (visible FromHash line)) (lines_of text) ≡ true
none_clean text h = lines_clean 1 (lines_of text) h

pub clean_none : (text : List ℕ) → list_all (λ line. are_allowed (visible FromHash line)) (lines_of text) ≡ true → forbidden text ≡ None
clean_none text h = clean_lines 1 (lines_of text) h
