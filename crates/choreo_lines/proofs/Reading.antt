-- How a line is read, step by step: what each step gave, and by which first word.
use Rattle.choreo_lines.proofs.Prelude.{common_steps, ◌≡◌, Bool, true, false, List, drop, Result, Ok, Err, refl, sym, ap, subst, ◌∙◌, cond, arith, not, length, and_parts, Name, is_name, Word, word, row_of, has_count, may_stand, as_read, keyword_in, entry_with, ◌>>=◌, name_in, values_in, names_in, act_in, act_line, row_line, line_at, entry_of, may_say, LineKind, Keyword, Form, Place, Entry, Act, Value}
use Rattle.choreo_lines.specs.Fields.{line_in}
use Rattle.choreo_lines.specs.FirstWord.{keyword_of}
use Rattle.choreo_lines.specs.declared.line.LineKind.TheVariants as kind
use Rattle.choreo_lines.specs.declared.line.Keyword.TheVariants as first
use Rattle.choreo_lines.specs.declared.line.Place.TheVariants as place
use Rattle.choreo_lines.specs.declared.line.Entry.TheVariants as entry

-- Steps that gave a value.

pub record Two {A B : Type 0} (r : Result A LineKind) (f : A → Result B LineKind) (y : B) : Type 0 where
  pub a : A
  pub first : r ≡ Ok a
  pub then : f a ≡ Ok y

pub two : {A B : Type 0} (r : Result A LineKind) (f : A → Result B LineKind) (y : B) → (r >>= f) ≡ Ok y → Two r f y
two (Ok a) f y h = record { a = a; first = refl; then = h }
two (Err k) f y h = cc

-- what a test let through
pub passed : {A : Type 0} (b : Bool) (r : Result A LineKind) (k : LineKind) (y : A) → cond b r (Err k) ≡ Ok y → (b ≡ true) × (r ≡ Ok y)
passed true r k y h = (refl, h)
passed false r k y h = cc

-- the word that was read as a name is one, and it is this
pub name_read : (w : Word) (n : Name) → name_in w ≡ Ok n → (is_name w ≡ true) × (w ≡ n.items)
name_read w n h = grind (arith, common_steps, passed)

-- An entry is that of its first word.

with_keyword : (k : Keyword) (vs : List Value) (ns : List Name) → (k ≡ first.Other → ⊥) → keyword_in (entry_with k vs ns) ≡ k
with_keyword first.Other vs ns h = absurd (h refl)
with_keyword k vs ns h = refl

-- an act line that was read
pub record Acted (form : Form) (ws : List Word) (e : Entry) : Type 0 where
  pub name : Name
  pub act : Act
  pub named : name_in (word ws 0) ≡ Ok name
  pub acts : act_in form (drop 1 ws) ≡ Ok act
  pub is : entry.One name act ≡ e

pub acted : (form : Form) (ws : List Word) (e : Entry) → act_line form ws ≡ Ok e → Acted form ws e
unfolding act_line
acted form ws e h = grind (arith, common_steps, cond, drop, two, passed)

-- words after the first of a line that were read by its row
pub record Rowed (form : Form) (k : Keyword) (ws : List Word) (e : Entry) : Type 0 where
  pub values : List Value
  pub names : List Name
  pub count : has_count (row_of k) (length ws) ≡ true
  pub read : values_in form (row_of k).places ws ≡ Ok values
  pub named : names_in (drop (length (row_of k).places) ws) ≡ Ok names
  pub is : entry_with k values names ≡ e

pub rowed : (form : Form) (k : Keyword) (ws : List Word) (e : Entry) → row_line form k ws ≡ Ok e → Rowed form k ws e
unfolding row_line
rowed form k ws e h = grind (arith, common_steps, drop, passed, two)

-- the same the other way round: what the words after the first say, by what each step gave
pub row_short : (form : Form) (k : Keyword) (ws : List Word) → has_count (row_of k) (length ws) ≡ false → row_line form k ws ≡ Err kind.BadCount
unfolding row_line
row_short form k ws h = rw h refl

pub row_unread : (form : Form) (k : Keyword) (ws : List Word) (e : LineKind) → has_count (row_of k) (length ws) ≡ true → values_in form (row_of k).places ws ≡ Err e → row_line form k ws ≡ Err e
unfolding row_line
row_unread form k ws e h r = rw (h, r) refl

pub row_whole : (form : Form) (k : Keyword) (ws : List Word) (vs : List Value) (ns : List Name) → has_count (row_of k) (length ws) ≡ true → values_in form (row_of k).places ws ≡ Ok vs → names_in (drop (length (row_of k).places) ws) ≡ Ok ns → row_line form k ws ≡ Ok (entry_with k vs ns)
unfolding row_line
row_whole form k ws vs ns h r n = rw (h, r, n) refl

line_keyword : (form : Form) (k : Keyword) (ws : List Word) (e : Entry) → line_in form k ws ≡ Ok e → keyword_in e ≡ k
line_keyword form first.Other ws e h = let a = acted form ws e h in ap keyword_in (sym a.is)
line_keyword form k ws e h = let r = rowed form k (drop 1 ws) e h in ap keyword_in (sym r.is) ∙ with_keyword k r.values r.names (λ o. cc)

-- The first word, and as what it is read.

-- the word is this first word; that of an act line is a name, which its reading judges
abbrev pub IsFirst : Keyword → Word → Type 0
IsFirst first.Other w = Unit {0}
IsFirst k w = keyword_of w ≡ k

-- the words are read as this entry, by the row of its first word
abbrev pub IsRead : Form → List Word → Entry → Type 0
IsRead form ws e = IsFirst (keyword_in e) (word ws 0) × (line_in form (keyword_in e) ws ≡ Ok e)

first_read : (p : Place) (k : Keyword) (w : Word) → keyword_of w ≡ k → IsFirst (as_read p k) w
first_read place.InCue first.End w e = e
first_read place.InCue first.Form w e = e
first_read place.InCue k w e = tt
first_read place.InFigureCue first.End w e = e
first_read place.InFigureCue k w e = tt
first_read p first.Other w e = tt
first_read p k w e = e

stays : (p : Place) (k : Keyword) → may_stand p k ≡ true → (k ≡ first.Other → ⊥) → as_read p k ≡ k
stays place.InCue first.End m o = refl
stays place.InCue first.Form m o = refl
stays place.InCue first.Other m o = absurd (o refl)
stays place.InCue k m o = cc
stays place.InFigureCue first.End m o = refl
stays place.InFigureCue first.Other m o = absurd (o refl)
stays place.InFigureCue k m o = cc
stays p k m o = refl

-- A name is no keyword of a cue.

abbrev pub is_other : Keyword → Bool
is_other first.End = false
is_other first.Form = false
is_other _ = true

pick : (b : Bool) (k r : Keyword) → is_other k ≡ true → is_other r ≡ true → is_other (cond b k r) ≡ true
pick true k r p q = p
pick false k r p q = q

not_true : (b : Bool) → not b ≡ true → b ≡ false
not_true true h = cc
not_true false h = refl

pub name_keyword : (w : Word) → is_name w ≡ true → is_other (keyword_of w) ≡ true
name_keyword w n = grind (arith, common_steps, and_parts, is_other, cond, not_true, pick)

-- in a cue a name is read as one
pub read_as_name : (p : Place) (k : Keyword) → may_stand p first.Other ≡ true → is_other k ≡ true → as_read p k ≡ first.Other
read_as_name place.InCue first.End m o = cc
read_as_name place.InCue first.Form m o = cc
read_as_name place.InCue k m o = refl
read_as_name place.InFigureCue first.End m o = cc
read_as_name place.InFigureCue k m o = refl
read_as_name p k m o = cc

-- A line that is read at a place is read by its own first word, and may stand there; and the other way round.

pub read_of : (form : Form) (p : Place) (ws : List Word) (e : Entry) → entry_of form p ws ≡ Ok e → IsRead form ws e × (may_say p e ≡ true)
read_of form p ws e h =
    let k = as_read p (keyword_of (word ws 0)) in
    let q = passed (may_stand p k) (line_in form k ws) kind.BadWord e h in
    let is : keyword_in e ≡ k = line_keyword form k ws e q.1 in
    let begins = first_read p (keyword_of (word ws 0)) (word ws 0) refl in
    ((subst (λ l. IsFirst l (word ws 0)) (sym is) begins, ap (λ l. line_in form l ws) is ∙ q.1), ap (may_stand p) is ∙ q.0)

put : (form : Form) (p : Place) (ws : List Word) (e : Entry) (l k : Keyword) → l ≡ k → line_in form k ws ≡ Ok e → may_stand p k ≡ true → line_at form p l ws ≡ Ok e
put form p ws e l k same h m = ap (λ x. line_at form p x ws) same ∙ ap (λ b. cond b (line_in form k ws) (Err kind.BadWord)) m ∙ h

read_by : (form : Form) (p : Place) (ws : List Word) (e : Entry) (k : Keyword) → IsFirst k (word ws 0) → line_in form k ws ≡ Ok e → may_stand p k ≡ true → entry_of form p ws ≡ Ok e
read_by form p ws e first.Other f h m =
    let a = acted form ws e h in
    let named = name_keyword (word ws 0) (name_read (word ws 0) a.name a.named).0 in
    put form p ws e (as_read p (keyword_of (word ws 0))) first.Other (read_as_name p (keyword_of (word ws 0)) m named) h m
read_by form p ws e k f h m =
    put form p ws e (as_read p (keyword_of (word ws 0))) k (ap (as_read p) f ∙ stays p k m (λ o. cc)) h m

pub read_entry : (form : Form) (p : Place) (ws : List Word) (e : Entry) → IsRead form ws e → may_say p e ≡ true → entry_of form p ws ≡ Ok e
read_entry form p ws e h m = read_by form p ws e (keyword_in e) h.0 h.1 m
