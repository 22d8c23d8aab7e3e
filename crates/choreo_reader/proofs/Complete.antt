-- What the grammar says is read.
use Rattle.choreo_reader.proofs.Prelude.{common_steps, ◌≡◌, ℕ, ◌+◌, ◌<◌, ◌≤◌, Bool, true, false, List, [], ◌∷◌, ◌++◌, map, Option, Some, None, Ok, refl, sym, ap, ◌∙◌, arith, append_assoc, ◌&&◌, nat_le, append-nil, and_parts, false≢true, list_all, Line, Body, PlainFigure, PlainShow, has_block, ◌⨾◌, SaidLine, IsSaid, at, anywhere, act_said, body_said, is_filled, depth, fits_figure, names_one, may_say, Opening, OpenRepeat, OpenCue, fault_if, place_of, place_in, in_figure, repeats, is_empty_block, Open, InFormation, InFigure, InRepeat, InCue, Built, Step, context_of, openings_of, outer_openings, add_block, with_block, close, build, line_step, lines_step, then_step, built_by, unless, entry_fault, body_assoc, body_done, says_entry, Entry, nat_tests, ActLine, Form}
use Rattle.choreo_show.specs.Plain as plain
use Rattle.choreo_reader.proofs.Items.{closing, AreSaid}
use Rattle.choreo_lines.specs.declared.line.Place.TheVariants as place
use Rattle.choreo_lines.specs.declared.line.Entry.TheVariants as entry
use Rattle.choreo_lines.specs.declared.line.LineKind.TheVariants as kind
use Rattle.choreo_show.specs.declared.show.ActLine.TheVariants as on

-- the state with these open blocks
abbrev pub with_open : Built → List Open → Built
with_open s os = record s { open_blocks = os }

-- blocks may stand after these open ones
abbrev pub TakesBlocks : List Open → Type 0
TakesBlocks [] = Unit {0}
TakesBlocks (InFormation line name places ∷ os) = ⊥
TakesBlocks (InFigure line name roles body ∷ os) = Unit {0}
TakesBlocks (InRepeat line times body ∷ os) = Unit {0}
TakesBlocks (InCue line ms acts ∷ os) = ⊥

pub outer_figure : (os : List Open) → in_figure (outer_openings os) ≡ in_figure (openings_of os)
outer_figure [] = refl
outer_figure (o ∷ os) = refl

pub outer_repeats : (os : List Open) → repeats (outer_openings os) ≡ repeats (openings_of os)
outer_repeats [] = refl
outer_repeats (o ∷ os) = refl

-- The places where blocks and their lines may stand.

if_some_figure : (b : Bool) (e : Entry) → may_say place.InFigure e ≡ true → may_say place.InRepeat e ≡ true → may_say (place_in OpenRepeat b) e ≡ true
if_some_figure true e f r = f
if_some_figure false e f r = r

block_stands : (os : List Open) (e : Entry) → TakesBlocks os → may_say place.Top e ≡ true → may_say place.InFigure e ≡ true → may_say place.InRepeat e ≡ true → may_say (place_of (openings_of os)) e ≡ true
block_stands [] e k t f r = t
block_stands (InFormation line name places ∷ os) e k t f r = absurd k
block_stands (InFigure line name roles body ∷ os) e k t f r = f
block_stands (InRepeat line times body ∷ os) e k t f r = if_some_figure (in_figure (openings_of (InRepeat line times body ∷ os))) e f r
block_stands (InCue line ms acts ∷ os) e k t f r = absurd k

-- outside figures
perform_stands : (os : List Open) (e : Entry) → TakesBlocks os → in_figure (openings_of os) ≡ false → may_say place.Top e ≡ true → may_say place.InRepeat e ≡ true → may_say (place_of (openings_of os)) e ≡ true
perform_stands [] e k n t r = t
perform_stands (InFormation line name places ∷ os) e k n t r = absurd k
perform_stands (InFigure line name roles body ∷ os) e k n t r = cc
perform_stands (InRepeat line times body ∷ os) e k n t r = ap (λ b. may_say (place_in OpenRepeat b) e) n ∙ r
perform_stands (InCue line ms acts ∷ os) e k n t r = absurd k

in_cue : (b : Bool) (e : Entry) → may_say place.InCue e ≡ true → may_say place.InFigureCue e ≡ true → may_say (place_in OpenCue b) e ≡ true
in_cue true e c f = f
in_cue false e c f = c

false_unless : (b : Bool) → (b ≡ true → false ≡ true) → b ≡ false
false_unless true h = sym (h refl)
false_unless false h = refl

-- Blocks after blocks.

abbrev base : Built → List Open → Body → Built
base s [] b = record s { body = s.body ⨾ b }
base s (o ∷ os) b = s

abbrev opens : List Open → Body → List Open
opens [] b = []
opens (o ∷ os) b = with_block o b ∷ os

added_is : (s : Built) (os : List Open) (b : Body) → add_block s os b ≡ with_open (base s os b) (opens os b)
added_is s [] b = refl
added_is s (o ∷ os) b = refl

added_more : (s : Built) (os : List Open) (a b : Body) → TakesBlocks os → add_block (base s os a) (opens os a) b ≡ add_block s os (a ⨾ b)
added_more s [] a b k = ap (λ c. record s { body = c; open_blocks = [] }) (body_assoc s.body a b)
added_more s (InFormation line name places ∷ os) a b k = absurd k
added_more s (InFigure line name roles body ∷ os) a b k = ap (λ c. record s { open_blocks = InFigure line name roles c ∷ os }) (body_assoc body a b)
added_more s (InRepeat line times body ∷ os) a b k = ap (λ c. record s { open_blocks = InRepeat line times c ∷ os }) (body_assoc body a b)
added_more s (InCue line ms acts ∷ os) a b k = absurd k

added_none : (s : Built) (os : List Open) → TakesBlocks os → with_open s os ≡ add_block s os plain.Done
added_none s [] k = ap (λ c. record s { body = c; open_blocks = [] }) (sym (body_done s.body))
added_none s (InFormation line name places ∷ os) k = absurd k
added_none s (InFigure line name roles body ∷ os) k = ap (λ c. record s { open_blocks = InFigure line name roles c ∷ os }) (sym (body_done body))
added_none s (InRepeat line times body ∷ os) k = ap (λ c. record s { open_blocks = InRepeat line times c ∷ os }) (sym (body_done body))
added_none s (InCue line ms acts ∷ os) k = absurd k

opens_take : (os : List Open) (b : Body) → TakesBlocks os → TakesBlocks (opens os b)
opens_take [] b k = k
opens_take (InFormation line name places ∷ os) b k = absurd k
opens_take (InFigure line name roles body ∷ os) b k = k
opens_take (InRepeat line times body ∷ os) b k = k
opens_take (InCue line ms acts ∷ os) b k = absurd k

opens_figure : (os : List Open) (b : Body) → in_figure (openings_of (opens os b)) ≡ in_figure (openings_of os)
opens_figure [] b = refl
opens_figure (InFormation line name places ∷ os) b = refl
opens_figure (InFigure line name roles body ∷ os) b = refl
opens_figure (InRepeat line times body ∷ os) b = refl
opens_figure (InCue line ms acts ∷ os) b = refl

opens_repeats : (os : List Open) (b : Body) → repeats (openings_of (opens os b)) ≡ repeats (openings_of os)
opens_repeats [] b = refl
opens_repeats (InFormation line name places ∷ os) b = refl
opens_repeats (InFigure line name roles body ∷ os) b = refl
opens_repeats (InRepeat line times body ∷ os) b = refl
opens_repeats (InCue line ms acts ∷ os) b = refl

le_no : (n : ℕ) → n < 8 → nat_le 8 n ≡ false
le_no n h = grind (arith, nat_tests)

-- what keeps a body in order where it stands
pub record Kept (os : List Open) (b : Body) : Type 0 where
  pub takes : TakesBlocks os
  pub filled : is_filled b ≡ true
  pub nested : repeats (openings_of os) + depth b ≤ 8
  pub figure : in_figure (openings_of os) ≡ true → fits_figure b ≡ true

no_nesting : (n : ℕ) → n < 8 → nat_le 8 n ≡ false
no_nesting n h = le_no n h

in_repeat_end : (b : Bool) → may_say (place_in OpenRepeat b) entry.End ≡ true
in_repeat_end true = refl
in_repeat_end false = refl

in_cue_end : (b : Bool) → may_say (place_in OpenCue b) entry.End ≡ true
in_cue_end true = refl
in_cue_end false = refl

add_anywhere : (s : Built) (qs os : List Open) (b : Body) → add_block (with_open s qs) os b ≡ add_block s os b
add_anywhere s qs [] b = refl
add_anywhere s qs (o ∷ os) b = refl

-- the lines of a block, and those after it
pub block_lines : (l e : Line) (ls inner back later : List Line) → ls ≡ inner ++ back → back ≡ e ∷ later → (l ∷ (inner ++ e ∷ [])) ++ later ≡ l ∷ ls
block_lines l e ls inner back later p q =
    ap (λ xs. l ∷ xs) (append_assoc inner (e ∷ []) later ∙ ap (λ xs. inner ++ xs) (sym q) ∙ sym p)

not_empty : (b : Bool) (line : ℕ) (os : List Opening) → b ≡ true → fault_if (is_empty_block (record { kind = OpenRepeat; line = line; filled = b } ∷ os)) kind.EmptyBlock ≡ None
not_empty true line os h = refl
not_empty false line os h = cc

-- The lines of a text in one form.
module _ (form : Form) where
  -- the lines lead from one state to another, whatever follows
  pub record Reads (s : Built) (ls : List Line) (t : Built) : Type 0 where
    pub by : (more : List Line) → lines_step form s (ls ++ more) ≡ lines_step form t more

  pub reads_none : (s : Built) → Reads s [] s
  reads_none s = record { by = λ more. refl }

  pub reads_then : (s t u : Built) (xs ys : List Line) → Reads s xs t → Reads t ys u → Reads s (xs ++ ys) u
  reads_then s t u xs ys a b = record { by = λ more. ap (lines_step form s) (append_assoc xs ys more) ∙ a.by (ys ++ more) ∙ b.by more }

  reads_one : (s t : Built) (l : Line) → line_step form s l ≡ Ok t → Reads s (l ∷ []) t
  reads_one s t l h = record { by = λ more. ap (λ (r : Step). then_step r (λ u. lines_step form u more)) h }

  pub reads_to : (s t u : Built) (ls : List Line) → t ≡ u → Reads s ls t → Reads s ls u
  reads_to s t u ls e r = record { by = λ more. r.by more ∙ ap (λ v. lines_step form v more) e }

  -- the lines of two stretches of the grammar
  pub record Split (ls : List Line) (xs ys : List SaidLine) : Type 0 where
    pub front : List Line
    pub back : List Line
    pub is : ls ≡ front ++ back
    pub first : AreSaid form front xs
    pub second : AreSaid form back ys

  pub split : (ls : List Line) (xs ys : List SaidLine) → AreSaid form ls (xs ++ ys) → Split ls xs ys
  split ls [] ys h = record { front = []; back = ls; is = refl; first = tt; second = h }
  split [] (x ∷ xs) ys h = absurd h
  split (l ∷ ls) (x ∷ xs) ys h =
      let r = split ls xs ys h.1 in
      record { front = l ∷ r.front; back = r.back; is = ap (λ m. l ∷ m) r.is; first = (h.0, r.first); second = r.second }

  -- one line of the grammar
  said_step : (s : Built) (l : Line) (n : Option ℕ) (e : Entry) → IsSaid form l (record { number = n; entry = e }) → may_say (place_of (context_of s).open_blocks) e ≡ true → entry_fault (context_of s) e ≡ None → line_step form s l ≡ Ok (build s l.number e)
  said_step s l n e h m f =
      ap (built_by s l.number) (says_entry form (place_of (context_of s).open_blocks) l.words e h.says m)
      ∙ ap (λ o. unless l.number o (build s l.number e)) f

  pub numbered_step : (s : Built) (l : Line) (n : ℕ) (e : Entry) → IsSaid form l (at n e) → may_say (place_of (context_of s).open_blocks) e ≡ true → entry_fault (context_of s) e ≡ None → Reads s (l ∷ []) (build s n e)
  numbered_step s l n e h m f =
      reads_one s (build s n e) l (said_step s l (Some n) e h m f ∙ ap (λ k. Ok (build s k e)) (sym h.number))

  -- a line whose number the show doesn't keep
  pub said_anywhere : (s : Built) (l : Line) (e : Entry) → IsSaid form l (anywhere e) → may_say (place_of (context_of s).open_blocks) e ≡ true → entry_fault (context_of s) e ≡ None → (t : Built) → ((n : ℕ) → build s n e ≡ t) → Reads s (l ∷ []) t
  said_anywhere s l e h m f t b = reads_one s t l (said_step s l None e h m f ∙ ap (λ u. Ok u) (b l.number))

  -- The acts of a cue.

  acts_read : (acts done : List ActLine) (s : Built) (line ms : ℕ) (os : List Open) (ls : List Line) → (in_figure (openings_of (InCue line ms done ∷ os)) ≡ true → list_all names_one acts ≡ true) → AreSaid form ls (map act_said acts) → Reads (with_open s (InCue line ms done ∷ os)) ls (with_open s (InCue line ms (done ++ acts) ∷ os))
  acts_read [] done s line ms os [] f h = reads_to _ _ _ [] (ap (λ xs. with_open s (InCue line ms xs ∷ os)) (sym (append-nil done))) (reads_none _)
  acts_read [] done s line ms os (l ∷ ls) f h = absurd h
  acts_read (a ∷ acts) done s line ms os [] f h = absurd h
  acts_read (on.One n name a ∷ acts) done s line ms os (l ∷ ls) f h =
      let x = on.One n name a in
      let one = numbered_step (with_open s (InCue line ms done ∷ os)) l n (entry.One name a) h.0 (in_cue (in_figure (openings_of (InCue line ms done ∷ os))) (entry.One name a) refl refl) refl in
      let others = acts_read acts (done ++ x ∷ []) s line ms os ls (λ e. (and_parts true (list_all names_one acts) (f e)).1) h.1 in
      reads_to _ _ _ (l ∷ ls) (ap (λ xs. with_open s (InCue line ms xs ∷ os)) (append_assoc done (x ∷ []) acts)) (reads_then _ _ _ (l ∷ []) ls one others)
  acts_read (on.Form n name smooth ∷ acts) done s line ms os (l ∷ ls) f h =
      let x = on.Form n name smooth in
      let outside : in_figure (openings_of (InCue line ms done ∷ os)) ≡ false = false_unless _ (λ e. (and_parts false (list_all names_one acts) (f e)).0) in
      let one = numbered_step (with_open s (InCue line ms done ∷ os)) l n (entry.Form name smooth) h.0 (ap (λ b. may_say (place_in OpenCue b) (entry.Form name smooth)) outside) refl in
      let others = acts_read acts (done ++ x ∷ []) s line ms os ls (λ e. (and_parts false (list_all names_one acts) (f e)).1) h.1 in
      reads_to _ _ _ (l ∷ ls) (ap (λ xs. with_open s (InCue line ms xs ∷ os)) (append_assoc done (x ∷ []) acts)) (reads_then _ _ _ (l ∷ []) ls one others)

  -- a first block and those after it
  block_then_rest : (s : Built) (os : List Open) (a b : Body) (xs ys : List Line) → TakesBlocks os → Reads (with_open s os) xs (add_block s os a) → Reads (with_open (base s os a) (opens os a)) ys (add_block (base s os a) (opens os a) b) → Reads (with_open s os) (xs ++ ys) (add_block s os (a ⨾ b))
  block_then_rest s os a b xs ys k r t =
      reads_to _ _ _ (xs ++ ys) (added_more s os a b k) (reads_then _ _ _ xs ys (reads_to _ _ _ xs (added_is s os a) r) t)

  end_step : (s : Built) (l : Line) → IsSaid form l closing → may_say (place_of (context_of s).open_blocks) entry.End ≡ true → entry_fault (context_of s) entry.End ≡ None → Reads s (l ∷ []) (build s 0 entry.End)
  end_step s l h m f = reads_one s (build s 0 entry.End) l (said_step s l None entry.End h m f)

  pub reads_list : (s t : Built) (ls ms : List Line) → ls ≡ ms → Reads s ls t → Reads s ms t
  reads_list s t ls ms e r = record { by = λ more. ap (λ xs. lines_step form s (xs ++ more)) (sym e) ∙ r.by more }

  -- the first of some lines of the grammar
  pub record First (ls : List Line) (x : SaidLine) (ys : List SaidLine) : Type 0 where
    pub line : Line
    pub others : List Line
    pub is : ls ≡ line ∷ others
    pub here : IsSaid form line x
    pub later : AreSaid form others ys

  pub first_said : (ls : List Line) (x : SaidLine) (ys : List SaidLine) → AreSaid form ls (x ∷ ys) → First ls x ys
  first_said [] x ys h = absurd h
  first_said (l ∷ ls) x ys h = record { line = l; others = ls; is = refl; here = h.0; later = h.1 }

  -- a block of the grammar: its opening line, its contents, and its end
  pub enclosed : (s t : Built) (os : List Open) (o o' : Open) (l e : Line) (inner : List Line) → Reads (with_open s os) (l ∷ []) (with_open s (o ∷ os)) → Reads (with_open s (o ∷ os)) inner (with_open s (o' ∷ os)) → IsSaid form e closing → may_say (place_of (openings_of (o' ∷ os))) entry.End ≡ true → entry_fault (context_of (with_open s (o' ∷ os))) entry.End ≡ None → close (with_open s (o' ∷ os)) o' os ≡ t → Reads (with_open s os) (l ∷ (inner ++ e ∷ [])) t
  enclosed s t os o o' l e inner first contents last m f c =
      reads_then _ _ _ (l ∷ []) (inner ++ e ∷ []) first
      (reads_then _ _ _ inner (e ∷ []) contents
      (reads_to _ _ _ (e ∷ []) c (end_step (with_open s (o' ∷ os)) e last m f)))

  pub body_reads : (b : Body) (s : Built) (os : List Open) (ls : List Line) → Kept os b → AreSaid form ls (body_said b) → Reads (with_open s os) ls (add_block s os b)
  body_reads plain.Done s os [] k h = reads_to _ _ _ [] (added_none s os k.takes) (reads_none _)
  body_reads plain.Done s os (l ∷ ls) k h = absurd h
  body_reads (plain.Perform line figure frame drones rest) s os [] k h = absurd h
  body_reads (plain.Perform line figure frame drones rest) s os (l ∷ ls) k h =
      let a = plain.Perform line figure frame drones plain.Done in
      let e = entry.Perform figure frame drones in
      let outside : in_figure (openings_of os) ≡ false = false_unless _ k.figure in
      let one = numbered_step (with_open s os) l line e h.0 (perform_stands os e k.takes outside refl refl) refl in
      let kept : Kept (opens os a) rest = grind (arith, common_steps, opens_take, opens_repeats, false≢true, opens_figure) in
      block_then_rest s os a rest (l ∷ []) ls k.takes one (body_reads rest (base s os a) (opens os a) ls kept h.1)
  body_reads (plain.Cue line ms acts rest) s os [] k h = absurd h
  body_reads (plain.Cue line ms acts rest) s os (l ∷ ls) k h =
      let a = plain.Cue line ms acts plain.Done in
      let parts = split ls (map act_said acts) (closing ∷ body_said rest) h.1 in
      let ends = first_said parts.back closing (body_said rest) parts.second in
      let one = numbered_step (with_open s os) l line (entry.Cue ms) h.0 (block_stands os (entry.Cue ms) k.takes refl refl refl) refl in
      let in_order : in_figure (openings_of (InCue line ms [] ∷ os)) ≡ true → list_all names_one acts && fits_figure rest ≡ true = λ q. k.figure (sym (outer_figure os) ∙ q) in
      let inside = acts_read acts [] s line ms os parts.front (λ q. (and_parts (list_all names_one acts) (fits_figure rest) (in_order q)).0) parts.first in
      let block = enclosed s (add_block s os a) os (InCue line ms []) (InCue line ms acts) l ends.line parts.front one inside ends.here (in_cue_end (in_figure (openings_of (InCue line ms acts ∷ os)))) refl (add_anywhere s (InCue line ms acts ∷ os) os a) in
      let kept : Kept (opens os a) rest = grind (arith, common_steps, opens_take, opens_repeats, and_parts, opens_figure) in
      reads_list _ _ _ _ (block_lines l ends.line ls parts.front parts.back ends.others parts.is ends.is)
      (block_then_rest s os a rest (l ∷ (parts.front ++ ends.line ∷ [])) ends.others k.takes block (body_reads rest (base s os a) (opens os a) ends.others kept ends.later))
  body_reads (plain.Repeat line times inside rest) s os [] k h = absurd h
  body_reads (plain.Repeat line times inside rest) s os (l ∷ ls) k h =
      let a = plain.Repeat line times inside plain.Done in
      let parts = split ls (body_said inside) (closing ∷ body_said rest) h.1 in
      let ends = first_said parts.back closing (body_said rest) parts.second in
      let fills = and_parts (has_block inside && is_filled inside) (is_filled rest) k.filled in
      let fills' = and_parts (has_block inside) (is_filled inside) fills.0 in
      let o = InRepeat line times plain.Done in
      let few : repeats (openings_of os) < 8 = omega (arith, k.nested) in
      let one = numbered_step (with_open s os) l line (entry.Repeat times) h.0 (block_stands os (entry.Repeat times) k.takes refl refl refl) (ap (λ b. fault_if b kind.Nesting) (no_nesting (repeats (openings_of os)) few)) in
      let kept_inside : Kept (o ∷ os) inside = grind (arith, common_steps, outer_repeats, and_parts, outer_figure) in
      let contents = body_reads inside s (o ∷ os) parts.front kept_inside parts.first in
      let block = enclosed s (add_block s os a) os o (InRepeat line times inside) l ends.line parts.front one contents ends.here (in_repeat_end (in_figure (openings_of (InRepeat line times inside ∷ os)))) (not_empty (has_block inside) line (outer_openings os) fills'.0) (add_anywhere s (InRepeat line times inside ∷ os) os a) in
      let kept : Kept (opens os a) rest = grind (arith, common_steps, opens_take, opens_repeats, and_parts, opens_figure) in
      reads_list _ _ _ _ (block_lines l ends.line ls parts.front parts.back ends.others parts.is ends.is)
      (block_then_rest s os a rest (l ∷ (parts.front ++ ends.line ∷ [])) ends.others k.takes block (body_reads rest (base s os a) (opens os a) ends.others kept ends.later))
