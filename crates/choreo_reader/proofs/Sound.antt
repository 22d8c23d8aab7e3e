-- What is read is what the text stands for.
use Rattle.choreo_reader.proofs.Prelude.{common_steps, ◌≡◌, ℕ, ◌+◌, ◌<◌, ◌≤◌, Bool, true, false, List, [], ◌∷◌, ◌++◌, length, map, Option, Some, None, Result, Ok, Err, refl, sym, ap, subst, ◌∙◌, arith, cond, append_assoc, All-from_recursion, ◌&&◌, not, nat_le, is_some, codes, append-nil, map-append, and_parts, eqb-true, nat_tests, list_all, Line, show_lines, Name, Body, PlainFigure, PlainShow, has_block, ◌⨾◌, SaidLine, IsSaid, at, anywhere, act_said, body_said, Item, Memory, Trajectory, Ellipsoid, Stray, Late, Drone, Formed, Figured, Blocks, item_said, show_of, IsItem, HasSingleSettings, StandsFor, parts_of, is_filled, depth, fits_figure, names_one, Says, may_say, Fault, fault_at, forbidden, OpenRepeat, OpenCue, fault_if, end_fault, place_of, place_in, in_figure, repeats, Open, InFormation, InFigure, InRepeat, InCue, Built, Step, nothing, context_of, openings_of, is_any, add_block, build, built_by, unless, built_show, line_step, lines_step, then_step, finish, finish_with, read_lines, reading, unless_forbidden, entry_fault, Word, word, entry_of, says_of, Entry, LineKind, ActLine, DroneLine, Form, form_of, form_named, header_of, read_after_header}
use Rattle.std.proofs.lemmas.Slice.Eq.{bytes_eq-Decides}
use Rattle.choreo_show.specs.Plain as plain
use Rattle.choreo_reader.proofs.Items.{closing, place_said, items_said, AreItems, AreSaid, add_item, Fresh, parts_in, show_in, single_in, item_in, with_last, parts_of-more}
use Rattle.choreo_reader.proofs.Complete.{TakesBlocks, Kept, with_open, outer_figure, outer_repeats}
use Rattle.choreo_reader.proofs.Allowed.{none_clean}
use Rattle.choreo_lines.specs.declared.line.Place.TheVariants as place
use Rattle.choreo_lines.specs.declared.line.Entry.TheVariants as entry
use Rattle.choreo_lines.specs.declared.line.LineKind.TheVariants as kind
use Rattle.choreo_show.specs.declared.show.ActLine.TheVariants as on

-- the lines of an open block so far, and those of all open blocks, the outermost first
abbrev pub open_said : Open → List SaidLine
open_said (InFormation line name places) = at line (entry.Formation name) ∷ map place_said places
open_said (InFigure line name roles b) = at line (entry.Figure name roles) ∷ body_said b
open_said (InRepeat line times b) = at line (entry.Repeat times) ∷ body_said b
open_said (InCue line ms acts) = at line (entry.Cue ms) ∷ map act_said acts

abbrev pub opens_said : List Open → List SaidLine
opens_said [] = []
opens_said (o ∷ os) = opens_said os ++ open_said o

-- the open blocks stand where they may
abbrev pub InOrder : List Open → Type 0
InOrder [] = Unit {0}
InOrder (InFormation line name places ∷ os) = os ≡ []
InOrder (InFigure line name roles b ∷ os) = (os ≡ []) × Kept (InFigure line name roles b ∷ os) b
InOrder (InRepeat line times b ∷ os) = TakesBlocks os × Kept (InRepeat line times b ∷ os) b × InOrder os
InOrder (InCue line ms acts ∷ os) = TakesBlocks os × (in_figure (openings_of os) ≡ true → list_all names_one acts ≡ true) × InOrder os

-- One more item.

items_said-more : (is : List Item) (i : Item) → items_said (is ++ i ∷ []) ≡ items_said is ++ item_said i
items_said-more [] i = append-nil (item_said i)
items_said-more (j ∷ is) i = ap (λ xs. item_said j ++ xs) (items_said-more is i) ∙ sym (append_assoc (item_said j) (items_said is) (item_said i))

each-more : (is : List Item) (i : Item) → AreItems is → IsItem i → AreItems (is ++ i ∷ [])
each-more [] i h k = (k, tt)
each-more (j ∷ is) i h k = (h.0, each-more is i h.1 k)

none_open : (i : Item) (s : Built) → (add_item s i).open_blocks ≡ []
none_open (Memory id offset) s = refl
none_open i s = refl

-- Bodies after bodies.

body_said-then : (a b : Body) → body_said (a ⨾ b) ≡ body_said a ++ body_said b
body_said-then plain.Done b = refl
body_said-then (plain.Cue line ms acts rest) b =
    ap (λ xs. at line (entry.Cue ms) ∷ (map act_said acts ++ closing ∷ xs)) (body_said-then rest b)
    ∙ ap (λ xs. at line (entry.Cue ms) ∷ xs) (sym (append_assoc (map act_said acts) (closing ∷ body_said rest) (body_said b)))
body_said-then (plain.Repeat line times inside rest) b =
    ap (λ xs. at line (entry.Repeat times) ∷ (body_said inside ++ closing ∷ xs)) (body_said-then rest b)
    ∙ ap (λ xs. at line (entry.Repeat times) ∷ xs) (sym (append_assoc (body_said inside) (closing ∷ body_said rest) (body_said b)))
body_said-then (plain.Perform line figure frame ds rest) b = ap (λ xs. at line (entry.Perform figure frame ds) ∷ xs) (body_said-then rest b)

both : (x y : Bool) → x ≡ true → y ≡ true → (x && y) ≡ true
both x y p q = ap (λ b. b && y) p ∙ q

pub filled_then : (a b : Body) → is_filled a ≡ true → is_filled b ≡ true → is_filled (a ⨾ b) ≡ true
filled_then plain.Done b p q = q
filled_then (plain.Cue line ms acts rest) b p q = filled_then rest b p q
filled_then (plain.Repeat line times inside rest) b p q =
    let parts = and_parts (has_block inside && is_filled inside) (is_filled rest) p in
    both (has_block inside && is_filled inside) (is_filled (rest ⨾ b)) parts.0 (filled_then rest b parts.1 q)
filled_then (plain.Perform line figure frame ds rest) b p q = filled_then rest b p q

pub depth_then : (a b : Body) (n : ℕ) → n + depth a ≤ 8 → n + depth b ≤ 8 → n + depth (a ⨾ b) ≤ 8
depth_then plain.Done b n p q = q
depth_then (plain.Cue line ms acts rest) b n p q = depth_then rest b n p q
depth_then (plain.Repeat line times inside rest) b n p q = omega (arith, p, depth_then rest b n (omega (arith, p)) q)
depth_then (plain.Perform line figure frame ds rest) b n p q = depth_then rest b n p q

fits_then : (a b : Body) → fits_figure a ≡ true → fits_figure b ≡ true → fits_figure (a ⨾ b) ≡ true
fits_then plain.Done b p q = q
fits_then (plain.Cue line ms acts rest) b p q =
    let parts = and_parts (list_all names_one acts) (fits_figure rest) p in both (list_all names_one acts) (fits_figure (rest ⨾ b)) parts.0 (fits_then rest b parts.1 q)
fits_then (plain.Repeat line times inside rest) b p q =
    let parts = and_parts (fits_figure inside) (fits_figure rest) p in both (fits_figure inside) (fits_figure (rest ⨾ b)) parts.0 (fits_then rest b parts.1 q)
fits_then (plain.Perform line figure frame ds rest) b p q = cc

-- Where an entry stands.

pub not_in_repeat : (b : Bool) (e : Entry) → may_say place.InFigure e ≡ false → may_say place.InRepeat e ≡ false → may_say (place_in OpenRepeat b) e ≡ true → ⊥
not_in_repeat true e p q m = cc
not_in_repeat false e p q m = cc

pub not_in_cue : (b : Bool) (e : Entry) → may_say place.InCue e ≡ false → may_say place.InFigureCue e ≡ false → may_say (place_in OpenCue b) e ≡ true → ⊥
not_in_cue true e p q m = cc
not_in_cue false e p q m = cc

-- an entry that may stand in no block
abbrev pub IsOutside : Entry → Type 0
IsOutside e = (may_say place.InFormation e ≡ false) × (may_say place.InFigure e ≡ false) × (may_say place.InRepeat e ≡ false) × (may_say place.InCue e ≡ false) × (may_say place.InFigureCue e ≡ false)

pub top_is : (os : List Open) (e : Entry) → IsOutside e → may_say (place_of (openings_of os)) e ≡ true → os ≡ []
top_is [] e o m = refl
top_is (InFormation line name places ∷ os) e o m = let f = o.0 in cc
top_is (InFigure line name roles b ∷ os) e o m = let f = o.1 in cc
top_is (InRepeat line times b ∷ os) e o m = absurd (not_in_repeat (in_figure (openings_of (InRepeat line times b ∷ os))) e o.1 o.2 m)
top_is (InCue line ms acts ∷ os) e o m = absurd (not_in_cue (in_figure (openings_of (InCue line ms acts ∷ os))) e o.3 o.4 m)

pub takes_is : (os : List Open) (e : Entry) → may_say place.InFormation e ≡ false → may_say place.InCue e ≡ false → may_say place.InFigureCue e ≡ false → may_say (place_of (openings_of os)) e ≡ true → TakesBlocks os
takes_is [] e f c d m = tt
takes_is (InFormation line name places ∷ os) e f c d m = cc
takes_is (InFigure line name roles b ∷ os) e f c d m = tt
takes_is (InRepeat line times b ∷ os) e f c d m = tt
takes_is (InCue line ms acts ∷ os) e f c d m = absurd (not_in_cue (in_figure (openings_of (InCue line ms acts ∷ os))) e c d m)

repeat_outside : (b : Bool) (e : Entry) → may_say place.InFigure e ≡ false → may_say (place_in OpenRepeat b) e ≡ true → b ≡ false
repeat_outside true e f m = cc
repeat_outside false e f m = refl

outside_is : (os : List Open) (e : Entry) → TakesBlocks os → may_say place.InFigure e ≡ false → may_say (place_of (openings_of os)) e ≡ true → in_figure (openings_of os) ≡ false
outside_is [] e k f m = refl
outside_is (InFormation line name places ∷ os) e k f m = absurd k
outside_is (InFigure line name roles b ∷ os) e k f m = cc
outside_is (InRepeat line times b ∷ os) e k f m = repeat_outside (in_figure (openings_of (InRepeat line times b ∷ os))) e f m
outside_is (InCue line ms acts ∷ os) e k f m = absurd k

few_repeats : (os : List Open) → InOrder os → TakesBlocks os → repeats (openings_of os) ≤ 8
few_repeats [] k t = omega arith
few_repeats (InFormation line name places ∷ os) k t = absurd t
few_repeats (InFigure line name roles b ∷ os) k t = omega (arith, k.1.nested)
few_repeats (InRepeat line times b ∷ os) k t = omega (arith, k.1.nested)
few_repeats (InCue line ms acts ∷ os) k t = absurd t

-- Without a fault.

unset_back : {A : Type 0} (o : Option A) → fault_if (is_some o) kind.DoubleSetting ≡ None → o ≡ None
unset_back None h = refl
unset_back (Some x) h = cc

fault_none : (b : Bool) (k : LineKind) → fault_if b k ≡ None → b ≡ false
fault_none true k h = cc
fault_none false k h = refl

not_false : (b : Bool) → not b ≡ false → b ≡ true
not_false true h = refl
not_false false h = cc

few_more : (n : ℕ) → nat_le 8 n ≡ false → n < 8
few_more n h = grind (arith, nat_tests)

any_place : (places : List DroneLine) → is_any places ≡ true → 1 ≤ length places
any_place [] h = cc
any_place (d ∷ places) h = omega arith

-- one more act line, which fits where the cue stands
all_more : (acts : List ActLine) (a : ActLine) → list_all names_one acts ≡ true → names_one a ≡ true → list_all names_one (acts ++ a ∷ []) ≡ true
all_more [] a h k = both (names_one a) true k refl
all_more (b ∷ acts) a h k = let parts = and_parts (names_one b) (list_all names_one acts) h in both (names_one b) (list_all names_one (acts ++ a ∷ [])) parts.0 (all_more acts a parts.1 k)

form_outside : (b : Bool) (e : Entry) → may_say place.InFigureCue e ≡ false → may_say (place_in OpenCue b) e ≡ true → b ≡ false
form_outside true e f m = cc
form_outside false e f m = refl

unless_by : (o : Option LineKind) (n : ℕ) (s t : Built) → unless n o s ≡ Ok t → (o ≡ None) × (s ≡ t)
unless_by None n s t h = (refl, cc)
unless_by (Some k) n s t h = cc

-- The lines of a text in one form.
module _ (form : Form) where
  -- a state stands for the lines read so far
  pub record Holds (s : Built) (done : List Line) : Type 0 where
    pub items : List Item
    pub said : AreSaid form done (items_said items ++ opens_said s.open_blocks)
    pub each : AreItems items
    pub order : InOrder s.open_blocks
    pub parts : parts_of items ≡ parts_in s

  snoc : (ls : List Line) (l : Line) (xs : List SaidLine) (x : SaidLine) → AreSaid form ls xs → IsSaid form l x → AreSaid form (ls ++ l ∷ []) (xs ++ x ∷ [])
  snoc [] l [] x h i = (i, tt)
  snoc [] l (y ∷ xs) x h i = absurd h
  snoc (k ∷ ls) l [] x h i = absurd h
  snoc (k ∷ ls) l (y ∷ xs) x h i = (h.0, snoc ls l xs x h.1 i)

  -- one more line, after two stretches
  said_more : (ls : List Line) (l : Line) (xs ys : List SaidLine) (x : SaidLine) → AreSaid form ls (xs ++ ys) → IsSaid form l x → AreSaid form (ls ++ l ∷ []) (xs ++ (ys ++ x ∷ []))
  said_more ls l xs ys x h i = subst (λ zs. AreSaid form (ls ++ l ∷ []) zs) (append_assoc xs ys (x ∷ [])) (snoc ls l (xs ++ ys) x h i)

  here : (l : Line) (e : Entry) → Says form l.words e → IsSaid form l (at l.number e)
  here l e h = record { number = refl; says = h }

  somewhere : (l : Line) (e : Entry) → Says form l.words e → IsSaid form l (anywhere e)
  somewhere l e h = record { number = tt; says = h }

  -- the state after an item stands for its lines as well
  item_holds : (i : Item) (s : Built) (os : List Open) (done ls : List Line) → (h : Holds (with_open s os) done) → IsItem i → Fresh s i → AreSaid form (done ++ ls) (items_said h.items ++ item_said i) → Holds (add_item s i) (done ++ ls)
  item_holds i s os done ls h k f said =
      let same : items_said h.items ++ item_said i ≡ items_said (h.items ++ i ∷ []) ++ opens_said (add_item s i).open_blocks =
      sym (items_said-more h.items i) ∙ sym (append-nil (items_said (h.items ++ i ∷ []))) ∙ ap (λ qs. items_said (h.items ++ i ∷ []) ++ opens_said qs) (sym (none_open i s)) in
      grind (arith, common_steps, each-more, none_open, parts_of-more, with_last, item_in)

  -- other open blocks, for more lines
  opens_hold : (s : Built) (os qs : List Open) (done ls : List Line) → (h : Holds (with_open s os) done) → AreSaid form (done ++ ls) (items_said h.items ++ opens_said qs) → InOrder qs → Holds (with_open s qs) (done ++ ls)
  opens_hold s os qs done ls h said k =
      record { items = h.items; said = said; each = h.each; order = k; parts = h.parts }

  -- one more block, in the innermost open one or at top
  block_added : (s : Built) (os qs : List Open) (a : Body) (done ls : List Line) → (h : Holds (with_open s qs) done) → AreSaid form (done ++ ls) (items_said h.items ++ (opens_said os ++ body_said a)) → InOrder os → Kept os a → Holds (add_block s os a) (done ++ ls)
  block_added s [] qs a done ls h said k p =
      item_holds (Blocks a) s qs done ls h (p.filled, omega (arith, p.nested)) tt said
  block_added s (InFormation line name places ∷ os) qs a done ls h said k p = absurd p.takes
  block_added s (InFigure line name roles b ∷ os) qs a done ls h said k p =
      let to = InFigure line name roles (b ⨾ a) ∷ os in
      let same : (opens_said os ++ at line (entry.Figure name roles) ∷ body_said b) ++ body_said a ≡ opens_said os ++ at line (entry.Figure name roles) ∷ body_said (b ⨾ a) =
      append_assoc (opens_said os) (at line (entry.Figure name roles) ∷ body_said b) (body_said a)
      ∙ ap (λ xs. opens_said os ++ at line (entry.Figure name roles) ∷ xs) (sym (body_said-then b a)) in
      opens_hold s qs (InFigure line name roles (b ⨾ a) ∷ os) done ls h (subst (λ xs. AreSaid form (done ++ ls) (items_said h.items ++ xs)) same said)
      (k.0, record { takes = tt; filled = filled_then b a k.1.filled p.filled; nested = depth_then b a _ k.1.nested p.nested; figure = λ e. fits_then b a (k.1.figure e) (p.figure e) })
  block_added s (InRepeat line times b ∷ os) qs a done ls h said k p =
      let same : (opens_said os ++ at line (entry.Repeat times) ∷ body_said b) ++ body_said a ≡ opens_said os ++ at line (entry.Repeat times) ∷ body_said (b ⨾ a) =
      append_assoc (opens_said os) (at line (entry.Repeat times) ∷ body_said b) (body_said a)
      ∙ ap (λ xs. opens_said os ++ at line (entry.Repeat times) ∷ xs) (sym (body_said-then b a)) in
      opens_hold s qs (InRepeat line times (b ⨾ a) ∷ os) done ls h (subst (λ xs. AreSaid form (done ++ ls) (items_said h.items ++ xs)) same said)
      (k.0, record { takes = tt; filled = filled_then b a k.1.filled p.filled; nested = depth_then b a _ k.1.nested p.nested; figure = λ e. fits_then b a (k.1.figure e) (p.figure e) }, k.2)
  block_added s (InCue line ms acts ∷ os) qs a done ls h said k p = absurd p.takes

  -- What each kind of line does.

  abbrev Goes : Built → List Open → List Line → Line → Entry → Type 0
  Goes s os done l e = Holds (with_open s os) done → Says form l.words e → entry_fault (context_of (with_open s os)) e ≡ None → Holds (build (with_open s os) l.number e) (done ++ l ∷ [])

  -- an item of one line
  item_line : (i : Item) (e : Entry) (x : SaidLine) (s : Built) (done : List Line) (l : Line) → (h : Holds (with_open s []) done) → IsItem i → Fresh s i → item_said i ≡ x ∷ [] → IsSaid form l x → Holds (add_item s i) (done ++ l ∷ [])
  item_line i e x s done l h k f same is =
      let said = said_more done l (items_said h.items) [] x h.said is in
      item_holds i s [] done (l ∷ []) h k f (subst (λ xs. AreSaid form (done ++ l ∷ []) (items_said h.items ++ xs)) (sym same) said)

  -- a line that opens a block
  block_opened : (s : Built) (os : List Open) (o : Open) (e : Entry) (done : List Line) (l : Line) → (h : Holds (with_open s os) done) → Says form l.words e → open_said o ≡ at l.number e ∷ [] → InOrder (o ∷ os) → Holds (with_open s (o ∷ os)) (done ++ l ∷ [])
  block_opened s os o e done l h says same k =
      let said = said_more done l (items_said h.items) (opens_said os) (at l.number e) h.said (here l e says) in
      opens_hold s os (o ∷ os) done (l ∷ []) h (subst (λ xs. AreSaid form (done ++ l ∷ []) (items_said h.items ++ (opens_said os ++ xs))) (sym same) said) k

  -- a line inside the innermost block
  line_added : (s : Built) (o p : Open) (os : List Open) (e : Entry) (done : List Line) (l : Line) → (h : Holds (with_open s (o ∷ os)) done) → Says form l.words e → open_said p ≡ open_said o ++ at l.number e ∷ [] → InOrder (p ∷ os) → Holds (with_open s (p ∷ os)) (done ++ l ∷ [])
  line_added s o p os e done l h says same k =
      let said = said_more done l (items_said h.items) (opens_said os ++ open_said o) (at l.number e) h.said (here l e says) in
      let to : (opens_said os ++ open_said o) ++ at l.number e ∷ [] ≡ opens_said os ++ open_said p = append_assoc (opens_said os) (open_said o) (at l.number e ∷ []) ∙ ap (λ xs. opens_said os ++ xs) (sym same) in
      opens_hold s (o ∷ os) (p ∷ os) done (l ∷ []) h (subst (λ xs. AreSaid form (done ++ l ∷ []) (items_said h.items ++ xs)) to said) k

  -- `end` of a cue or a repeat
  block_closed : (s : Built) (o : Open) (os : List Open) (a : Body) (done : List Line) (l : Line) → (h : Holds (with_open s (o ∷ os)) done) → Says form l.words entry.End → body_said a ≡ open_said o ++ closing ∷ [] → InOrder os → Kept os a → Holds (add_block s os a) (done ++ l ∷ [])
  block_closed s o os a done l h says same k p =
      let said = said_more done l (items_said h.items) (opens_said os ++ open_said o) closing h.said (somewhere l entry.End says) in
      let to : (opens_said os ++ open_said o) ++ closing ∷ [] ≡ opens_said os ++ body_said a = append_assoc (opens_said os) (open_said o) (closing ∷ []) ∙ ap (λ xs. opens_said os ++ xs) (sym same) in
      block_added s os (o ∷ os) a done (l ∷ []) h (subst (λ xs. AreSaid form (done ++ l ∷ []) (items_said h.items ++ xs)) to said) k p

  -- `end` of a formation or a figure
  item_closed : (s : Built) (o : Open) (i : Item) (done : List Line) (l : Line) → (h : Holds (with_open s (o ∷ [])) done) → Says form l.words entry.End → item_said i ≡ open_said o ++ closing ∷ [] → IsItem i → Fresh s i → Holds (add_item s i) (done ++ l ∷ [])
  item_closed s o i done l h says same k f =
      let said = said_more done l (items_said h.items) (open_said o) closing h.said (somewhere l entry.End says) in
      item_holds i s (o ∷ []) done (l ∷ []) h k f (subst (λ xs. AreSaid form (done ++ l ∷ []) (items_said h.items ++ xs)) (sym same) said)

  end_goes : (os : List Open) (s : Built) (done : List Line) (l : Line) → may_say (place_of (openings_of os)) entry.End ≡ true → Goes s os done l entry.End
  end_goes [] s done l m h says f = cc
  end_goes (InFormation line name places ∷ []) s done l m h says f =
      let some = any_place places (not_false (is_any places) (fault_none _ kind.EmptyBlock f)) in
      item_closed s (InFormation line name places) (Formed (record { line = line; name = name; places = places })) done l h says refl some tt
  end_goes (InFormation line name places ∷ o ∷ os) s done l m h says f = let k : o ∷ os ≡ [] = h.order in cc
  end_goes (InFigure line name roles b ∷ []) s done l m h says f =
      let some = not_false (has_block b) (fault_none _ kind.EmptyBlock f) in
      let k = h.order.1 in
      item_closed s (InFigure line name roles b) (Figured (record { line = line; name = name; roles = roles; body = b })) done l h says refl (some, k.figure refl, k.filled, omega (arith, k.nested)) tt
  end_goes (InFigure line name roles b ∷ o ∷ os) s done l m h says f = let k : o ∷ os ≡ [] = h.order.0 in cc
  end_goes (InRepeat line times b ∷ os) s done l m h says f =
      let some = not_false (has_block b) (fault_none _ kind.EmptyBlock f) in
      let k = h.order.1 in
      block_closed s (InRepeat line times b) os (plain.Repeat line times b plain.Done) done l h says refl h.order.2 (record {
        takes = h.order.0;
        filled = both (has_block b && is_filled b) true (both (has_block b) (is_filled b) some k.filled) refl;
        nested = omega (arith, k.nested, outer_repeats os);
        figure = λ e. both (fits_figure b) true (k.figure (outer_figure os ∙ e)) refl;
      })
  end_goes (InCue line ms acts ∷ os) s done l m h says f =
      block_closed s (InCue line ms acts) os (plain.Cue line ms acts plain.Done) done l h says refl h.order.2 (record {
        takes = h.order.0;
        filled = refl;
        nested = omega (arith, few_repeats os h.order.2 h.order.0);
        figure = λ e. both (list_all names_one acts) true (h.order.1 e) refl;
      })

  place_goes : (os : List Open) (s : Built) (done : List Line) (l : Line) (name : Name) (to : _) → may_say (place_of (openings_of os)) (entry.At name to) ≡ true → Goes s os done l (entry.At name to)
  place_goes [] s done l name to m h says f = cc
  place_goes (InFormation line n places ∷ os) s done l name to m h says f =
      let d : DroneLine = record { line = l.number; name = name; at = to } in
      line_added s (InFormation line n places) (InFormation line n (places ++ d ∷ [])) os (entry.At name to) done l h says (ap (λ xs. at line (entry.Formation n) ∷ xs) (map-append place_said places (d ∷ []))) h.order
  place_goes (InFigure line n roles b ∷ os) s done l name to m h says f = cc
  place_goes (InRepeat line times b ∷ os) s done l name to m h says f = absurd (not_in_repeat (in_figure (openings_of (InRepeat line times b ∷ os))) (entry.At name to) refl refl m)
  place_goes (InCue line ms acts ∷ os) s done l name to m h says f = absurd (not_in_cue (in_figure (openings_of (InCue line ms acts ∷ os))) (entry.At name to) refl refl m)

  act_added : (s : Built) (line ms : ℕ) (acts : List ActLine) (os : List Open) (a : ActLine) (e : Entry) (done : List Line) (l : Line) → Holds (with_open s (InCue line ms acts ∷ os)) done → Says form l.words e → act_said a ≡ at l.number e → (in_figure (openings_of os) ≡ true → names_one a ≡ true) → Holds (with_open s (InCue line ms (acts ++ a ∷ []) ∷ os)) (done ++ l ∷ [])
  act_added s line ms acts os a e done l h says same fits =
      line_added s (InCue line ms acts) (InCue line ms (acts ++ a ∷ [])) os e done l h says
      (ap (λ xs. at line (entry.Cue ms) ∷ xs) (map-append act_said acts (a ∷ []) ∙ ap (λ x. map act_said acts ++ x ∷ []) same))
      (h.order.0, λ q. all_more acts a (h.order.1 q) (fits q), h.order.2)

  one_goes : (os : List Open) (s : Built) (done : List Line) (l : Line) (name : Name) (a : _) → may_say (place_of (openings_of os)) (entry.One name a) ≡ true → Goes s os done l (entry.One name a)
  one_goes [] s done l name a m h says f = cc
  one_goes (InFormation line n places ∷ os) s done l name a m h says f = cc
  one_goes (InFigure line n roles b ∷ os) s done l name a m h says f = cc
  one_goes (InRepeat line times b ∷ os) s done l name a m h says f = absurd (not_in_repeat (in_figure (openings_of (InRepeat line times b ∷ os))) (entry.One name a) refl refl m)
  one_goes (InCue line ms acts ∷ os) s done l name a m h says f =
      act_added s line ms acts os (on.One l.number name a) (entry.One name a) done l h says refl (λ q. refl)

  form_goes : (os : List Open) (s : Built) (done : List Line) (l : Line) (name : Name) (smooth : Bool) → may_say (place_of (openings_of os)) (entry.Form name smooth) ≡ true → Goes s os done l (entry.Form name smooth)
  form_goes [] s done l name smooth m h says f = cc
  form_goes (InFormation line n places ∷ os) s done l name smooth m h says f = cc
  form_goes (InFigure line n roles b ∷ os) s done l name smooth m h says f = cc
  form_goes (InRepeat line times b ∷ os) s done l name smooth m h says f = absurd (not_in_repeat (in_figure (openings_of (InRepeat line times b ∷ os))) (entry.Form name smooth) refl refl m)
  form_goes (InCue line ms acts ∷ os) s done l name smooth m h says f =
      let outside = form_outside (in_figure (openings_of (InCue line ms acts ∷ os))) (entry.Form name smooth) refl m in
      act_added s line ms acts os (on.Form l.number name smooth) (entry.Form name smooth) done l h says refl (λ q. sym outside ∙ outer_figure os ∙ q)

  -- a line at top
  at_top : (e : Entry) (os : List Open) (s : Built) (done : List Line) (l : Line) → IsOutside e → may_say (place_of (openings_of os)) e ≡ true → Goes s [] done l e → Goes s os done l e
  at_top e os s done l o m goes = subst (λ qs. Goes s qs done l e) (sym (top_is os e o m)) goes

  goes : (e : Entry) (os : List Open) (s : Built) (done : List Line) (l : Line) → may_say (place_of (openings_of os)) e ≡ true → Goes s os done l e
  goes (entry.Memory id offset) os s done l m = at_top (entry.Memory id offset) os s done l (refl, refl, refl, refl, refl) m
      (λ h says f. item_line (Memory id offset) (entry.Memory id offset) _ s done l h tt (unset_back s.memory f) refl (somewhere l _ says))
  goes (entry.Trajectory id) os s done l m = at_top (entry.Trajectory id) os s done l (refl, refl, refl, refl, refl) m
      (λ h says f. item_line (Trajectory id) (entry.Trajectory id) _ s done l h tt (unset_back s.trajectory f) refl (somewhere l _ says))
  goes (entry.Ellipsoid r x) os s done l m = at_top (entry.Ellipsoid r x) os s done l (refl, refl, refl, refl, refl) m
      (λ h says f. item_line (Ellipsoid r x) (entry.Ellipsoid r x) _ s done l h tt (unset_back s.ellipsoid f) refl (somewhere l _ says))
  goes (entry.Stray mm) os s done l m = at_top (entry.Stray mm) os s done l (refl, refl, refl, refl, refl) m
      (λ h says f. item_line (Stray mm) (entry.Stray mm) _ s done l h tt (unset_back s.stray f) refl (somewhere l _ says))
  goes (entry.Late ms) os s done l m = at_top (entry.Late ms) os s done l (refl, refl, refl, refl, refl) m
      (λ h says f. item_line (Late ms) (entry.Late ms) _ s done l h tt (unset_back s.late f) refl (somewhere l _ says))
  goes (entry.Drone name to) os s done l m = at_top (entry.Drone name to) os s done l (refl, refl, refl, refl, refl) m
      (λ h says f. item_line (Drone (record { line = l.number; name = name; at = to })) (entry.Drone name to) _ s done l h tt tt refl (here l _ says))
  goes (entry.Formation name) os s done l m = at_top (entry.Formation name) os s done l (refl, refl, refl, refl, refl) m
      (λ h says f. block_opened s [] (InFormation l.number name []) (entry.Formation name) done l h says refl refl)
  goes (entry.Figure name roles) os s done l m = grind (arith, common_steps, at_top, block_opened)
  goes (entry.Cue ms) os s done l m =
      λ h says f. block_opened s os (InCue l.number ms []) (entry.Cue ms) done l h says refl
      (takes_is os (entry.Cue ms) refl refl refl m, λ q. refl, h.order)
  goes (entry.Repeat times) os s done l m = grind (arith, common_steps, few_more, fault_none, block_opened, takes_is, outer_repeats)
  goes (entry.Perform figure frame ds) os s done l m =
      λ h says f.
      let takes = takes_is os (entry.Perform figure frame ds) refl refl refl m in
      let outside = outside_is os (entry.Perform figure frame ds) takes refl m in
      let said = said_more done l (items_said h.items) (opens_said os) (at l.number (entry.Perform figure frame ds)) h.said (here l _ says) in
      block_added s os os (plain.Perform l.number figure frame ds plain.Done) done (l ∷ []) h said h.order
      (record { takes = takes; filled = refl; nested = omega (arith, few_repeats os h.order takes); figure = λ q. sym outside ∙ q })
  goes (entry.At name to) os s done l m = place_goes os s done l name to m
  goes (entry.Form name smooth) os s done l m = form_goes os s done l name smooth m
  goes (entry.One name a) os s done l m = one_goes os s done l name a m
  goes entry.End os s done l m = end_goes os s done l m

  -- one line that went well
  record Stepped (s t : Built) (l : Line) : Type 0 where
    entry : Entry
    says : Says form l.words entry
    stands : may_say (place_of (openings_of s.open_blocks)) entry ≡ true
    faultless : entry_fault (context_of s) entry ≡ None
    is : build s l.number entry ≡ t

  stepped_by : (r : Result Entry LineKind) (s t : Built) (l : Line) → entry_of form (place_of (openings_of s.open_blocks)) l.words ≡ r → built_by s l.number r ≡ Ok t → Stepped s t l
  stepped_by (Ok e) s t l q h =
      let u = unless_by (entry_fault (context_of s) e) l.number (build s l.number e) t h in
      let b = says_of form (place_of (openings_of s.open_blocks)) l.words e q in
      record { entry = e; says = b.0; stands = b.1; faultless = u.0; is = u.1 }
  stepped_by (Err k) s t l q h = cc

  pub step_holds : (s t : Built) (l : Line) (done : List Line) → Holds s done → line_step form s l ≡ Ok t → Holds t (done ++ l ∷ [])
  step_holds s t l done h e =
      let p = stepped_by (entry_of form (place_of (openings_of s.open_blocks)) l.words) s t l refl e in
      subst (λ u. Holds u (done ++ l ∷ [])) p.is (goes p.entry s.open_blocks s done l p.stands h p.says p.faultless)

  one_more : (r : Step) (l : Line) (ls done : List Line) (s t : Built) → Holds s done → line_step form s l ≡ r → then_step r (λ u. lines_step form u ls) ≡ Ok t → ((u : Built) → Holds u (done ++ l ∷ []) → lines_step form u ls ≡ Ok t → Holds t ((done ++ l ∷ []) ++ ls)) → Holds t (done ++ l ∷ ls)
  one_more (Ok u) l ls done s t h e k ih = subst (λ xs. Holds t xs) (append_assoc done (l ∷ []) ls) (ih u (step_holds s u l done h e) k)
  one_more (Err f) l ls done s t h e k ih = cc

  steps_hold : (ls done : List Line) (s t : Built) → Holds s done → lines_step form s ls ≡ Ok t → Holds t (done ++ ls)
  steps_hold [] done s t h e = let same : s ≡ t = cc in subst (λ xs. Holds t xs) (sym (append-nil done)) (subst (λ u. Holds u done) same h)
  steps_hold (l ∷ ls) done s t h e = one_more (line_step form s l) l ls done s t h refl e (λ u k q. steps_hold ls (done ++ l ∷ []) u t k q)

  pub at_start : Holds nothing []
  at_start = record { items = []; said = tt; each = tt; order = tt; parts = refl }

-- the parts of a reading that gave a show
record Read (lines : List Line) (show : PlainShow) : Type 0 where
  form : Form
  header : Line
  others : List Line
  state : Built
  is : lines ≡ header ∷ others
  first : form_of header.words ≡ Some form
  steps : lines_step form nothing others ≡ Ok state
  closed : state.open_blocks ≡ []
  shows : built_show state ≡ show

closed_by : (os : List Open) (s : Built) (show : PlainShow) → s.open_blocks ≡ os → finish_with s (end_fault (openings_of os)) ≡ Ok show → (s.open_blocks ≡ []) × (built_show s ≡ show)
closed_by [] s show e h = (e, cc)
closed_by (o ∷ os) s show e h = cc

finished_by : (r : Step) (form : Form) (l : Line) (ls : List Line) (show : PlainShow) → form_of l.words ≡ Some form → lines_step form nothing ls ≡ r → finish r ≡ Ok show → Read (l ∷ ls) show
finished_by (Ok s) form l ls show b e h =
    let p = closed_by s.open_blocks s show refl h in
    record { form = form; header = l; others = ls; state = s; is = refl; first = b; steps = e; closed = p.0; shows = p.1 }
finished_by (Err f) form l ls show b e h = cc

header_by : (o : Option Form) (l : Line) (ls : List Line) (show : PlainShow) → form_of l.words ≡ o → read_after_header o l.number ls ≡ Ok show → Read (l ∷ ls) show
header_by (Some form) l ls show e h = finished_by (lines_step form nothing ls) form l ls show e refl h
header_by None l ls show e h = cc

lines_by : (ls : List Line) (show : PlainShow) → read_lines ls ≡ Ok show → Read ls show
lines_by [] show h = cc
lines_by (l ∷ ls) show h = header_by (form_of l.words) l ls show refl h

record Unforbidden (text : List ℕ) (show : PlainShow) : Type 0 where
  allowed : forbidden text ≡ None
  read : read_lines (show_lines text) ≡ Ok show

unforbidden_by : (o : Option Fault) (text : List ℕ) (show : PlainShow) → forbidden text ≡ o → unless_forbidden o (read_lines (show_lines text)) ≡ Ok show → Unforbidden text show
unforbidden_by None text show e h = record { allowed = e; read = h }
unforbidden_by (Some f) text show e h = cc

two_words : (ws : List Word) → length ws ≡ 2 → ws ≡ word ws 0 ∷ word ws 1 ∷ []
two_words [] h = absurd (omega arith)
two_words (a ∷ []) h = absurd (omega arith)
two_words (a ∷ b ∷ []) h = refl
two_words (a ∷ b ∷ c ∷ ws) h = absurd (omega arith)

named_word : (w : Word) (form : Form) → form_named w ≡ Some form → codes "choreo" ∷ w ∷ [] ≡ header_of form
named_word w form h = grind (arith, common_steps, bytes_eq-Decides)

header_words : (ws : List Word) (form : Form) → form_of ws ≡ Some form → ws ≡ header_of form
header_words ws form h = grind (arith, common_steps, and_parts, bytes_eq-Decides, two_words, eqb-true, named_word)

-- what is read is what the text stands for
pub sound : (text : List ℕ) (show : PlainShow) → reading text ≡ Ok show → StandsFor text show
sound text show h =
    let u = unforbidden_by (forbidden text) text show refl h in
    let r = lines_by (show_lines text) show u.read in
    let k = steps_hold r.form r.others [] nothing r.state (at_start r.form) r.steps in
    let none : items_said k.items ++ opens_said r.state.open_blocks ≡ items_said k.items = ap (λ os. items_said k.items ++ opens_said os) r.closed ∙ append-nil (items_said k.items) in
    record {
      form = r.form;
      items = k.items;
      header = r.header;
      lines = r.others;
      bytes = none_clean text u.allowed;
      cut = r.is;
      first = header_words r.header.words r.form r.first;
      said = subst (λ ss. AreSaid r.form r.others ss) none k.said;
      each = All-from_recursion IsItem k.items k.each;
      single = subst HasSingleSettings (sym k.parts) (single_in r.state);
      makes = ap show_of k.parts ∙ show_in r.state ∙ r.shows;
    }
