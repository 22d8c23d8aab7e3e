-- A show that a text stands for is valid.
use Rattle.choreo_reader.proofs.Prelude.{common_steps, ◌≡◌, ℕ, ◌+◌, ◌<◌, ◌≤◌, Bool, true, false, cond, eqb-true, ne_eqb, List, [], ◌∷◌, ◌++◌, map, Option, Some, None, refl, sym, ap, subst, ◌∙◌, arith, append_assoc, recursion_from_All, ◌==◌, slice_index_or, IfSome, IsTrue, append-nil, FromHash, visible, Line, line_with, numbered, words_of, lines_of, Body, PlainFigure, PlainShow, has_block, ◌⨾◌, Word, row_of, act_places, has_count, act_fields, keyword_in, fields_of, SaysAct, Says, held_fit, held_length, holds_fits, SaidLine, act_said, body_said, Item, Memory, Trajectory, Ellipsoid, Stray, Late, Drone, Formed, Figured, Blocks, item_said, show_of, IsItem, StandsFor, parts_of, is_filled, depth, IsName, FitsAct, FitActLines, FitsBody, FitDroneLines, FitFormations, FitFigures, FitsSettings, act_lines, body_lines, drone_lines, formation_lines, figure_lines, AllAbove, times, all_lines, IsValid, Entry, ActLine, DroneLine, Formation, Form, and_parts, leb-true, length-map, ◌&&◌, nat_le, length, point, AllFit, point_fields, Name, AreNames, FitsFigure, FitsPerform, FitsPoint}
use Rattle.std.proofs.lemmas.Int.{ints}
use Rattle.choreo_show.specs.Plain as plain
use Rattle.choreo_lines.specs.declared.table.Want.TheVariants as want
use Rattle.choreo_lines.specs.declared.table.Value.TheVariants.{Name as Named}
use Rattle.choreo_reader.proofs.Items.{closing, place_said, items_said, drones, formations, figures, body, AreItems, AreSaid}
use Rattle.choreo_reader.proofs.Sound.{filled_then, depth_then}
use Rattle.choreo_lines.specs.declared.line.Entry.TheVariants as entry
use Rattle.choreo_show.specs.declared.parts.Act.{Act}
use Rattle.choreo_show.specs.declared.parts.Act.TheVariants as act
use Rattle.choreo_show.specs.declared.parts.Frame.{Frame}
use Rattle.choreo_show.specs.declared.parts.Point.{Point}
use Rattle.choreo_show.specs.declared.show.ActLine.TheVariants as on

-- The ranges of what a line says.

-- a line with a first word of its own: its values are as its row wants them, and this many names stand after them
abbrev FitsLine : Entry → Type 0
FitsLine e =
    IsTrue (has_count (row_of (keyword_in e)) (length (fields_of e)))
    × AllFit (row_of (keyword_in e)).places (fields_of e)

point_fits : (p : Point) → AllFit point (point_fields p) → FitsPoint p
point_fits p h = (h.0, h.1.0, h.1.1.0, h.1.1.1.0)

act_in_ranges : (a : Act) → AllFit (act_places (act_fields a).0) (act_fields a).1 → FitsAct a
act_in_ranges act.Hold h = tt
act_in_ranges (act.Line to) h = point_fits to h
act_in_ranges (act.Move to) h = point_fits to h
act_in_ranges (act.Turn yaw) h = h.0
act_in_ranges (act.Arc ccw cx cy yaw) h = (h.1.0, h.1.1.0, h.1.1.1.0)
act_in_ranges (act.Eased how ccw cx cy yaw) h = (h.1.0, h.1.1.0, h.1.1.1.0)
act_in_ranges (act.Curve (x1 ∷ y1 ∷ z1 ∷ []) (x2 ∷ y2 ∷ z2 ∷ []) to) h =
    ((h.0, h.1.0, h.1.1.0), (h.1.1.1.0, h.1.1.1.1.0, h.1.1.1.1.1.0), point_fits to h.1.1.1.1.1.1)
act_in_ranges (act.Curve p1 p2 to) h = absurd h

are_names : (ns : List Name) → AllFit [] (map Named ns) → AreNames ns
are_names [] h = tt
are_names (n ∷ ns) h = (h.0, are_names ns h.1)

-- this many names may stand after the last place
few_names : (least n count : ℕ) → count ≡ least + n → IsTrue (nat_le (least + 1) count && nat_le count (least + 32)) → (1 ≤ n) × (n ≤ 32)
few_names least n count is h =
    let p = and_parts (nat_le (least + 1) count) (nat_le count (least + 32)) h in
    let more = leb-true (least + 1) count p.0 in
    let less = leb-true count (least + 32) p.1 in
    (omega (arith, is, more), omega (arith, is, less))

figure_fits : (name : Name) (roles : List Name) → FitsLine (entry.Figure name roles) → FitsFigure name roles
figure_fits name roles h =
    let few = few_names 1 (length roles) (length (fields_of (entry.Figure name roles))) (omega (arith, length-map roles Named)) h.0 in
    (h.1.0, (few.0, few.1, are_names roles h.1.1))

perform_fits : (figure : Name) (frame : Frame) (ds : List Name) → FitsLine (entry.Perform figure frame ds) → FitsPerform figure frame ds
perform_fits figure frame ds h =
    let few = few_names 6 (length ds) (length (fields_of (entry.Perform figure frame ds))) (omega (arith, length-map ds Named)) h.0 in (
      h.1.0,
      (omega (arith, ints, h.1.1.1.0.1), h.1.1.1.1.0, h.1.1.1.1.1.0, h.1.1.1.1.1.1.0),
      (few.0, few.1, are_names ds h.1.1.1.1.1.1.1),
    )

abbrev FitsEntry : Entry → Type 0
FitsEntry (entry.One name a) = IsName name × FitsAct a
FitsEntry e = FitsLine e

act_fits : (form : Form) (ws : List Word) (a : Act) → SaysAct form ws a → FitsAct a
act_fits form [] a h = absurd h
act_fits form (w ∷ ws) a h = act_in_ranges a (held_fit form (act_places (act_fields a).0) ws (act_fields a).1 h.1)

says_fits : (form : Form) (ws : List Word) (e : Entry) → Says form ws e → FitsEntry e
says_fits form [] e h = absurd h
says_fits form (w ∷ ws) (entry.One name a) h = (holds_fits form want.Name w (Named name) h.0, act_fits form ws a h.1)
says_fits form (w ∷ ws) e h =
    let row = row_of (keyword_in e) in
    (subst (λ n. IsTrue (has_count row n)) (held_length form row.places ws (fields_of e) h.2) h.1, held_fit form row.places ws (fields_of e) h.2)

-- The lines of a text, one by one.

abbrev LinesFit : List SaidLine → Type 0
LinesFit [] = Unit {0}
LinesFit (s ∷ ss) = FitsEntry s.entry × LinesFit ss

said_fit : (form : Form) (ls : List Line) (xs : List SaidLine) → AreSaid form ls xs → LinesFit xs
said_fit form [] [] h = tt
said_fit form [] (x ∷ xs) h = absurd h
said_fit form (l ∷ ls) [] h = absurd h
said_fit form (l ∷ ls) (x ∷ xs) h = (says_fits form l.words x.entry h.0.says, said_fit form ls xs h.1)

front_fits : (xs ys : List SaidLine) → LinesFit (xs ++ ys) → LinesFit xs
front_fits [] ys h = tt
front_fits (x ∷ xs) ys h = (h.0, front_fits xs ys h.1)

back_fits : (xs ys : List SaidLine) → LinesFit (xs ++ ys) → LinesFit ys
back_fits [] ys h = h
back_fits (x ∷ xs) ys h = back_fits xs ys h.1

acts_fit : (acts : List ActLine) → LinesFit (map act_said acts) → FitActLines acts
acts_fit [] h = tt
acts_fit (on.One line name a ∷ acts) h = (h.0, acts_fit acts h.1)
acts_fit (on.Form line formation smooth ∷ acts) h = (h.0.1.0, acts_fit acts h.1)

places_fit : (ps : List DroneLine) → LinesFit (map place_said ps) → FitDroneLines ps
places_fit [] h = tt
places_fit (p ∷ ps) h = (h.0.1.0, point_fits p.at h.0.1.1, places_fit ps h.1)

body_fits : (b : Body) → LinesFit (body_said b) → FitsBody b
body_fits plain.Done h = tt
body_fits (plain.Cue line ms acts rest) h =
    ((omega (arith, ints, h.0.1.0.0), omega (arith, ints, h.0.1.0.1)), acts_fit acts (front_fits (map act_said acts) (closing ∷ body_said rest) h.1), body_fits rest (back_fits (map act_said acts) (closing ∷ body_said rest) h.1).1)
body_fits (plain.Repeat line times inside rest) h =
    ((omega (arith, ints, h.0.1.0.0), omega (arith, ints, h.0.1.0.1)), body_fits inside (front_fits (body_said inside) (closing ∷ body_said rest) h.1), body_fits rest (back_fits (body_said inside) (closing ∷ body_said rest) h.1).1)
body_fits (plain.Perform line figure frame ds rest) h = (perform_fits figure frame ds h.0, body_fits rest h.1)

then_fits : (a b : Body) → FitsBody a → FitsBody b → FitsBody (a ⨾ b)
then_fits plain.Done b h k = k
then_fits (plain.Cue line ms acts rest) b h k = (h.0, h.1, then_fits rest b h.2 k)
then_fits (plain.Repeat line times inside rest) b h k = (h.0, h.1, then_fits rest b h.2 k)
then_fits (plain.Perform line figure frame ds rest) b h k = (h.0, then_fits rest b h.1 k)

-- Item by item.

drones_fit : (is : List Item) → LinesFit (items_said is) → FitDroneLines (drones is)
drones_fit [] h = tt
drones_fit (Drone d ∷ is) h = (h.0.1.0, point_fits d.at h.0.1.1, drones_fit is h.1)
drones_fit (i ∷ is) h = drones_fit is (back_fits (item_said i) (items_said is) h)

formations_fit : (is : List Item) → AreItems is → LinesFit (items_said is) → FitFormations (formations is)
formations_fit [] k h = tt
formations_fit (Formed f ∷ is) k h =
    (h.0.1.0, k.0, places_fit f.places (front_fits (map place_said f.places) (closing ∷ []) (front_fits (item_said (Formed f)) (items_said is) h).1), formations_fit is k.1 (back_fits (item_said (Formed f)) (items_said is) h))
formations_fit (i ∷ is) k h = formations_fit is k.1 (back_fits (item_said i) (items_said is) h)

figures_fit : (is : List Item) → AreItems is → LinesFit (items_said is) → FitFigures (figures is)
figures_fit [] k h = tt
figures_fit (Figured f ∷ is) k h = (
  figure_fits f.name f.roles h.0,
  k.0.0,
  k.0.2,
  k.0.3,
  k.0.1,
  body_fits f.body (front_fits (body_said f.body) (closing ∷ []) (front_fits (item_said (Figured f)) (items_said is) h).1),
  figures_fit is k.1 (back_fits (item_said (Figured f)) (items_said is) h),
)
figures_fit (i ∷ is) k h = figures_fit is k.1 (back_fits (item_said i) (items_said is) h)

show_body_fits : (is : List Item) → LinesFit (items_said is) → FitsBody (body is)
show_body_fits [] h = tt
show_body_fits (Blocks b ∷ is) h = then_fits b (body is) (body_fits b (front_fits (body_said b) (items_said is) h)) (show_body_fits is (back_fits (body_said b) (items_said is) h))
show_body_fits (i ∷ is) h = show_body_fits is (back_fits (item_said i) (items_said is) h)

body_filled : (is : List Item) → AreItems is → is_filled (body is) ≡ true
body_filled [] k = refl
body_filled (Blocks b ∷ is) k = filled_then b (body is) k.0.0 (body_filled is k.1)
body_filled (i ∷ is) k = body_filled is k.1

body_nested : (is : List Item) → AreItems is → 0 + depth (body is) ≤ 8
body_nested [] k = omega arith
body_nested (Blocks b ∷ is) k = depth_then b (body is) 0 (omega (arith, k.0.1)) (body_nested is k.1)
body_nested (i ∷ is) k = body_nested is k.1

settings_fit : (is : List Item) → LinesFit (items_said is) → FitsSettings (show_of (parts_of is)).settings
settings_fit [] h = omega arith
settings_fit (Memory id offset ∷ is) h = omega (arith, ints, settings_fit is h.1)
settings_fit (i ∷ is) h = omega (arith, ints, settings_fit is (back_fits (item_said i) (items_said is) h))

-- The numbers of the lines.

abbrev number_then : Option ℕ → List ℕ → List ℕ
number_then None ns = ns
number_then (Some n) ns = n ∷ ns

-- the numbers that lines of the grammar keep
abbrev numbers : List SaidLine → List ℕ
numbers [] = []
numbers (s ∷ ss) = number_then s.number (numbers ss)

abbrev line_numbers : List Line → List ℕ
line_numbers [] = []
line_numbers (l ∷ ls) = l.number ∷ line_numbers ls

lower : (n m : ℕ) (ns : List ℕ) → n ≤ m → AllAbove m ns → AllAbove n ns
lower n m [] h a = tt
lower n m (k ∷ ns) h a = (omega (arith, a.0), a.1)

with_rise : (ws : List Word) (n k : ℕ) (later : List Line) → k < n → AllAbove n (line_numbers later) → AllAbove k (line_numbers (line_with n ws later))
with_rise [] n k later h a = lower k n (line_numbers later) (omega arith) a
with_rise (w ∷ ws) n k later h a = (h, a)

numbered_rise : (ls : List (List ℕ)) (n k : ℕ) → k < n → AllAbove k (line_numbers (numbered FromHash n ls))
numbered_rise [] n k h = tt
numbered_rise (l ∷ ls) n k h = with_rise (words_of (visible FromHash l)) n k (numbered FromHash (n + 1) ls) h (numbered_rise ls (n + 1) n (omega arith))

number_rise : (o : Option ℕ) (k n : ℕ) (ns : List ℕ) → IfSome o (λ m. m ≡ k) → n < k → AllAbove k ns → AllAbove n (number_then o ns)
number_rise None k n ns h l a = lower n k ns (omega arith) a
number_rise (Some m) k n ns h l a = (omega arith, subst (λ j. AllAbove j ns) (sym h) a)

said_rise : (form : Form) (ls : List Line) (xs : List SaidLine) (n : ℕ) → AreSaid form ls xs → AllAbove n (line_numbers ls) → AllAbove n (numbers xs)
said_rise form [] [] n h a = tt
said_rise form [] (x ∷ xs) n h a = absurd h
said_rise form (l ∷ ls) [] n h a = absurd h
said_rise form (l ∷ ls) (x ∷ xs) n h a = number_rise x.number l.number n (numbers xs) h.0.number a.0 (said_rise form ls xs l.number h.1 a.1)

number_then-append : (o : Option ℕ) (xs ys : List ℕ) → number_then o (xs ++ ys) ≡ number_then o xs ++ ys
number_then-append None xs ys = refl
number_then-append (Some n) xs ys = refl

numbers-append : (xs ys : List SaidLine) → numbers (xs ++ ys) ≡ numbers xs ++ numbers ys
numbers-append [] ys = refl
numbers-append (x ∷ xs) ys = ap (number_then x.number) (numbers-append xs ys) ∙ number_then-append x.number (numbers xs) (numbers ys)

above_back : (n : ℕ) (xs ys : List ℕ) → AllAbove n (xs ++ ys) → AllAbove n ys
above_back n [] ys a = a
above_back n (x ∷ xs) ys a = lower n x ys (omega (arith, a.0)) (above_back x xs ys a.1)

-- other numbers after the same ones
above_keep : (n : ℕ) (xs ys zs : List ℕ) → ((m : ℕ) → AllAbove m ys → AllAbove m zs) → AllAbove n (xs ++ ys) → AllAbove n (xs ++ zs)
above_keep n [] ys zs f a = f n a
above_keep n (x ∷ xs) ys zs f a = (a.0, above_keep x xs ys zs f a.1)

-- what stands after an item
items_above : (n : ℕ) (i : Item) (is : List Item) → AllAbove n (numbers (items_said (i ∷ is))) → AllAbove n (numbers (item_said i) ++ numbers (items_said is))
items_above n i is a = subst (AllAbove n) (numbers-append (item_said i) (items_said is)) a

later_above : (n : ℕ) (i : Item) (is : List Item) → AllAbove n (numbers (items_said (i ∷ is))) → AllAbove n (numbers (items_said is))
later_above n i is a = above_back n (numbers (item_said i)) (numbers (items_said is)) (items_above n i is a)

acts_numbers : (acts : List ActLine) → numbers (map act_said acts) ≡ act_lines acts
acts_numbers [] = refl
acts_numbers (on.One line name a ∷ acts) = ap (λ ns. line ∷ ns) (acts_numbers acts)
acts_numbers (on.Form line formation smooth ∷ acts) = ap (λ ns. line ∷ ns) (acts_numbers acts)

places_numbers : (ps : List DroneLine) → numbers (map place_said ps) ≡ drone_lines ps
places_numbers [] = refl
places_numbers (p ∷ ps) = ap (λ ns. p.line ∷ ns) (places_numbers ps)

body_numbers : (b : Body) → numbers (body_said b) ≡ body_lines b
body_numbers plain.Done = refl
body_numbers (plain.Cue line ms acts rest) =
    ap (λ ns. line ∷ ns) (numbers-append (map act_said acts) (closing ∷ body_said rest) ∙ ap (λ ns. ns ++ numbers (body_said rest)) (acts_numbers acts) ∙ ap (λ ns. act_lines acts ++ ns) (body_numbers rest))
body_numbers (plain.Repeat line times inside rest) =
    ap (λ ns. line ∷ ns) (numbers-append (body_said inside) (closing ∷ body_said rest) ∙ ap (λ ns. ns ++ numbers (body_said rest)) (body_numbers inside) ∙ ap (λ ns. body_lines inside ++ ns) (body_numbers rest))
body_numbers (plain.Perform line figure frame ds rest) = ap (λ ns. line ∷ ns) (body_numbers rest)

body_lines-then : (a b : Body) → body_lines (a ⨾ b) ≡ body_lines a ++ body_lines b
body_lines-then plain.Done b = refl
body_lines-then (plain.Cue line ms acts rest) b = ap (λ ns. line ∷ (act_lines acts ++ ns)) (body_lines-then rest b) ∙ ap (λ ns. line ∷ ns) (sym (append_assoc (act_lines acts) (body_lines rest) (body_lines b)))
body_lines-then (plain.Repeat line times inside rest) b = ap (λ ns. line ∷ (body_lines inside ++ ns)) (body_lines-then rest b) ∙ ap (λ ns. line ∷ ns) (sym (append_assoc (body_lines inside) (body_lines rest) (body_lines b)))
body_lines-then (plain.Perform line figure frame ds rest) b = ap (λ ns. line ∷ ns) (body_lines-then rest b)

drones_rise : (is : List Item) (n : ℕ) → AllAbove n (numbers (items_said is)) → AllAbove n (drone_lines (drones is))
drones_rise [] n a = tt
drones_rise (Drone d ∷ is) n a = (a.0, drones_rise is d.line a.1)
drones_rise (i ∷ is) n a = drones_rise is n (later_above n i is a)

formation_numbers : (f : Formation) → numbers (item_said (Formed f)) ≡ f.line ∷ drone_lines f.places
formation_numbers f = ap (λ ns. f.line ∷ ns) (numbers-append (map place_said f.places) (closing ∷ []) ∙ append-nil (numbers (map place_said f.places)) ∙ places_numbers f.places)

formations_rise : (is : List Item) (n : ℕ) → AllAbove n (numbers (items_said is)) → AllAbove n (formation_lines (formations is))
formations_rise [] n a = tt
formations_rise (Formed f ∷ is) n a =
    above_keep n (f.line ∷ drone_lines f.places) (numbers (items_said is)) (formation_lines (formations is)) (λ m b. formations_rise is m b)
    (subst (λ ns. AllAbove n (ns ++ numbers (items_said is))) (formation_numbers f) (items_above n (Formed f) is a))
formations_rise (i ∷ is) n a = formations_rise is n (later_above n i is a)

figure_numbers : (f : PlainFigure) → numbers (item_said (Figured f)) ≡ f.line ∷ body_lines f.body
figure_numbers f = ap (λ ns. f.line ∷ ns) (numbers-append (body_said f.body) (closing ∷ []) ∙ append-nil (numbers (body_said f.body)) ∙ body_numbers f.body)

figures_rise : (is : List Item) (n : ℕ) → AllAbove n (numbers (items_said is)) → AllAbove n (figure_lines (figures is))
figures_rise [] n a = tt
figures_rise (Figured f ∷ is) n a =
    above_keep n (f.line ∷ body_lines f.body) (numbers (items_said is)) (figure_lines (figures is)) (λ m b. figures_rise is m b)
    (subst (λ ns. AllAbove n (ns ++ numbers (items_said is))) (figure_numbers f) (items_above n (Figured f) is a))
figures_rise (i ∷ is) n a = figures_rise is n (later_above n i is a)

body_rises : (is : List Item) (n : ℕ) → AllAbove n (numbers (items_said is)) → AllAbove n (body_lines (body is))
body_rises [] n a = tt
body_rises (Blocks b ∷ is) n a =
    subst (AllAbove n) (sym (body_lines-then b (body is)))
    (above_keep n (body_lines b) (numbers (items_said is)) (body_lines (body is)) (λ m c. body_rises is m c)
    (subst (λ ns. AllAbove n (ns ++ numbers (items_said is))) (body_numbers b) (items_above n (Blocks b) is a)))
body_rises (i ∷ is) n a = body_rises is n (later_above n i is a)

-- ---- no line number stands twice

times-append : (n : ℕ) (xs ys : List ℕ) → times n (xs ++ ys) ≡ times n xs + times n ys
times-append n [] ys = omega arith
times-append n (x ∷ xs) ys = omega (arith, times-append n xs ys)

-- a number below all others stands nowhere among them
times-below : (n k : ℕ) (ns : List ℕ) → n ≤ k → AllAbove k ns → times n ns ≡ 0
times-below n k [] h a = refl
times-below n k (m ∷ ns) h a =
    let other : (n == m) ≡ false = ne_eqb n m (omega (arith, a.0)) in
    let here : times n (m ∷ ns) ≡ 0 + times n ns = ap (λ b. (cond b 1 0) + times n ns) other in
    omega (arith, here, times-below n m ns (omega (arith, a.0)) a.1)

times-once_by : (b : Bool) (n m : ℕ) (ns : List ℕ) → (n == m) ≡ b → AllAbove m ns → times n ns ≤ 1 → times n (m ∷ ns) ≤ 1
times-once_by true n m ns e a h = grind (arith, common_steps, times-below, eqb-true, cond)
times-once_by false n m ns e a h =
    let here : times n (m ∷ ns) ≡ 0 + times n ns = ap (λ b. (cond b 1 0) + times n ns) e in
    omega arith

-- in a list that rises no number stands twice
times-once : (n k : ℕ) (ns : List ℕ) → AllAbove k ns → times n ns ≤ 1
times-once n k [] a = omega arith
times-once n k (m ∷ ns) a = times-once_by (n == m) n m ns refl a.1 (times-once n m ns a.1)

-- how often a number stands in the lists of a show
abbrev times_in : ℕ → List Item → ℕ
times_in n is = times n (drone_lines (drones is)) + times n (formation_lines (formations is)) + times n (figure_lines (figures is)) + times n (body_lines (body is))

-- each line of the items stands in one list of the show
times_shared : (n : ℕ) (is : List Item) → times_in n is ≡ times n (numbers (items_said is))
times_shared n [] = refl
times_shared n (Memory id offset ∷ is) = times_shared n is
times_shared n (Trajectory id ∷ is) = times_shared n is
times_shared n (Ellipsoid r h ∷ is) = times_shared n is
times_shared n (Stray mm ∷ is) = times_shared n is
times_shared n (Late ms ∷ is) = times_shared n is
times_shared n (Drone d ∷ is) = omega (arith, times_shared n is)
times_shared n (Formed f ∷ is) =
    let front : times n (formation_lines (formations (Formed f ∷ is))) ≡ times n (f.line ∷ drone_lines f.places) + times n (formation_lines (formations is)) = times-append n (f.line ∷ drone_lines f.places) (formation_lines (formations is)) in
    let whole : times n (numbers (items_said (Formed f ∷ is))) ≡ times n (f.line ∷ drone_lines f.places) + times n (numbers (items_said is)) =
    ap (times n) (numbers-append (item_said (Formed f)) (items_said is)) ∙ times-append n (numbers (item_said (Formed f))) (numbers (items_said is)) ∙ ap (λ ns. times n ns + times n (numbers (items_said is))) (formation_numbers f) in
    omega (arith, times_shared n is, front, whole)
times_shared n (Figured f ∷ is) =
    let front : times n (figure_lines (figures (Figured f ∷ is))) ≡ times n (f.line ∷ body_lines f.body) + times n (figure_lines (figures is)) = times-append n (f.line ∷ body_lines f.body) (figure_lines (figures is)) in
    let whole : times n (numbers (items_said (Figured f ∷ is))) ≡ times n (f.line ∷ body_lines f.body) + times n (numbers (items_said is)) =
    ap (times n) (numbers-append (item_said (Figured f)) (items_said is)) ∙ times-append n (numbers (item_said (Figured f))) (numbers (items_said is)) ∙ ap (λ ns. times n ns + times n (numbers (items_said is))) (figure_numbers f) in
    omega (arith, times_shared n is, front, whole)
times_shared n (Blocks b ∷ is) =
    let front : times n (body_lines (body (Blocks b ∷ is))) ≡ times n (body_lines b) + times n (body_lines (body is)) = ap (times n) (body_lines-then b (body is)) ∙ times-append n (body_lines b) (body_lines (body is)) in
    let whole : times n (numbers (items_said (Blocks b ∷ is))) ≡ times n (body_lines b) + times n (numbers (items_said is)) =
    ap (times n) (numbers-append (body_said b) (items_said is)) ∙ times-append n (numbers (body_said b)) (numbers (items_said is)) ∙ ap (λ ns. times n ns + times n (numbers (items_said is))) (body_numbers b) in
    omega (arith, times_shared n is, front, whole)

-- the numbers of all lines, list by list
times_whole : (n : ℕ) (is : List Item) → times n (all_lines (show_of (parts_of is))) ≡ times_in n is
times_whole n is = grind (arith, common_steps, times-append, drones, formations, figures, body)

-- the show of a text
show_valid : (is : List Item) → AreItems is → LinesFit (items_said is) → AllAbove 0 (numbers (items_said is)) → IsValid (show_of (parts_of is))
show_valid is k h a =
    record {
      settings = settings_fit is h;
      drones = drones_fit is h;
      formations = formations_fit is k h;
      figures = figures_fit is k h;
      body = show_body_fits is h;
      filled = body_filled is k;
      nested = omega (arith, body_nested is k);
      drone_lines = drones_rise is 0 a;
      formation_lines = formations_rise is 0 a;
      figure_lines = figures_rise is 0 a;
      body_lines = body_rises is 0 a;
      distinct = λ n. omega (arith, times_whole n is, times_shared n is, times-once n 0 (numbers (items_said is)) a);
    }

pub valid : (text : List ℕ) (show : PlainShow) → StandsFor text show → IsValid show
valid text show t =
    let rises : AllAbove 0 (line_numbers (t.header ∷ t.lines)) = subst (λ ls. AllAbove 0 (line_numbers ls)) t.cut (numbered_rise (lines_of text) 1 0 (omega arith)) in
    let later = said_rise t.form t.lines (items_said t.items) 0 t.said (lower 0 t.header.number (line_numbers t.lines) (omega arith) rises.1) in
    subst IsValid t.makes (show_valid t.items (recursion_from_All IsItem t.items t.each) (said_fit t.form t.lines (items_said t.items) t.said) later)
