-- Every show's texts are read as that show.
use Rattle.choreo_reader.proofs.Prelude.{common_steps, ◌≡◌, ℕ, ◌+◌, ◌≤◌, Bool, true, false, List, [], ◌∷◌, ◌++◌, length, map, Option, Some, None, Ok, refl, sym, ap, ◌∙◌, arith, cond, append_assoc, recursion_from_All, not, is_some, codes, append-nil, Line, Name, Body, PlainFigure, PlainShow, has_block, ◌⨾◌, body_said, Item, Memory, Trajectory, Ellipsoid, Stray, Late, Drone, Formed, Figured, Blocks, item_said, show_of, IsItem, HasSingleSettings, StandsFor, parts_of, fault_if, end_fault, InFormation, InFigure, Built, nothing, built_show, is_any, lines_step, finish, finish_with, openings_of, reading, DroneLine, Form, form_of, header_of}
use Rattle.choreo_show.specs.Plain as plain
use Rattle.choreo_reader.proofs.Items.{closing, place_said, items_said, AreItems, AreSaid, add_item, Fresh, parts_in, show_in, item_in, with_last, parts_of-more}
use Rattle.choreo_reader.proofs.Allowed.{clean_none}
use Rattle.choreo_reader.proofs.Complete.{Reads, reads_none, reads_then, reads_to, reads_list, split, first_said, numbered_step, said_anywhere, with_open, enclosed, block_lines, body_reads}
use Rattle.choreo_lines.specs.declared.line.Entry.TheVariants as entry
use Rattle.choreo_lines.specs.declared.line.LineKind.TheVariants as kind
use Rattle.choreo_lines.specs.declared.table.Form.TheVariants.{Whole, Units}

-- items, one after the other
abbrev pub add_items : Built → List Item → Built
add_items s [] = with_open s []
add_items s (i ∷ is) = add_items (add_item s i) is

abbrev pub count : {A : Type 0} → Option A → ℕ
count None = 0
count (Some x) = 1

-- each setting stands once at most, counting those that stood before
pub record Single (s : Built) (is : List Item) : Type 0 where
  pub memory : count s.memory + length (parts_of is).memories ≤ 1
  pub trajectory : count s.trajectory + length (parts_of is).trajectories ≤ 1
  pub ellipsoid : count s.ellipsoid + length (parts_of is).ellipsoids ≤ 1
  pub stray : count s.stray + length (parts_of is).strays ≤ 1
  pub late : count s.late + length (parts_of is).lates ≤ 1

unset : {A : Type 0} (o : Option A) → count o ≡ 0 → fault_if (is_some o) kind.DoubleSetting ≡ None
unset None h = refl
unset (Some x) h = cc

some_places : (places : List DroneLine) → 1 ≤ length places → fault_if (not (is_any places)) kind.EmptyBlock ≡ None
some_places [] h = absurd (omega arith)
some_places (d ∷ places) h = refl

some_blocks : (b : Bool) → b ≡ true → fault_if (not b) kind.EmptyBlock ≡ None
some_blocks true h = refl
some_blocks false h = cc

single_later : (i : Item) (s : Built) (is : List Item) → Single s (i ∷ is) → Single (add_item s i) is
single_later (Memory id offset) s is n = record { memory = omega (arith, n.memory); trajectory = omega (arith, n.trajectory); ellipsoid = omega (arith, n.ellipsoid); stray = omega (arith, n.stray); late = omega (arith, n.late) }
single_later (Trajectory id) s is n = record { memory = omega (arith, n.memory); trajectory = omega (arith, n.trajectory); ellipsoid = omega (arith, n.ellipsoid); stray = omega (arith, n.stray); late = omega (arith, n.late) }
single_later (Ellipsoid r h) s is n = record { memory = omega (arith, n.memory); trajectory = omega (arith, n.trajectory); ellipsoid = omega (arith, n.ellipsoid); stray = omega (arith, n.stray); late = omega (arith, n.late) }
single_later (Stray mm) s is n = record { memory = omega (arith, n.memory); trajectory = omega (arith, n.trajectory); ellipsoid = omega (arith, n.ellipsoid); stray = omega (arith, n.stray); late = omega (arith, n.late) }
single_later (Late ms) s is n = record { memory = omega (arith, n.memory); trajectory = omega (arith, n.trajectory); ellipsoid = omega (arith, n.ellipsoid); stray = omega (arith, n.stray); late = omega (arith, n.late) }
single_later (Drone d) s is n = record { memory = omega (arith, n.memory); trajectory = omega (arith, n.trajectory); ellipsoid = omega (arith, n.ellipsoid); stray = omega (arith, n.stray); late = omega (arith, n.late) }
single_later (Formed f) s is n = record { memory = omega (arith, n.memory); trajectory = omega (arith, n.trajectory); ellipsoid = omega (arith, n.ellipsoid); stray = omega (arith, n.stray); late = omega (arith, n.late) }
single_later (Figured f) s is n = record { memory = omega (arith, n.memory); trajectory = omega (arith, n.trajectory); ellipsoid = omega (arith, n.ellipsoid); stray = omega (arith, n.stray); late = omega (arith, n.late) }
single_later (Blocks b) s is n = record { memory = omega (arith, n.memory); trajectory = omega (arith, n.trajectory); ellipsoid = omega (arith, n.ellipsoid); stray = omega (arith, n.stray); late = omega (arith, n.late) }

item_open : (s : Built) (i : Item) → add_item s i ≡ with_open (add_item s i) []
item_open s (Memory id offset) = refl
item_open s (Trajectory id) = refl
item_open s (Ellipsoid r h) = refl
item_open s (Stray mm) = refl
item_open s (Late ms) = refl
item_open s (Drone d) = refl
item_open s (Formed f) = refl
item_open s (Figured f) = refl
item_open s (Blocks b) = refl

unset_is : {A : Type 0} (o : Option A) → count o ≡ 0 → o ≡ None
unset_is None h = refl
unset_is (Some x) h = cc

single_fresh : (i : Item) (s : Built) (is : List Item) → Single s (i ∷ is) → Fresh s i
single_fresh (Memory id offset) s is n = unset_is s.memory (omega (arith, n.memory))
single_fresh (Trajectory id) s is n = unset_is s.trajectory (omega (arith, n.trajectory))
single_fresh (Ellipsoid r h) s is n = unset_is s.ellipsoid (omega (arith, n.ellipsoid))
single_fresh (Stray mm) s is n = unset_is s.stray (omega (arith, n.stray))
single_fresh (Late ms) s is n = unset_is s.late (omega (arith, n.late))
single_fresh i s is n = tt

-- what is read after some items is what all the items are
items_in : (is done : List Item) (s : Built) → Single s is → parts_in s ≡ parts_of done → parts_in (add_items s is) ≡ parts_of (done ++ is)
items_in [] done s n h = h ∙ ap parts_of (sym (append-nil done))
items_in (i ∷ is) done s n h =
    items_in is (done ++ i ∷ []) (add_item s i) (single_later i s is n)
    (sym (item_in i s (single_fresh i s is n)) ∙ ap (λ p. with_last p i) h ∙ sym (parts_of-more done i))
    ∙ ap parts_of (append_assoc done (i ∷ []) is)

-- the show of the items
pub items_show : (is : List Item) → Single nothing is → built_show (add_items nothing is) ≡ show_of (parts_of is)
items_show is n = sym (show_in (add_items nothing is)) ∙ ap show_of (items_in is [] nothing n refl)

items_closed : (is : List Item) (s : Built) → (add_items s is).open_blocks ≡ []
items_closed [] s = refl
items_closed (Memory id offset ∷ is) s = items_closed is (add_item s (Memory id offset))
items_closed (Trajectory id ∷ is) s = items_closed is (add_item s (Trajectory id))
items_closed (Ellipsoid r h ∷ is) s = items_closed is (add_item s (Ellipsoid r h))
items_closed (Stray mm ∷ is) s = items_closed is (add_item s (Stray mm))
items_closed (Late ms ∷ is) s = items_closed is (add_item s (Late ms))
items_closed (Drone d ∷ is) s = items_closed is (add_item s (Drone d))
items_closed (Formed f ∷ is) s = items_closed is (add_item s (Formed f))
items_closed (Figured f ∷ is) s = items_closed is (add_item s (Figured f))
items_closed (Blocks b ∷ is) s = items_closed is (add_item s (Blocks b))

-- the words of a header name its form
form_said : (form : Form) → form_of (header_of form) ≡ Some form
form_said Whole = refl
form_said Units = refl

header_is : (form : Form) (l : Line) → l.words ≡ header_of form → form_of l.words ≡ Some form
header_is form l h = ap form_of h ∙ form_said form

single_first : (is : List Item) → HasSingleSettings (parts_of is) → Single nothing is
single_first is h = record { memory = omega (arith, h.memory); trajectory = omega (arith, h.trajectory); ellipsoid = omega (arith, h.ellipsoid); stray = omega (arith, h.stray); late = omega (arith, h.late) }

finished : (is : List Item) → finish (Ok (add_items nothing is)) ≡ Ok (built_show (add_items nothing is))
finished is = ap (λ os. finish_with (add_items nothing is) (end_fault (openings_of os))) (items_closed is nothing)

-- The lines of a text in one form.
module _ (form : Form) where
  -- the lines `at` of a formation
  places_read : (places done : List DroneLine) (s : Built) (line : ℕ) (name : Name) (ls : List Line) → AreSaid form ls (map place_said places) → Reads form (with_open s (InFormation line name done ∷ [])) ls (with_open s (InFormation line name (done ++ places) ∷ []))
  places_read [] done s line name [] h = reads_to form _ _ _ [] (ap (λ xs. with_open s (InFormation line name xs ∷ [])) (sym (append-nil done))) (reads_none form _)
  places_read [] done s line name (l ∷ ls) h = absurd h
  places_read (d ∷ places) done s line name [] h = absurd h
  places_read (d ∷ places) done s line name (l ∷ ls) h =
      let one = numbered_step form (with_open s (InFormation line name done ∷ [])) l d.line (entry.At d.name d.at) h.0 refl refl in
      let others = places_read places (done ++ d ∷ []) s line name ls h.1 in
      reads_to form _ _ _ (l ∷ ls) (ap (λ xs. with_open s (InFormation line name xs ∷ [])) (append_assoc done (d ∷ []) places)) (reads_then form _ _ _ (l ∷ []) ls one others)

  -- the lines of a block that is the last
  last_lines : (s t : Built) (l e : Line) (ls inner back later : List Line) → ls ≡ inner ++ back → back ≡ e ∷ later → AreSaid form later [] → Reads form s (l ∷ (inner ++ e ∷ [])) t → Reads form s (l ∷ ls) t
  last_lines s t l e ls inner back [] p q h r =
      reads_list form s t _ _ (sym (append-nil (l ∷ (inner ++ e ∷ []))) ∙ block_lines l e ls inner back [] p q) r
  last_lines s t l e ls inner back (m ∷ later) p q h r = absurd h

  no_lines : (i : Item) (s : Built) (is : List Item) → IsItem i → Single s (i ∷ is) → AreSaid form [] (item_said i) → Reads form (with_open s []) [] (add_item s i)
  no_lines (Memory id offset) s is k n h = absurd h
  no_lines (Trajectory id) s is k n h = absurd h
  no_lines (Ellipsoid r x) s is k n h = absurd h
  no_lines (Stray mm) s is k n h = absurd h
  no_lines (Late ms) s is k n h = absurd h
  no_lines (Drone d) s is k n h = absurd h
  no_lines (Formed f) s is k n h = absurd h
  no_lines (Figured f) s is k n h = absurd h
  no_lines (Blocks b) s is k n h = body_reads form b s [] [] (record { takes = tt; filled = k.0; nested = omega (arith, k.1); figure = λ q. cc }) h

  item_reads : (i : Item) (s : Built) (is : List Item) (ls : List Line) → IsItem i → Single s (i ∷ is) → AreSaid form ls (item_said i) → Reads form (with_open s []) ls (add_item s i)
  item_reads i s is [] k n h = no_lines i s is k n h
  item_reads (Memory id offset) s is (l ∷ []) k n h =
      said_anywhere form (with_open s []) l (entry.Memory id offset) h.0 refl (unset s.memory (omega (arith, n.memory))) (add_item s (Memory id offset)) (λ m. refl)
  item_reads (Trajectory id) s is (l ∷ []) k n h =
      said_anywhere form (with_open s []) l (entry.Trajectory id) h.0 refl (unset s.trajectory (omega (arith, n.trajectory))) (add_item s (Trajectory id)) (λ m. refl)
  item_reads (Ellipsoid r x) s is (l ∷ []) k n h =
      said_anywhere form (with_open s []) l (entry.Ellipsoid r x) h.0 refl (unset s.ellipsoid (omega (arith, n.ellipsoid))) (add_item s (Ellipsoid r x)) (λ m. refl)
  item_reads (Stray mm) s is (l ∷ []) k n h =
      said_anywhere form (with_open s []) l (entry.Stray mm) h.0 refl (unset s.stray (omega (arith, n.stray))) (add_item s (Stray mm)) (λ m. refl)
  item_reads (Late ms) s is (l ∷ []) k n h =
      said_anywhere form (with_open s []) l (entry.Late ms) h.0 refl (unset s.late (omega (arith, n.late))) (add_item s (Late ms)) (λ m. refl)
  item_reads (Drone d) s is (l ∷ []) k n h = numbered_step form (with_open s []) l d.line (entry.Drone d.name d.at) h.0 refl refl
  item_reads (Memory id offset) s is (l ∷ m ∷ ls) k n h = absurd h.1
  item_reads (Trajectory id) s is (l ∷ m ∷ ls) k n h = absurd h.1
  item_reads (Ellipsoid r x) s is (l ∷ m ∷ ls) k n h = absurd h.1
  item_reads (Stray mm) s is (l ∷ m ∷ ls) k n h = absurd h.1
  item_reads (Late ms) s is (l ∷ m ∷ ls) k n h = absurd h.1
  item_reads (Drone d) s is (l ∷ m ∷ ls) k n h = absurd h.1
  item_reads (Formed f) s is (l ∷ ls) k n h =
      let parts = split form ls (map place_said f.places) (closing ∷ []) h.1 in
      let ends = first_said form parts.back closing [] parts.second in
      let one = numbered_step form (with_open s []) l f.line (entry.Formation f.name) h.0 refl refl in
      let inside = places_read f.places [] s f.line f.name parts.front parts.first in
      let block = enclosed form s (add_item s (Formed f)) [] (InFormation f.line f.name []) (InFormation f.line f.name f.places) l ends.line parts.front one inside ends.here refl (some_places f.places k) refl in
      last_lines _ _ l ends.line ls parts.front parts.back ends.others parts.is ends.is ends.later block
  item_reads (Figured f) s is (l ∷ ls) k n h =
      let parts = split form ls (body_said f.body) (closing ∷ []) h.1 in
      let ends = first_said form parts.back closing [] parts.second in
      let o = InFigure f.line f.name f.roles plain.Done in
      let one = numbered_step form (with_open s []) l f.line (entry.Figure f.name f.roles) h.0 refl refl in
      let inside = body_reads form f.body s (o ∷ []) parts.front (record { takes = tt; filled = k.2; nested = omega (arith, k.3); figure = λ q. k.1 }) parts.first in
      let block = enclosed form s (add_item s (Figured f)) [] o (InFigure f.line f.name f.roles f.body) l ends.line parts.front one inside ends.here refl (some_blocks (has_block f.body) k.0) refl in
      last_lines _ _ l ends.line ls parts.front parts.back ends.others parts.is ends.is ends.later block
  item_reads (Blocks b) s is (l ∷ ls) k n h = body_reads form b s [] (l ∷ ls) (record { takes = tt; filled = k.0; nested = omega (arith, k.1); figure = λ q. cc }) h

  items_read : (is : List Item) (s : Built) (ls : List Line) → AreItems is → Single s is → AreSaid form ls (items_said is) → Reads form (with_open s []) ls (add_items s is)
  items_read [] s [] k n h = reads_none form _
  items_read [] s (l ∷ ls) k n h = absurd h
  items_read (i ∷ is) s ls k n h =
      let parts = split form ls (item_said i) (items_said is) h in
      let one = item_reads i s is parts.front k.0 n parts.first in
      let others = items_read is (add_item s i) parts.back k.1 (single_later i s is n) parts.second in
      reads_list form _ _ _ _ (sym parts.is) (reads_then form _ _ _ parts.front parts.back (reads_to form _ _ _ parts.front (item_open s i) one) others)

  lines_read : (is : List Item) (lines : List Line) → AreItems is → Single nothing is → AreSaid form lines (items_said is) → lines_step form nothing lines ≡ Ok (add_items nothing is)
  lines_read is lines k n h = ap (lines_step form nothing) (sym (append-nil lines)) ∙ (items_read is nothing lines k n h).by []

-- what a text stands for is what is read
pub complete : (text : List ℕ) (show : PlainShow) → StandsFor text show → reading text ≡ Ok show
complete text show t = grind (arith, common_steps, single_first, clean_none, cond, header_is, lines_read, recursion_from_All, finished, items_show)
