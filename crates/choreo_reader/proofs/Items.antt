-- The items of a show, word by word for the proofs: the lines of all, and what is read of them.
use Rattle.choreo_reader.proofs.Prelude.{common_steps, ◌≡◌, ◌≤◌, List, [], ◌∷◌, ◌++◌, length, Option, Some, None, refl, sym, ap, ◌∙◌, arith, option_to_list, unwrap_or, slice_index_or, AllByRecursion, AllZip, flat_map, Line, Body, PlainFigure, ◌⨾◌, DroneLine, Formation, body_assoc, body_done, SaidLine, IsSaid, at, anywhere, Item, Memory, Trajectory, Ellipsoid, Stray, Late, Drone, Formed, Figured, Blocks, item_said, Parts, parts_of, show_of, IsItem, HasSingleSettings, Built, add_block, built_show, Form}
use Rattle.choreo_lines.specs.declared.line.Entry.TheVariants as entry

-- the line that closes a block
abbrev pub closing : SaidLine
closing = anywhere entry.End

-- the line of a place
abbrev pub place_said : DroneLine → SaidLine
place_said d = at d.line (entry.At d.name d.at)

-- the lines of items, one after the other
abbrev pub items_said : List Item → List SaidLine
items_said is = flat_map item_said is

-- these lines of a text in this form say this, one by one
abbrev pub AreSaid : Form → List Line → List SaidLine → Type 0
AreSaid form ls ss = AllZip (IsSaid form) ls ss

-- what each of these items keeps to
abbrev pub AreItems : List Item → Type 0
AreItems is = AllByRecursion IsItem is

-- The items of a kind.

abbrev pub drones : List Item → List DroneLine
drones is = (parts_of is).drones

abbrev pub formations : List Item → List Formation
formations is = (parts_of is).formations

abbrev pub figures : List Item → List PlainFigure
figures is = (parts_of is).figures

abbrev pub body : List Item → Body
body is = (parts_of is).body

-- one more item, as it is read
abbrev pub add_item : Built → Item → Built
add_item s (Memory id offset) = record s { memory = Some (id, offset); open_blocks = [] }
add_item s (Trajectory id) = record s { trajectory = Some id; open_blocks = [] }
add_item s (Ellipsoid r h) = record s { ellipsoid = Some (r, h); open_blocks = [] }
add_item s (Stray mm) = record s { stray = Some mm; open_blocks = [] }
add_item s (Late ms) = record s { late = Some ms; open_blocks = [] }
add_item s (Drone d) = record s { drones = s.drones ++ d ∷ []; open_blocks = [] }
add_item s (Formed f) = record s { formations = s.formations ++ f ∷ []; open_blocks = [] }
add_item s (Figured f) = record s { figures = s.figures ++ f ∷ []; open_blocks = [] }
add_item s (Blocks b) = add_block s [] b

-- no setting stands twice
abbrev pub Fresh : Built → Item → Type 0
Fresh s (Memory id offset) = s.memory ≡ None
Fresh s (Trajectory id) = s.trajectory ≡ None
Fresh s (Ellipsoid r h) = s.ellipsoid ≡ None
Fresh s (Stray mm) = s.stray ≡ None
Fresh s (Late ms) = s.late ≡ None
Fresh s i = Unit {0}

-- The parts of what was read.

abbrev pub parts_in : Built → Parts
parts_in s = record {
  memories = option_to_list s.memory;
  trajectories = option_to_list s.trajectory;
  ellipsoids = option_to_list s.ellipsoid;
  strays = option_to_list s.stray;
  lates = option_to_list s.late;
  drones = s.drones;
  formations = s.formations;
  figures = s.figures;
  body = s.body;
}

set_value : {A : Type 0} (d : A) (o : Option A) → slice_index_or (option_to_list o) 0 d ≡ unwrap_or o d
set_value d None = refl
set_value d (Some x) = refl

-- they make the show that was read
pub show_in : (s : Built) → show_of (parts_in s) ≡ built_show s
show_in s = grind (arith, common_steps, set_value)

few : {A : Type 0} (o : Option A) → length (option_to_list o) ≤ 1
few None = omega arith
few (Some x) = omega arith

-- and have each setting once at most
pub single_in : (s : Built) → HasSingleSettings (parts_in s)
single_in s = record { memory = few s.memory; trajectory = few s.trajectory; ellipsoid = few s.ellipsoid; stray = few s.stray; late = few s.late }

-- parts with one more item, behind the others and before them
abbrev pub with_last : Parts → Item → Parts
with_last p (Memory id offset) = record p { memories = p.memories ++ (id, offset) ∷ [] }
with_last p (Trajectory id) = record p { trajectories = p.trajectories ++ id ∷ [] }
with_last p (Ellipsoid r h) = record p { ellipsoids = p.ellipsoids ++ (r, h) ∷ [] }
with_last p (Stray mm) = record p { strays = p.strays ++ mm ∷ [] }
with_last p (Late ms) = record p { lates = p.lates ++ ms ∷ [] }
with_last p (Drone d) = record p { drones = p.drones ++ d ∷ [] }
with_last p (Formed f) = record p { formations = p.formations ++ f ∷ [] }
with_last p (Figured f) = record p { figures = p.figures ++ f ∷ [] }
with_last p (Blocks b) = record p { body = p.body ⨾ b }

abbrev pub with_first : Item → Parts → Parts
with_first (Memory id offset) p = record p { memories = (id, offset) ∷ p.memories }
with_first (Trajectory id) p = record p { trajectories = id ∷ p.trajectories }
with_first (Ellipsoid r h) p = record p { ellipsoids = (r, h) ∷ p.ellipsoids }
with_first (Stray mm) p = record p { strays = mm ∷ p.strays }
with_first (Late ms) p = record p { lates = ms ∷ p.lates }
with_first (Drone d) p = record p { drones = d ∷ p.drones }
with_first (Formed f) p = record p { formations = f ∷ p.formations }
with_first (Figured f) p = record p { figures = f ∷ p.figures }
with_first (Blocks b) p = record p { body = b ⨾ p.body }

first_is : (i : Item) (is : List Item) → parts_of (i ∷ is) ≡ with_first i (parts_of is)
first_is (Memory id offset) is = refl
first_is i is = refl

-- an item that is read is one behind the others
pub item_in : (i : Item) (s : Built) → Fresh s i → with_last (parts_in s) i ≡ parts_in (add_item s i)
item_in (Memory id offset) s f = ap (λ o. record (parts_in s) { memories = option_to_list o ++ (id, offset) ∷ [] }) f
item_in (Trajectory id) s f = ap (λ o. record (parts_in s) { trajectories = option_to_list o ++ id ∷ [] }) f
item_in (Ellipsoid r h) s f = ap (λ o. record (parts_in s) { ellipsoids = option_to_list o ++ (r, h) ∷ [] }) f
item_in (Stray mm) s f = ap (λ o. record (parts_in s) { strays = option_to_list o ++ mm ∷ [] }) f
item_in (Late ms) s f = ap (λ o. record (parts_in s) { lates = option_to_list o ++ ms ∷ [] }) f
item_in i s f = refl

-- it doesn't matter which of two comes first
first_last : (i j : Item) (p : Parts) → with_first i (with_last p j) ≡ with_last (with_first i p) j
first_last (Blocks b) (Blocks c) p = ap (λ x. record p { body = x }) (sym (body_assoc b p.body c))
first_last i (Memory id offset) p = refl
first_last i j p = refl

last_only : (i : Item) → parts_of (i ∷ []) ≡ with_last (parts_of []) i
last_only (Blocks b) = ap (λ x. record (parts_of []) { body = x }) (body_done b)
last_only (Memory id offset) = refl
last_only i = refl

-- one more item at the end
pub parts_of-more : (is : List Item) (i : Item) → parts_of (is ++ i ∷ []) ≡ with_last (parts_of is) i
parts_of-more [] i = last_only i
parts_of-more (j ∷ is) i =
    first_is j (is ++ i ∷ []) ∙ ap (with_first j) (parts_of-more is i) ∙ first_last j i (parts_of is)
    ∙ ap (λ p. with_last p i) (sym (first_is j is))
