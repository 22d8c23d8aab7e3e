-- Which text stands for which show.
use Rattle.std.specs.Prelude.{◌≡◌, ℕ, ◌≤◌, List, [], ◌∷◌, ◌++◌, map, length, slice_index_or, Option, Some, None, IfSome}
use Rattle.std.specs.Prelude.{codes, IsTrue}
use Rattle.std.specs.List.{All, AllZip, flat_map, list_all}
use Rattle.text_lines.specs.declared.token.Comments.TheVariants.{FromHash}
use Rattle.text_lines.specs.Lines.{lines_of}
use Rattle.text_lines.specs.Words.{Line, visible, numbered}
use Rattle.choreo_reader.specs.Text.{is_allowed}
use Rattle.choreo_show.specs.Shape.{depth, is_filled, fits_figure}
use Rattle.choreo_lines.specs.Says.{Says}
use Rattle.choreo_lines.specs.declared.table.Form.{Form}
use Rattle.choreo_lines.specs.declared.table.Form.TheVariants.{Whole, Units}
use Rattle.choreo_show.specs.Plain as plain
use Rattle.choreo_show.specs.Plain.{Body, PlainFigure, PlainShow, has_block, ◌⨾◌, most_nested}
use Rattle.choreo_lines.specs.declared.line.Entry.{Entry}
use Rattle.choreo_lines.specs.declared.line.Entry.TheVariants as entry
use Rattle.choreo_show.specs.declared.show.ActLine.{ActLine}
use Rattle.choreo_show.specs.declared.show.ActLine.TheVariants as on
use Rattle.choreo_show.specs.declared.show.DroneLine.{DroneLine}
use Rattle.choreo_show.specs.declared.show.Formation.{Formation}

-- a line of the grammar: what it says, and its number where the show keeps it
pub record SaidLine : Type 0 where
  pub number : Option ℕ
  pub entry : Entry

-- a line whose number the show keeps
abbrev pub at : ℕ → Entry → SaidLine
at n e = record { number = Some n; entry = e }

-- a line whose number the show doesn't keep
abbrev pub anywhere : Entry → SaidLine
anywhere e = record { number = None; entry = e }

-- a line of a text in this form says this line of the grammar, and has the number that the show keeps, if it keeps one
pub record IsSaid (form : Form) (l : Line) (s : SaidLine) : Type 0 where
  pub number : IfSome s.number (λ n. n ≡ l.number)
  pub says : Says form l.words s.entry

-- The grammar: a block is its opening line, its contents, and `end`.

-- the line of an act line
abbrev pub act_said : ActLine → SaidLine
act_said (on.One line name a) = at line (entry.One name a)
act_said (on.Form line formation smooth) = at line (entry.Form formation smooth)

-- the lines of a body
abbrev pub body_said : Body → List SaidLine
body_said plain.Done = []
body_said (plain.Cue line ms acts rest) =
    at line (entry.Cue ms) ∷ (map act_said acts ++ anywhere entry.End ∷ body_said rest)
body_said (plain.Repeat line times inside rest) =
    at line (entry.Repeat times) ∷ (body_said inside ++ anywhere entry.End ∷ body_said rest)
body_said (plain.Perform line figure frame drones rest) = at line (entry.Perform figure frame drones) ∷ body_said rest

-- an item at top; Blocks is a stretch of cues, repeats and performs
pub data Item : Type 0 where
  Memory : (id offset : ℕ) → Item
  Trajectory : (id : ℕ) → Item
  Ellipsoid : (r h : ℕ) → Item
  Stray : (mm : ℕ) → Item
  Late : (ms : ℕ) → Item
  Drone : DroneLine → Item
  Formed : Formation → Item
  Figured : PlainFigure → Item
  Blocks : Body → Item

-- the lines of an item
abbrev pub item_said : Item → List SaidLine
item_said (Memory id offset) = anywhere (entry.Memory id offset) ∷ []
item_said (Trajectory id) = anywhere (entry.Trajectory id) ∷ []
item_said (Ellipsoid r h) = anywhere (entry.Ellipsoid r h) ∷ []
item_said (Stray mm) = anywhere (entry.Stray mm) ∷ []
item_said (Late ms) = anywhere (entry.Late ms) ∷ []
item_said (Drone d) = at d.line (entry.Drone d.name d.at) ∷ []
item_said (Formed f) =
    at f.line (entry.Formation f.name)
    ∷ (map (λ (d : DroneLine). at d.line (entry.At d.name d.at)) f.places ++ anywhere entry.End ∷ [])
item_said (Figured f) = at f.line (entry.Figure f.name f.roles) ∷ (body_said f.body ++ anywhere entry.End ∷ [])
item_said (Blocks b) = body_said b

-- The items of each kind, in order; the body is all their blocks.
pub record Parts : Type 0 where
  pub memories : List (ℕ × ℕ)
  pub trajectories : List ℕ
  pub ellipsoids : List (ℕ × ℕ)
  pub strays : List ℕ
  pub lates : List ℕ
  pub drones : List DroneLine
  pub formations : List Formation
  pub figures : List PlainFigure
  pub body : Body

-- the parts of a show that has these items
abbrev pub parts_of : List Item → Parts
parts_of [] = record {
  memories = [];
  trajectories = [];
  ellipsoids = [];
  strays = [];
  lates = [];
  drones = [];
  formations = [];
  figures = [];
  body = plain.Done;
}
parts_of (Memory id offset ∷ is) = record (parts_of is) { memories = (id, offset) ∷ (parts_of is).memories }
parts_of (Trajectory id ∷ is) = record (parts_of is) { trajectories = id ∷ (parts_of is).trajectories }
parts_of (Ellipsoid r h ∷ is) = record (parts_of is) { ellipsoids = (r, h) ∷ (parts_of is).ellipsoids }
parts_of (Stray mm ∷ is) = record (parts_of is) { strays = mm ∷ (parts_of is).strays }
parts_of (Late ms ∷ is) = record (parts_of is) { lates = ms ∷ (parts_of is).lates }
parts_of (Drone d ∷ is) = record (parts_of is) { drones = d ∷ (parts_of is).drones }
parts_of (Formed f ∷ is) = record (parts_of is) { formations = f ∷ (parts_of is).formations }
parts_of (Figured f ∷ is) = record (parts_of is) { figures = f ∷ (parts_of is).figures }
parts_of (Blocks b ∷ is) = record (parts_of is) { body = b ⨾ (parts_of is).body }

-- the show of these parts; a setting that no line gives has its default
abbrev pub show_of : Parts → PlainShow
show_of p = record {
  settings = record {
    memory_id = (slice_index_or p.memories 0 (2, 0)).0;
    offset = (slice_index_or p.memories 0 (2, 0)).1;
    trajectory_id = slice_index_or p.trajectories 0 0;
    r = (slice_index_or p.ellipsoids 0 (120, 300)).0;
    h = (slice_index_or p.ellipsoids 0 (120, 300)).1;
    stray = slice_index_or p.strays 0 0;
    late = slice_index_or p.lates 0 0;
  };
  drones = p.drones;
  formations = p.formations;
  figures = p.figures;
  body = p.body;
}

-- what an item keeps to: no formation, figure or repeat is empty, no repeat stands inside eight others, and a figure
-- has no perform and no `form`
abbrev pub IsItem : Item → Type 0
IsItem (Formed f) = 1 ≤ length f.places
IsItem (Figured f) =
    IsTrue (has_block f.body) × IsTrue (fits_figure f.body) × IsTrue (is_filled f.body) × (depth f.body ≤ most_nested)
IsItem (Blocks b) = IsTrue (is_filled b) × (depth b ≤ most_nested)
IsItem _ = Unit {0}

-- at most one setting of each kind
pub record HasSingleSettings (p : Parts) : Type 0 where
  pub memory : length p.memories ≤ 1
  pub trajectory : length p.trajectories ≤ 1
  pub ellipsoid : length p.ellipsoids ≤ 1
  pub stray : length p.strays ≤ 1
  pub late : length p.lates ≤ 1

-- the words of the header of a text in this form
abbrev pub header_of : Form → List (List ℕ)
header_of Whole = codes "choreo" ∷ codes "1" ∷ []
header_of Units = codes "choreo" ∷ codes "2" ∷ []

-- The text stands for the show: there are items that make the show, and the text is a header, of the words `choreo 1`
-- or `choreo 2`, and their lines in the form that it names. Outside comments it has no byte that may not stand there.
pub record StandsFor (text : List ℕ) (show : PlainShow) : Type 0 where
  pub form : Form
  pub items : List Item
  pub header : Line
  pub lines : List Line
  pub bytes : IsTrue (list_all (λ line. list_all is_allowed (visible FromHash line)) (lines_of text))
  pub cut : numbered FromHash 1 (lines_of text) ≡ header ∷ lines
  pub first : header.words ≡ header_of form
  pub said : AllZip (IsSaid form) lines (flat_map item_said items)
  pub each : All IsItem items
  pub single : HasSingleSettings (parts_of items)
  pub makes : show_of (parts_of items) ≡ show
