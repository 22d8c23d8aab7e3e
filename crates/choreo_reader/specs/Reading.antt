-- How a text is read, line by line: the steps of the reader on lists.
use Rattle.std.specs.Prelude.{nat_le, ℕ, Bool, true, false, List, [], ◌∷◌, ◌++◌, Option, Some, None, Result, Ok, Err}
use Rattle.std.specs.Prelude.{if◌then◌else◌, unwrap_or, is_some}
use Rattle.text_lines.specs.Words.{Line}
use Rattle.choreo_reader.specs.Text.{show_lines}
use Rattle.choreo_lines.specs.Fields.{entry_of}
use Rattle.choreo_show.specs.Plain as plain
use Rattle.choreo_show.specs.Name.{Name}
use Rattle.choreo_show.specs.Plain.{Body, PlainFigure, PlainShow, has_block, ◌⨾◌, most_nested}
use Rattle.choreo_reader.specs.Context.{Context, Opening, OpenFormation, OpenFigure, OpenRepeat, OpenCue, fault_if}
use Rattle.choreo_reader.specs.Context.{repeats, is_empty_block, place_of, form_of, end_fault}
use Rattle.choreo_lines.specs.declared.table.Form.{Form}
use Rattle.choreo_reader.specs.Text.{Fault, fault_at, forbidden}
use Rattle.choreo_lines.specs.declared.line.LineKind.{LineKind}
use Rattle.choreo_lines.specs.declared.line.LineKind.TheVariants as kind
use Rattle.choreo_lines.specs.declared.line.Entry.{Entry}
use Rattle.choreo_lines.specs.declared.line.Entry.TheVariants as entry
use Rattle.choreo_show.specs.declared.show.ActLine.{ActLine}
use Rattle.choreo_show.specs.declared.show.ActLine.TheVariants as on
use Rattle.choreo_show.specs.declared.show.DroneLine.{DroneLine}
use Rattle.choreo_show.specs.declared.show.Formation.{Formation}
use Rattle.choreo_show.specs.declared.show.Settings.{Settings}

-- what earlier lines leave open for an entry
abbrev pub entry_fault : Context → Entry → Option LineKind
entry_fault c (entry.Memory id offset) = fault_if c.memory kind.DoubleSetting
entry_fault c (entry.Trajectory id) = fault_if c.trajectory kind.DoubleSetting
entry_fault c (entry.Ellipsoid r h) = fault_if c.ellipsoid kind.DoubleSetting
entry_fault c (entry.Stray mm) = fault_if c.stray kind.DoubleSetting
entry_fault c (entry.Late ms) = fault_if c.late kind.DoubleSetting
entry_fault c (entry.Repeat times) = fault_if (nat_le most_nested (repeats c.open_blocks)) kind.Nesting
entry_fault c entry.End = fault_if (is_empty_block c.open_blocks) kind.EmptyBlock
entry_fault c _ = None

-- what is wrong with what was read of a line
abbrev pub fault_with : Context → Result Entry LineKind → Option LineKind
fault_with c (Ok e) = entry_fault c e
fault_with c (Err k) = Some k

-- an open block with what stands in it so far
pub data Open : Type 0 where
  InFormation : (line : ℕ) (name : Name) (places : List DroneLine) → Open
  InFigure : (line : ℕ) (name : Name) (roles : List Name) (body : Body) → Open
  InRepeat : (line times : ℕ) (body : Body) → Open
  InCue : (line ms : ℕ) (acts : List ActLine) → Open

-- what was read so far; the open blocks, the innermost first
pub record Built : Type 0 where
  pub memory : Option (ℕ × ℕ)
  pub trajectory : Option ℕ
  pub ellipsoid : Option (ℕ × ℕ)
  pub stray : Option ℕ
  pub late : Option ℕ
  pub drones : List DroneLine
  pub formations : List Formation
  pub figures : List PlainFigure
  pub body : Body
  pub open_blocks : List Open

-- nothing was read
abbrev pub nothing : Built
nothing =
    record {
      memory = None;
      trajectory = None;
      ellipsoid = None;
      stray = None;
      late = None;
      drones = [];
      formations = [];
      figures = [];
      body = plain.Done;
      open_blocks = [];
    }

-- a list with something in it
abbrev pub is_any : {A : Type 0} → List A → Bool
is_any [] = false
is_any (x ∷ xs) = true

-- an innermost open block as contexts have it
abbrev pub opening_of : Open → Opening
opening_of (InFormation line name places) = record { kind = OpenFormation; line = line; filled = is_any places }
opening_of (InFigure line name roles body) = record { kind = OpenFigure; line = line; filled = has_block body }
opening_of (InRepeat line times body) = record { kind = OpenRepeat; line = line; filled = has_block body }
opening_of (InCue line ms acts) = record { kind = OpenCue; line = line; filled = is_any acts }

-- a block outside the innermost one has a line: that of the block inside it
abbrev pub outer_opening : Open → Opening
outer_opening o = record { kind = (opening_of o).kind; line = (opening_of o).line; filled = true }

-- the blocks around the innermost one
abbrev pub outer_openings : List Open → List Opening
outer_openings [] = []
outer_openings (o ∷ os) = outer_opening o ∷ outer_openings os

-- open blocks as contexts have them
abbrev pub openings_of : List Open → List Opening
openings_of [] = []
openings_of (o ∷ os) = opening_of o ∷ outer_openings os

-- the context after what was read
abbrev pub context_of : Built → Context
context_of b = record {
  open_blocks = openings_of b.open_blocks;
  memory = is_some b.memory;
  trajectory = is_some b.trajectory;
  ellipsoid = is_some b.ellipsoid;
  stray = is_some b.stray;
  late = is_some b.late;
}

-- an open block with one more block at its end
abbrev pub with_block : Open → Body → Open
with_block (InFigure line name roles body) b = InFigure line name roles (body ⨾ b)
with_block (InRepeat line times body) b = InRepeat line times (body ⨾ b)
with_block o b = o

-- one more block, in the innermost open one or at top
abbrev pub add_block : Built → List Open → Body → Built
add_block s [] b = record s { body = s.body ⨾ b; open_blocks = [] }
add_block s (o ∷ os) b = record s { open_blocks = with_block o b ∷ os }

-- closes this block, which stands inside these
abbrev pub close : Built → Open → List Open → Built
close s (InFormation line name places) os =
    record s {
      formations = s.formations ++ record { line = line; name = name; places = places } ∷ [];
      open_blocks = os;
    }
close s (InFigure line name roles body) os =
    record s {
      figures = s.figures ++ record { line = line; name = name; roles = roles; body = body } ∷ [];
      open_blocks = os;
    }
close s (InRepeat line times body) os = add_block s os (plain.Repeat line times body plain.Done)
close s (InCue line ms acts) os = add_block s os (plain.Cue line ms acts plain.Done)

-- an `end`
abbrev pub close_innermost : Built → List Open → Built
close_innermost s [] = s
close_innermost s (o ∷ os) = close s o os

-- an open cue with one more act line
abbrev pub act_added : Open → ActLine → Open
act_added (InCue line ms acts) a = InCue line ms (acts ++ a ∷ [])
act_added o a = o

-- an open formation with one more place
abbrev pub place_added : Open → DroneLine → Open
place_added (InFormation line name places) d = InFormation line name (places ++ d ∷ [])
place_added o d = o

-- the innermost block changed
abbrev pub with_innermost : (Open → Open) → List Open → List Open
with_innermost change [] = []
with_innermost change (o ∷ os) = change o ∷ os

-- one more act line
abbrev pub with_act : List Open → ActLine → List Open
with_act os a = with_innermost (λ o. act_added o a) os

-- one more place
abbrev pub with_place : List Open → DroneLine → List Open
with_place os d = with_innermost (λ o. place_added o d) os

-- what is built after a line that says this entry
abbrev pub build : Built → ℕ → Entry → Built
build s n (entry.Memory id offset) = record s { memory = Some (id, offset) }
build s n (entry.Trajectory id) = record s { trajectory = Some id }
build s n (entry.Ellipsoid r h) = record s { ellipsoid = Some (r, h) }
build s n (entry.Stray mm) = record s { stray = Some mm }
build s n (entry.Late ms) = record s { late = Some ms }
build s n (entry.Drone name at) = record s { drones = s.drones ++ record { line = n; name = name; at = at } ∷ [] }
build s n (entry.Formation name) = record s { open_blocks = InFormation n name [] ∷ s.open_blocks }
build s n (entry.At name at) =
    record s { open_blocks = with_place s.open_blocks (record { line = n; name = name; at = at }) }
build s n (entry.Figure name roles) = record s { open_blocks = InFigure n name roles plain.Done ∷ s.open_blocks }
build s n (entry.Cue ms) = record s { open_blocks = InCue n ms [] ∷ s.open_blocks }
build s n (entry.Repeat times) = record s { open_blocks = InRepeat n times plain.Done ∷ s.open_blocks }
build s n (entry.Perform figure frame drones) =
    add_block s s.open_blocks (plain.Perform n figure frame drones plain.Done)
build s n (entry.Form formation smooth) = record s { open_blocks = with_act s.open_blocks (on.Form n formation smooth) }
build s n (entry.One name a) = record s { open_blocks = with_act s.open_blocks (on.One n name a) }
build s n entry.End = close_innermost s s.open_blocks

-- the settings so far, with their defaults
abbrev pub settings_of : Built → Settings
settings_of s = record {
  memory_id = (unwrap_or s.memory (2, 0)).0;
  offset = (unwrap_or s.memory (2, 0)).1;
  trajectory_id = unwrap_or s.trajectory 0;
  r = (unwrap_or s.ellipsoid (120, 300)).0;
  h = (unwrap_or s.ellipsoid (120, 300)).1;
  stray = unwrap_or s.stray 0;
  late = unwrap_or s.late 0;
}

-- the show of what was read
abbrev pub built_show : Built → PlainShow
built_show s =
    record {
      settings = settings_of s;
      drones = s.drones;
      formations = s.formations;
      figures = s.figures;
      body = s.body;
    }

-- what is built after a line, or the first fault
abbrev pub Step : Type 0
Step = Result Built Fault

-- what is built, unless there is a fault on the line
abbrev pub unless : ℕ → Option LineKind → Built → Step
unless n (Some k) s = Err (fault_at n k)
unless n None s = Ok s

-- what is built after a line that was read so
abbrev pub built_by : Built → ℕ → Result Entry LineKind → Step
built_by s n (Err k) = Err (fault_at n k)
built_by s n (Ok e) = unless n (entry_fault (context_of s) e) (build s n e)

-- what is built after one more line of a text in this form, or the line's fault
abbrev pub line_step : Form → Built → Line → Step
line_step form s l = built_by s l.number (entry_of form (place_of (context_of s).open_blocks) l.words)

-- a step, and then the next
abbrev pub then_step : Step → (Built → Step) → Step
then_step (Ok s) go = go s
then_step (Err f) go = Err f

-- the lines, one by one
abbrev pub lines_step : Form → Built → List Line → Step
lines_step form s [] = Ok s
lines_step form s (l ∷ ls) = then_step (line_step form s l) (λ t. lines_step form t ls)

-- the show, unless there is a fault at the end
abbrev pub finish_with : Built → Option Fault → Result PlainShow Fault
finish_with s (Some f) = Err f
finish_with s None = Ok (built_show s)

-- the show of what was built, unless a block is open
abbrev pub finish : Step → Result PlainShow Fault
finish (Err f) = Err f
finish (Ok s) = finish_with s (end_fault (context_of s).open_blocks)

-- the show of a text whose first line with words has this number and names this form, if it names one
abbrev pub read_after_header : Option Form → ℕ → List Line → Result PlainShow Fault
read_after_header (Some form) n ls = finish (lines_step form nothing ls)
read_after_header None n ls = Err (fault_at n kind.Header)

-- the show of lines, the first of which is the header
abbrev pub read_lines : List Line → Result PlainShow Fault
read_lines [] = Err (fault_at 1 kind.Header)
read_lines (l ∷ ls) = read_after_header (form_of l.words) l.number ls

-- what was read, unless a byte is forbidden
abbrev pub unless_forbidden : Option Fault → Result PlainShow Fault → Result PlainShow Fault
unless_forbidden (Some f) read = Err f
unless_forbidden None read = read

-- the show of a text, or its first fault
abbrev pub reading : List ℕ → Result PlainShow Fault
reading text = unless_forbidden (forbidden text) (read_lines (show_lines text))
