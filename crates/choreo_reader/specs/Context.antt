-- The context of a line, and its faults.
use Rattle.std.specs.Prelude.{ℕ, ◌+◌, Bool, true, false, not, ◌&&◌, ◌||◌, List, [], ◌∷◌, length, ◌==◌, nat_le, Option}
use Rattle.std.specs.Prelude.{Some, None, if◌then◌else◌, bytes_eq, codes}
use Rattle.text_lines.specs.Words.{Line}
use Rattle.choreo_show.specs.Plain.{most_nested}
use Rattle.choreo_reader.specs.Text.{Fault, fault_at, show_lines, forbidden}
use Rattle.choreo_lines.specs.FirstWord.{keyword_of}
use Rattle.choreo_lines.specs.Table.{word, as_read}
use Rattle.choreo_lines.specs.Fields.{kind_in, or_else}
use Rattle.choreo_lines.specs.declared.table.Form.{Form}
use Rattle.choreo_lines.specs.declared.table.Form.TheVariants.{Whole, Units}
use Rattle.choreo_lines.specs.declared.line.LineKind.{LineKind}
use Rattle.choreo_lines.specs.declared.line.LineKind.TheVariants as kind
use Rattle.choreo_lines.specs.declared.line.Keyword.{Keyword}
use Rattle.choreo_lines.specs.declared.line.Keyword.TheVariants as first
use Rattle.choreo_lines.specs.declared.line.Place.{Place}
use Rattle.choreo_lines.specs.declared.line.Place.TheVariants.{Top, InFormation, InFigure, InRepeat, InCue, InFigureCue}

-- the kinds of blocks
pub data Opened : Type 0 where
  OpenFormation : Opened
  OpenFigure : Opened
  OpenRepeat : Opened
  OpenCue : Opened

-- an open block: its kind, its line, and whether a line stands in it
pub record Opening : Type 0 where
  pub kind : Opened
  pub line : ℕ
  pub filled : Bool

-- the open blocks, the innermost first, and which settings stand on an earlier line
pub record Context : Type 0 where
  pub open_blocks : List Opening
  pub memory : Bool
  pub trajectory : Bool
  pub ellipsoid : Bool
  pub stray : Bool
  pub late : Bool

-- the context of the first line after the header
abbrev pub outermost : Context
outermost =
    record { open_blocks = []; memory = false; trajectory = false; ellipsoid = false; stray = false; late = false }

-- a figure
abbrev pub is_figure : Opened → Bool
is_figure OpenFigure = true
is_figure _ = false

-- a repeat
abbrev pub is_repeat : Opened → Bool
is_repeat OpenRepeat = true
is_repeat _ = false

-- whether one of these blocks is a figure
abbrev pub in_figure : List Opening → Bool
in_figure [] = false
in_figure (o ∷ os) = is_figure o.kind || in_figure os

-- how many repeats are open
abbrev pub repeats : List Opening → ℕ
repeats [] = 0
repeats (o ∷ os) = (if is_repeat o.kind then 1 else 0) + repeats os

-- the place of a line whose innermost block is of this kind, inside a figure or not
abbrev pub place_in : Opened → Bool → Place
place_in OpenFormation inside = InFormation
place_in OpenFigure inside = InFigure
place_in OpenRepeat inside = if inside then InFigure else InRepeat
place_in OpenCue inside = if inside then InFigureCue else InCue

-- the place of a line in these open blocks
abbrev pub place_of : List Opening → Place
place_of [] = Top
place_of (o ∷ os) = place_in o.kind (in_figure (o ∷ os))

-- what the first word opens at a place
abbrev pub opened_by : Place → Keyword → Option Opened
opened_by Top first.Formation = Some OpenFormation
opened_by Top first.Figure = Some OpenFigure
opened_by Top first.Cue = Some OpenCue
opened_by Top first.Repeat = Some OpenRepeat
opened_by InFigure first.Cue = Some OpenCue
opened_by InFigure first.Repeat = Some OpenRepeat
opened_by InRepeat first.Cue = Some OpenCue
opened_by InRepeat first.Repeat = Some OpenRepeat
opened_by place keyword = None

-- an `end`
abbrev pub is_end : Keyword → Bool
is_end first.End = true
is_end _ = false

-- the innermost block has a line now
abbrev pub fill : List Opening → List Opening
fill [] = []
fill (o ∷ os) = record { kind = o.kind; line = o.line; filled = true } ∷ os

-- the innermost block is closed
abbrev pub without_innermost : List Opening → List Opening
without_innermost [] = []
without_innermost (o ∷ os) = os

-- a line that may open a block, in these blocks
abbrev pub opens : ℕ → List Opening → Option Opened → List Opening
opens n os None = fill os
opens n os (Some k) = record { kind = k; line = n; filled = false } ∷ fill os

-- the open blocks after a line with this first word
abbrev pub blocks_after : ℕ → List Opening → Keyword → List Opening
blocks_after n os keyword =
    if is_end keyword then without_innermost os else opens n os (opened_by (place_of os) keyword)

-- no block is open
abbrev pub is_top : List Opening → Bool
is_top [] = true
is_top _ = false

-- a line of `memory`
abbrev pub sets_memory : Keyword → Bool
sets_memory first.Memory = true
sets_memory _ = false

-- a line of `trajectory`
abbrev pub sets_trajectory : Keyword → Bool
sets_trajectory first.Trajectory = true
sets_trajectory _ = false

-- a line of `ellipsoid`
abbrev pub sets_ellipsoid : Keyword → Bool
sets_ellipsoid first.Ellipsoid = true
sets_ellipsoid _ = false

-- a line of `stray`
abbrev pub sets_stray : Keyword → Bool
sets_stray first.Stray = true
sets_stray _ = false

-- a line of `late`
abbrev pub sets_late : Keyword → Bool
sets_late first.Late = true
sets_late _ = false

-- the context after a line with this number and first word
abbrev pub context_after_word : Context → ℕ → Keyword → Context
context_after_word c n keyword = record {
  open_blocks = blocks_after n c.open_blocks keyword;
  memory = c.memory || (is_top c.open_blocks && sets_memory keyword);
  trajectory = c.trajectory || (is_top c.open_blocks && sets_trajectory keyword);
  ellipsoid = c.ellipsoid || (is_top c.open_blocks && sets_ellipsoid keyword);
  stray = c.stray || (is_top c.open_blocks && sets_stray keyword);
  late = c.late || (is_top c.open_blocks && sets_late keyword);
}

-- the first word of a line
abbrev pub first_word : List (List ℕ) → List ℕ
first_word ws = word ws 0

-- the context after a line
abbrev pub context_after : Context → Line → Context
context_after c l = context_after_word c l.number (keyword_of (first_word l.words))

-- a fault where the test holds
abbrev pub fault_if : Bool → LineKind → Option LineKind
fault_if true k = Some k
fault_if false k = None

-- a formation, a figure or a repeat without a line in it
abbrev pub is_empty_block : List Opening → Bool
is_empty_block [] = false
is_empty_block (o ∷ os) = elim o.kind [ OpenCue ↦ false | _ ↦ not o.filled ]

-- what earlier lines leave open for a line with this first word: a setting of its kind that stands already, eight
-- repeats around another one, a block without a line that it would close
abbrev pub open_fault : Context → Keyword → Option LineKind
open_fault c first.Memory = fault_if c.memory kind.DoubleSetting
open_fault c first.Trajectory = fault_if c.trajectory kind.DoubleSetting
open_fault c first.Ellipsoid = fault_if c.ellipsoid kind.DoubleSetting
open_fault c first.Stray = fault_if c.stray kind.DoubleSetting
open_fault c first.Late = fault_if c.late kind.DoubleSetting
open_fault c first.Repeat = fault_if (nat_le most_nested (repeats c.open_blocks)) kind.Nesting
open_fault c first.End = fault_if (is_empty_block c.open_blocks) kind.EmptyBlock
open_fault c keyword = None

-- what is wrong with a line of a text in this form, in its context: with its words by the table of lines, else by what
-- earlier lines leave open
abbrev pub line_fault : Form → Context → Line → Option LineKind
line_fault form c l =
    or_else (kind_in form (place_of c.open_blocks) l.words)
    (open_fault c (as_read (place_of c.open_blocks) (keyword_of (first_word l.words))))

-- the text ends inside a block
abbrev pub end_fault : List Opening → Option Fault
end_fault [] = None
end_fault (o ∷ os) = Some (fault_at o.line kind.NoEnd)

-- a fault on this line, or a later one
abbrev pub this_or : ℕ → Option LineKind → Option Fault → Option Fault
this_or n (Some k) later = Some (fault_at n k)
this_or n None later = later

-- the first fault of the lines after the header
abbrev pub fault_from : Form → Context → List Line → Option Fault
fault_from form c [] = end_fault c.open_blocks
fault_from form c (l ∷ ls) = this_or l.number (line_fault form c l) (fault_from form (context_after c l) ls)

-- the form that its second word names
abbrev pub form_named : List ℕ → Option Form
form_named w = if bytes_eq w (codes "1") then Some Whole else if bytes_eq w (codes "2") then Some Units else None

-- the form that the words of a header name: `choreo 1` or `choreo 2`
abbrev pub form_of : List (List ℕ) → Option Form
form_of ws = if length ws == 2 && bytes_eq (word ws 0) (codes "choreo") then form_named (word ws 1) else None

-- the first fault of a text whose first line with words has this number and names this form, if it names one
abbrev pub fault_after_header : Option Form → ℕ → List Line → Option Fault
fault_after_header (Some form) n ls = fault_from form outermost ls
fault_after_header None n ls = Some (fault_at n kind.Header)

-- the first fault of the lines with words
abbrev pub fault_of_lines : List Line → Option Fault
fault_of_lines [] = Some (fault_at 1 kind.Header)
fault_of_lines (l ∷ ls) = fault_after_header (form_of l.words) l.number ls

-- the first of two faults, where there is one
abbrev pub either_fault : Option Fault → Option Fault → Option Fault
either_fault (Some f) g = Some f
either_fault None g = g

-- the first fault of a text
abbrev pub fault : List ℕ → Option Fault
fault text = either_fault (forbidden text) (fault_of_lines (show_lines text))
