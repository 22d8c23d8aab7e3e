-- The lines of the language as a table: what each line wants in its places, how many names may follow, and where it
-- stands.
use Rattle.std.specs.Prelude.{ℕ, ◌+◌, Bool, true, false, ◌&&◌, List, [], ◌∷◌, length, get_or, ◌==◌, nat_le, Option}
use Rattle.std.specs.Prelude.{Some, None, pos, neg_ℤ, bytes_eq, codes, if◌then◌else◌}
use Rattle.whole_numbers.specs.Limits.{most_drones}
use Rattle.choreo_lines.specs.declared.unit.Counts.TheVariants.{Micrometres, Millimetres, Milliseconds, TenthsOfADegree}
use Rattle.choreo_lines.specs.declared.table.Want.{Want}
use Rattle.choreo_lines.specs.declared.table.Want.TheVariants as want
use Rattle.choreo_lines.specs.declared.table.ActWord.{ActWord}
use Rattle.choreo_lines.specs.declared.table.ActWord.TheVariants as act
use Rattle.choreo_show.specs.declared.parts.Ease.TheVariants as ease
use Rattle.choreo_lines.specs.declared.line.Keyword.{Keyword}
use Rattle.choreo_lines.specs.declared.line.Keyword.TheVariants as first
use Rattle.choreo_lines.specs.declared.line.Place.{Place}
use Rattle.choreo_lines.specs.declared.line.Place.TheVariants.{Top, InFormation, InFigure, InRepeat, InCue, InFigureCue}

-- the bytes of a word
abbrev pub Word : Type 0
Word = List ℕ

-- the word at a place of a list, counted from 0
abbrev pub word : List Word → ℕ → Word
word ws k = get_or ws k []

-- A row of the table: what the places after the first word of the line want, and how many names may stand after them,
-- at least one; none where this is 0.
pub record Row : Type 0 where
  pub places : List Want
  pub names : ℕ

-- a line after whose last place nothing may stand
abbrev pub only : List Want → Row
only places = record { places = places; names = 0 }

-- micrometres
abbrev pub coordinate : Want
coordinate = want.Quantity Micrometres (neg_ℤ (pos 100000000)) (pos 100000000)

-- tenths of a degree
abbrev pub yaw : Want
yaw = want.Quantity TenthsOfADegree (neg_ℤ (pos 32768)) (pos 32767)

-- x, y, z and yaw
abbrev pub point : List Want
point = coordinate ∷ coordinate ∷ coordinate ∷ yaw ∷ []

-- the lines by their first word
abbrev pub row_of : Keyword → Row
row_of first.Memory = only (want.Number (pos 0) (pos 255) ∷ want.Number (pos 0) (pos 4095) ∷ [])
row_of first.Trajectory = only (want.Number (pos 0) (pos 9) ∷ [])
row_of first.Ellipsoid =
    only (want.Quantity Millimetres (pos 1) (pos 2000) ∷ want.Quantity Millimetres (pos 1) (pos 2000) ∷ [])
row_of first.Stray = only (want.Quantity Millimetres (pos 0) (pos 1000) ∷ [])
row_of first.Late = only (want.Quantity Milliseconds (pos 0) (pos 1000) ∷ [])
row_of first.Drone = only (want.Name ∷ point)
row_of first.Formation = only (want.Name ∷ [])
row_of first.At = only (want.Name ∷ point)
row_of first.Figure = record { places = want.Name ∷ []; names = most_drones }
row_of first.Cue = only (want.Quantity Milliseconds (pos 1) (pos 65535) ∷ [])
row_of first.Repeat = only (want.Number (pos 1) (pos 1000000000) ∷ [])
row_of first.Perform = record {
  places = want.Name ∷ want.Mirror ∷ want.Number (pos 0) (pos 3) ∷ coordinate ∷ coordinate ∷ coordinate ∷ [];
  names = most_drones;
}
row_of first.Form = only (want.Name ∷ want.Manner ∷ [])
row_of first.End = only []
row_of first.Other = only []

-- whether a row has this many words after the first
abbrev pub has_count : Row → ℕ → Bool
has_count row n =
    if row.names == 0
    then n == length row.places
    else nat_le (length row.places + 1) n && nat_le n (length row.places + row.names)

-- the acts by their word
abbrev pub act_of : Word → Option ActWord
act_of w =
    if bytes_eq w (codes "hold") then Some act.Hold else
    if bytes_eq w (codes "line") then Some act.Line else
    if bytes_eq w (codes "move") then Some act.Move else
    if bytes_eq w (codes "turn") then Some act.Turn else
    if bytes_eq w (codes "arc") then Some act.Arc else
    if bytes_eq w (codes "curve") then Some act.Curve else
    if bytes_eq w (codes "swing") then Some (act.Eased ease.InOut) else
    if bytes_eq w (codes "arc_in") then Some (act.Eased ease.In) else
    if bytes_eq w (codes "arc_out") then Some (act.Eased ease.Out) else None

-- what the places after the word of an act want
abbrev pub act_places : ActWord → List Want
act_places act.Hold = []
act_places act.Line = point
act_places act.Move = point
act_places act.Turn = yaw ∷ []
act_places act.Arc = want.Sense ∷ coordinate ∷ coordinate ∷ yaw ∷ []
act_places (act.Eased how) = want.Sense ∷ coordinate ∷ coordinate ∷ yaw ∷ []
act_places act.Curve = coordinate ∷ coordinate ∷ coordinate ∷ coordinate ∷ coordinate ∷ coordinate ∷ point

-- whether a line with this first word may stand here; `Other` is an act line
abbrev pub may_stand : Place → Keyword → Bool
may_stand Top first.At = false
may_stand Top first.Form = false
may_stand Top first.End = false
may_stand Top first.Other = false
may_stand Top keyword = true
may_stand InFormation first.At = true
may_stand InFormation first.End = true
may_stand InFigure first.Cue = true
may_stand InFigure first.Repeat = true
may_stand InFigure first.End = true
may_stand InRepeat first.Cue = true
may_stand InRepeat first.Repeat = true
may_stand InRepeat first.Perform = true
may_stand InRepeat first.End = true
may_stand InCue first.Form = true
may_stand InCue first.End = true
may_stand InCue first.Other = true
may_stand InFigureCue first.End = true
may_stand InFigureCue first.Other = true
may_stand place keyword = false

-- the first word as it is read at a place: in a cue all words are names, but for `end` and, outside figures, `form`
abbrev pub as_read : Place → Keyword → Keyword
as_read InCue first.End = first.End
as_read InCue first.Form = first.Form
as_read InCue keyword = first.Other
as_read InFigureCue first.End = first.End
as_read InFigureCue keyword = first.Other
as_read place keyword = keyword
