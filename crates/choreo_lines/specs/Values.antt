-- The values of lines: their ranges, their order, and what they denote.
use Rattle.std.specs.Prelude.{ℕ, ◌+◌, Bool, false, List, [], ◌∷◌, map, get_or, ℤ, pos, nat_abs, ◌≤ℤ◌, IsTrue}
use Rattle.choreo_show.specs.Name.{Name, is_name}
use Rattle.choreo_lines.specs.declared.table.Want.{Want}
use Rattle.choreo_lines.specs.declared.table.Want.TheVariants as want
use Rattle.choreo_lines.specs.declared.table.Value.{Value}
use Rattle.choreo_lines.specs.declared.table.Value.TheVariants.{Name as Named, Mirror as Mirrored, Smooth, Ccw, Number}
use Rattle.choreo_lines.specs.declared.table.ActWord.{ActWord}
use Rattle.choreo_lines.specs.declared.table.ActWord.TheVariants as word_of
use Rattle.choreo_lines.specs.declared.line.Keyword.{Keyword}
use Rattle.choreo_lines.specs.declared.line.Keyword.TheVariants as first
use Rattle.choreo_lines.specs.declared.line.Entry.{Entry}
use Rattle.choreo_lines.specs.declared.line.Entry.TheVariants as entry
use Rattle.choreo_show.specs.declared.parts.Act.{Act}
use Rattle.choreo_show.specs.declared.parts.Act.TheVariants as act
use Rattle.choreo_show.specs.declared.parts.Point.{Point}
use Rattle.choreo_show.specs.declared.parts.Mirror.{Mirror}
use Rattle.choreo_show.specs.declared.parts.Mirror.TheVariants as mirror

-- a value that a place which wants this may have
abbrev pub Fits : Want → Value → Type 0
Fits want.Name (Named n) = IsTrue (is_name n.items)
Fits want.Mirror (Mirrored m) = Unit {0}
Fits want.Manner (Smooth s) = Unit {0}
Fits want.Sense (Ccw c) = Unit {0}
Fits (want.Number low high) (Number v) = (low ≤ℤ v) × (v ≤ℤ high)
Fits (want.Quantity counts low high) (Number v) = (low ≤ℤ v) × (v ≤ℤ high)
Fits wanted v = ⊥

-- values that places which want these may have, one by one; after the last place stand names
abbrev pub AllFit : List Want → List Value → Type 0
AllFit [] [] = Unit {0}
AllFit [] (v ∷ vs) = Fits want.Name v × AllFit [] vs
AllFit (wanted ∷ wants) (v ∷ vs) = Fits wanted v × AllFit wants vs
AllFit wants vs = ⊥

-- The value at a place.

-- a number, or 0
abbrev pub number_of : Value → ℤ
number_of (Number v) = v
number_of v = pos 0

-- a sense, or clockwise
abbrev pub ccw_of : Value → Bool
ccw_of (Ccw c) = c
ccw_of v = false

-- a manner, or evenly
abbrev pub smooth_of : Value → Bool
smooth_of (Smooth s) = s
smooth_of v = false

-- a mirror, or none
abbrev pub mirror_of : Value → Mirror
mirror_of (Mirrored m) = m
mirror_of v = mirror.None

-- a name, or no bytes
abbrev pub name_of : Value → Name
name_of (Named n) = n
name_of v = record { items = [] }

-- the value at a place
abbrev pub value_at : List Value → ℕ → Value
value_at vs k = get_or vs k (Number (pos 0))

-- the number at a place
abbrev pub number_at : List Value → ℕ → ℤ
number_at vs k = number_of (value_at vs k)

-- the same where it is not negative
abbrev pub natural_at : List Value → ℕ → ℕ
natural_at vs k = nat_abs (number_at vs k)

-- the name at a place
abbrev pub name_at : List Value → ℕ → Name
name_at vs k = name_of (value_at vs k)

-- the mirror at a place
abbrev pub mirror_at : List Value → ℕ → Mirror
mirror_at vs k = mirror_of (value_at vs k)

-- the manner at a place
abbrev pub smooth_at : List Value → ℕ → Bool
smooth_at vs k = smooth_of (value_at vs k)

-- the sense at a place
abbrev pub ccw_at : List Value → ℕ → Bool
ccw_at vs k = ccw_of (value_at vs k)

-- What a line says: its values in their order, and what such values denote.

-- the values of a point
abbrev pub point_fields : Point → List Value
point_fields p = Number p.x ∷ Number p.y ∷ Number p.z ∷ Number p.yaw ∷ []

-- the point whose x stands at a place
abbrev pub point_at : List Value → ℕ → Point
point_at vs k =
    record { x = number_at vs k; y = number_at vs (k + 1); z = number_at vs (k + 2); yaw = number_at vs (k + 3) }

-- the three coordinates of which the first stands at a place
abbrev pub triple_at : List Value → ℕ → List ℤ
triple_at vs k = number_at vs k ∷ number_at vs (k + 1) ∷ number_at vs (k + 2) ∷ []

-- the word of an act, and its values after it; a handle has three coordinates, and no line has an act where one hasn't
abbrev pub act_fields : Act → ActWord × List Value
act_fields act.Hold = (word_of.Hold, [])
act_fields (act.Line to) = (word_of.Line, point_fields to)
act_fields (act.Move to) = (word_of.Move, point_fields to)
act_fields (act.Turn yaw) = (word_of.Turn, Number yaw ∷ [])
act_fields (act.Arc ccw cx cy yaw) = (word_of.Arc, Ccw ccw ∷ Number cx ∷ Number cy ∷ Number yaw ∷ [])
act_fields (act.Eased ease ccw cx cy yaw) = (word_of.Eased ease, Ccw ccw ∷ Number cx ∷ Number cy ∷ Number yaw ∷ [])
act_fields (act.Curve (x1 ∷ y1 ∷ z1 ∷ []) (x2 ∷ y2 ∷ z2 ∷ []) to) =
    (word_of.Curve, Number x1 ∷ Number y1 ∷ Number z1 ∷ Number x2 ∷ Number y2 ∷ Number z2 ∷ point_fields to)
act_fields (act.Curve p1 p2 to) = (word_of.Curve, [])

-- the act with this word and these values
abbrev pub act_with : ActWord → List Value → Act
act_with word_of.Hold vs = act.Hold
act_with word_of.Line vs = act.Line (point_at vs 0)
act_with word_of.Move vs = act.Move (point_at vs 0)
act_with word_of.Turn vs = act.Turn (number_at vs 0)
act_with word_of.Arc vs = act.Arc (ccw_at vs 0) (number_at vs 1) (number_at vs 2) (number_at vs 3)
act_with (word_of.Eased ease) vs = act.Eased ease (ccw_at vs 0) (number_at vs 1) (number_at vs 2) (number_at vs 3)
act_with word_of.Curve vs = act.Curve (triple_at vs 0) (triple_at vs 3) (point_at vs 6)

-- the first word of the line of an entry; an act line has none of its own
abbrev pub keyword_in : Entry → Keyword
keyword_in (entry.Memory id offset) = first.Memory
keyword_in (entry.Trajectory id) = first.Trajectory
keyword_in (entry.Ellipsoid r h) = first.Ellipsoid
keyword_in (entry.Stray mm) = first.Stray
keyword_in (entry.Late ms) = first.Late
keyword_in (entry.Drone name at) = first.Drone
keyword_in (entry.Formation name) = first.Formation
keyword_in (entry.At name at) = first.At
keyword_in (entry.Figure name roles) = first.Figure
keyword_in (entry.Cue ms) = first.Cue
keyword_in (entry.Repeat times) = first.Repeat
keyword_in (entry.Perform figure frame drones) = first.Perform
keyword_in (entry.Form formation smooth) = first.Form
keyword_in (entry.One name a) = first.Other
keyword_in entry.End = first.End

-- the values of an entry
abbrev pub fields_of : Entry → List Value
fields_of (entry.Memory id offset) = Number (pos id) ∷ Number (pos offset) ∷ []
fields_of (entry.Trajectory id) = Number (pos id) ∷ []
fields_of (entry.Ellipsoid r h) = Number (pos r) ∷ Number (pos h) ∷ []
fields_of (entry.Stray mm) = Number (pos mm) ∷ []
fields_of (entry.Late ms) = Number (pos ms) ∷ []
fields_of (entry.Drone name at) = Named name ∷ point_fields at
fields_of (entry.Formation name) = Named name ∷ []
fields_of (entry.At name at) = Named name ∷ point_fields at
fields_of (entry.Figure name roles) = Named name ∷ map Named roles
fields_of (entry.Cue ms) = Number (pos ms) ∷ []
fields_of (entry.Repeat times) = Number (pos times) ∷ []
fields_of (entry.Perform figure frame drones) =
    Named figure ∷ Mirrored frame.mirror ∷ Number (pos frame.turns)
    ∷ Number frame.dx ∷ Number frame.dy ∷ Number frame.dz ∷ map Named drones
fields_of (entry.Form formation smooth) = Named formation ∷ Smooth smooth ∷ []
fields_of (entry.One name a) = Named name ∷ (act_fields a).1
fields_of entry.End = []

-- the entry of this first word, with these values and the names after them; act lines have no such word
abbrev pub entry_with : Keyword → List Value → List Name → Entry
entry_with first.Memory vs ns = entry.Memory (natural_at vs 0) (natural_at vs 1)
entry_with first.Trajectory vs ns = entry.Trajectory (natural_at vs 0)
entry_with first.Ellipsoid vs ns = entry.Ellipsoid (natural_at vs 0) (natural_at vs 1)
entry_with first.Stray vs ns = entry.Stray (natural_at vs 0)
entry_with first.Late vs ns = entry.Late (natural_at vs 0)
entry_with first.Drone vs ns = entry.Drone (name_at vs 0) (point_at vs 1)
entry_with first.Formation vs ns = entry.Formation (name_at vs 0)
entry_with first.At vs ns = entry.At (name_at vs 0) (point_at vs 1)
entry_with first.Figure vs ns = entry.Figure (name_at vs 0) ns
entry_with first.Cue vs ns = entry.Cue (natural_at vs 0)
entry_with first.Repeat vs ns = entry.Repeat (natural_at vs 0)
entry_with first.Perform vs ns =
    entry.Perform (name_at vs 0)
    (record {
      mirror = mirror_at vs 1;
      turns = natural_at vs 2;
      dx = number_at vs 3;
      dy = number_at vs 4;
      dz = number_at vs 5;
    }) ns
entry_with first.Form vs ns = entry.Form (name_at vs 0) (smooth_at vs 1)
entry_with first.End vs ns = entry.End
entry_with first.Other vs ns = entry.End
