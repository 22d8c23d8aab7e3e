-- What the words of a line say, and what a line may say where it stands.
use Rattle.std.specs.Prelude.{◌≡◌, Bool, true, false, List, [], ◌∷◌, length, Some, codes, IsTrue}
use Rattle.text_lines.specs.Numbers.{IsNumber}
use Rattle.choreo_lines.specs.Quantities.{IsQuantityIn}
use Rattle.choreo_show.specs.Name.{is_name}
use Rattle.choreo_lines.specs.FirstWord.{keyword_of}
use Rattle.choreo_lines.specs.Table.{row_of, has_count, act_of, act_places}
use Rattle.choreo_lines.specs.Values.{act_fields, fields_of, keyword_in}
use Rattle.choreo_lines.specs.declared.table.Form.{Form}
use Rattle.choreo_lines.specs.declared.table.Form.TheVariants.{Whole, Units}
use Rattle.choreo_lines.specs.declared.table.Want.{Want}
use Rattle.choreo_lines.specs.declared.table.Want.TheVariants as want
use Rattle.choreo_lines.specs.declared.table.Value.{Value}
use Rattle.choreo_lines.specs.declared.table.Value.TheVariants.{Name as Named, Mirror as Mirrored, Smooth, Ccw, Number}
use Rattle.choreo_lines.specs.declared.line.Place.{Place}
use Rattle.choreo_lines.specs.declared.line.Entry.{Entry}
use Rattle.choreo_lines.specs.declared.line.Entry.TheVariants as entry
use Rattle.choreo_show.specs.declared.parts.Act.{Act}
use Rattle.choreo_show.specs.declared.parts.Mirror.TheVariants as mirror
pub use Rattle.choreo_lines.specs.Table.{Word, word, may_stand}

-- The words of a line, and the values that they are.

-- a word, in a place that wants this, is this value in a text of this form
abbrev pub Holds : Form → Want → Word → Value → Type 0
Holds form want.Name w (Named n) = IsTrue (is_name w) × (n.items ≡ w)
Holds form want.Mirror w (Mirrored mirror.None) = w ≡ codes "none"
Holds form want.Mirror w (Mirrored mirror.X) = w ≡ codes "x"
Holds form want.Mirror w (Mirrored mirror.Y) = w ≡ codes "y"
Holds form want.Manner w (Smooth false) = w ≡ codes "line"
Holds form want.Manner w (Smooth true) = w ≡ codes "move"
Holds form want.Sense w (Ccw false) = w ≡ codes "cw"
Holds form want.Sense w (Ccw true) = w ≡ codes "ccw"
Holds form (want.Number low high) w (Number v) = IsNumber low high w v
Holds Whole (want.Quantity counts low high) w (Number v) = IsNumber low high w v
Holds Units (want.Quantity counts low high) w (Number v) = IsQuantityIn counts low high w v
Holds form wanted w v = ⊥

-- words, in places that want these, are these values, one by one; after the last place stand names
abbrev pub AllHold : Form → List Want → List Word → List Value → Type 0
AllHold form [] [] [] = Unit {0}
AllHold form [] (w ∷ ws) (v ∷ vs) = Holds form want.Name w v × AllHold form [] ws vs
AllHold form (wanted ∷ wants) (w ∷ ws) (v ∷ vs) = Holds form wanted w v × AllHold form wants ws vs
AllHold form wants ws vs = ⊥

-- the words say this act: its own word, and then its values
abbrev pub SaysAct : Form → List Word → Act → Type 0
SaysAct form [] a = ⊥
SaysAct form (w ∷ ws) a =
    (act_of w ≡ Some (act_fields a).0) × AllHold form (act_places (act_fields a).0) ws (act_fields a).1

-- The words say this entry: after its first word stand as many as the row of that word takes, and they are its values.
-- An act line is the name of a drone, and an act.
abbrev pub Says : Form → List Word → Entry → Type 0
Says form [] e = ⊥
Says form (w ∷ ws) (entry.One name a) = Holds form want.Name w (Named name) × SaysAct form ws a
Says form (w ∷ ws) e =
    (keyword_of w ≡ keyword_in e)
    × IsTrue (has_count (row_of (keyword_in e)) (length ws))
    × AllHold form (row_of (keyword_in e)).places ws (fields_of e)

-- which entry may stand at a place
abbrev pub may_say : Place → Entry → Bool
may_say place e = may_stand place (keyword_in e)
