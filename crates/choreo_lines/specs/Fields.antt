-- What the words of a line say by the table, or what is wrong with them: its places are read from the left.
use Rattle.std.specs.Prelude.{◌≡◌, Bool, true, false, List, [], ◌∷◌, length, drop, ◌==◌, nat_le, Option, Some, None}
use Rattle.std.specs.Prelude.{Result, Ok, Err, ℤ, bytes_eq, codes, if◌then◌else◌}
use Rattle.text_lines.specs.Numbers.{number_in as number_read}
use Rattle.choreo_lines.specs.Quantities.{quantity_in as quantity_read}
use Rattle.choreo_lines.specs.declared.unit.Counts.{Counts}
use Rattle.text_lines.specs.declared.number.NumberFault.{NumberFault}
use Rattle.text_lines.specs.declared.number.NumberFault.TheVariants.{NotANumber, OutOfRange}
use Rattle.choreo_show.specs.Name.{Name, is_name}
use Rattle.choreo_lines.specs.FirstWord.{keyword_of}
use Rattle.choreo_lines.specs.declared.table.Form.{Form}
use Rattle.choreo_lines.specs.declared.table.Form.TheVariants.{Whole, Units}
use Rattle.choreo_lines.specs.declared.table.Want.{Want}
use Rattle.choreo_lines.specs.declared.table.Want.TheVariants as want
use Rattle.choreo_lines.specs.declared.table.Value.{Value}
use Rattle.choreo_lines.specs.declared.table.Value.TheVariants.{Name as Named, Mirror as Mirrored, Smooth, Ccw, Number}
use Rattle.choreo_lines.specs.declared.table.ActWord.{ActWord}
use Rattle.choreo_lines.specs.declared.line.LineKind.{LineKind}
use Rattle.choreo_lines.specs.declared.line.LineKind.TheVariants as kind
use Rattle.choreo_lines.specs.declared.line.LineError.{LineError}
use Rattle.choreo_lines.specs.declared.line.LineError.TheVariants as failing
use Rattle.choreo_lines.specs.declared.line.Keyword.{Keyword}
use Rattle.choreo_lines.specs.declared.line.Keyword.TheVariants as first
use Rattle.choreo_lines.specs.declared.line.Place.{Place}
use Rattle.choreo_lines.specs.declared.line.Entry.{Entry}
use Rattle.choreo_lines.specs.declared.line.Entry.TheVariants as entry
use Rattle.choreo_show.specs.declared.parts.Act.{Act}
use Rattle.choreo_show.specs.declared.parts.Mirror.{Mirror}
use Rattle.choreo_show.specs.declared.parts.Mirror.TheVariants as mirror
use Rattle.choreo_lines.specs.Table.{Word, word, row_of, has_count, act_of, act_places, may_stand, as_read}
pub use Rattle.choreo_lines.specs.Values.{number_at, natural_at, name_at, mirror_at, smooth_at, ccw_at, point_at}
pub use Rattle.choreo_lines.specs.Values.{triple_at, act_with, entry_with}

-- a step, and then the next with what it gave, or the first fault
infixl 10 ◌>>=◌
abbrev pub ◌>>=◌ : {A B : Type 0} → Result A LineKind → (A → Result B LineKind) → Result B LineKind
(Ok x) >>= f = f x
(Err e) >>= f = Err e

-- what a function returned is what reading gives, unless memory ran out
abbrev pub Fails : {A : Type 0} → LineError → Result A LineKind → Type 0
Fails (failing.Kind k) read = read ≡ Err k
Fails failing.Memory read = Unit {0}

-- what a function returned is what reading gives, unless memory ran out
abbrev pub Gives : {A : Type 0} → Result A LineError → Result A LineKind → Type 0
Gives (Ok x) read = read ≡ Ok x
Gives (Err e) read = Fails e read

-- a refusal names what is wrong with the line, and an entry comes only where nothing is
abbrev pub KindGives : {A : Type 0} → Result A LineError → Option LineKind → Type 0
KindGives (Ok x) found = found ≡ None
KindGives (Err (failing.Kind k)) found = found ≡ Some k
KindGives (Err failing.Memory) found = Unit {0}

-- A word in its place.

-- a word in the place of a name
abbrev pub name_in : Word → Result Name LineKind
name_in w = if is_name w then Ok (record { items = w }) else Err kind.BadName

-- what is wrong with a line that has no number, or one out of range, in the place of a number
abbrev pub number_kind : NumberFault → LineKind
number_kind NotANumber = kind.BadNumber
number_kind OutOfRange = kind.Range

-- a number that was read, or what is wrong with it
abbrev pub judged : Result ℤ NumberFault → Result ℤ LineKind
judged (Ok value) = Ok value
judged (Err fault) = Err (number_kind fault)

-- a word in the place of a number
abbrev pub number_in : ℤ → ℤ → Word → Result ℤ LineKind
number_in low high w = judged (number_read low high w)

-- a word in the place of a length, a time or an angle, as the form of the text writes it
abbrev pub quantity_in : Form → Counts → ℤ → ℤ → Word → Result ℤ LineKind
quantity_in Whole counts low high w = number_in low high w
quantity_in Units counts low high w = judged (quantity_read counts low high w)

-- a word in the place of a mirror
abbrev pub mirror_in : Word → Result Mirror LineKind
mirror_in w =
    if bytes_eq w (codes "none") then Ok mirror.None else
    if bytes_eq w (codes "x") then Ok mirror.X else
    if bytes_eq w (codes "y") then Ok mirror.Y else Err kind.BadWord

-- a word in the place of a manner: whether a way goes from rest to rest
abbrev pub smooth_in : Word → Result Bool LineKind
smooth_in w =
    if bytes_eq w (codes "line") then Ok false else
    if bytes_eq w (codes "move") then Ok true else Err kind.BadWord

-- a word in the place of a sense: whether an arc goes counter-clockwise
abbrev pub ccw_in : Word → Result Bool LineKind
ccw_in w =
    if bytes_eq w (codes "ccw") then Ok true else
    if bytes_eq w (codes "cw") then Ok false else Err kind.BadWord

-- a word where this is wanted
abbrev pub value_in : Form → Want → Word → Result Value LineKind
value_in form want.Name w = name_in w >>= (λ n. Ok (Named n))
value_in form want.Mirror w = mirror_in w >>= (λ m. Ok (Mirrored m))
value_in form want.Manner w = smooth_in w >>= (λ s. Ok (Smooth s))
value_in form want.Sense w = ccw_in w >>= (λ c. Ok (Ccw c))
value_in form (want.Number low high) w = number_in low high w >>= (λ v. Ok (Number v))
value_in form (want.Quantity counts low high) w = quantity_in form counts low high w >>= (λ v. Ok (Number v))

-- words where these are wanted, from the left; there are at least as many
unfoldable pub values_in : Form → List Want → List Word → Result (List Value) LineKind
values_in form [] ws = Ok []
values_in form (wanted ∷ more) ws =
    value_in form wanted (word ws 0) >>= (λ v. values_in form more (drop 1 ws) >>= (λ vs. Ok (v ∷ vs)))

-- names, from the left
unfoldable pub names_in : List Word → Result (List Name) LineKind
names_in [] = Ok []
names_in (w ∷ ws) = name_in w >>= (λ n. names_in ws >>= (λ ns. Ok (n ∷ ns)))

-- A whole line.

-- the words after the word of an act: their number, and then they
abbrev pub act_by : Form → Option ActWord → List Word → Result Act LineKind
act_by form None ws = Err kind.BadWord
act_by form (Some a) ws =
    if length ws == length (act_places a)
    then values_in form (act_places a) ws >>= (λ vs. Ok (act_with a vs))
    else Err kind.BadCount

-- an act, its own word first
unfoldable pub act_in : Form → List Word → Result Act LineKind
act_in form ws = act_by form (act_of (word ws 0)) (drop 1 ws)

-- an act line, with all its words: its name, that it has an act, and the act
unfoldable pub act_line : Form → List Word → Result Entry LineKind
act_line form ws = do
  n ← name_in (word ws 0)
  a ← if nat_le 2 (length ws) then act_in form (drop 1 ws) else Err kind.BadCount
  Ok (entry.One n a)

-- the words after the first of a line by its row: their number, those in its places, and the names
unfoldable pub row_line : Form → Keyword → List Word → Result Entry LineKind
row_line form k ws =
    if has_count (row_of k) (length ws)
    then values_in form (row_of k).places ws
    >>= (λ vs. names_in (drop (length (row_of k).places) ws) >>= (λ ns. Ok (entry_with k vs ns)))
    else Err kind.BadCount

-- all words of a line, by its first word as it is read here
abbrev pub line_in : Form → Keyword → List Word → Result Entry LineKind
line_in form first.Other ws = act_line form ws
line_in form k ws = row_line form k (drop 1 ws)

-- the same, where a line with this first word may stand
abbrev pub line_at : Form → Place → Keyword → List Word → Result Entry LineKind
line_at form place k ws = if may_stand place k then line_in form k ws else Err kind.BadWord

-- what the words of a line say at a place
abbrev pub entry_of : Form → Place → List Word → Result Entry LineKind
entry_of form place ws = line_at form place (as_read place (keyword_of (word ws 0))) ws

-- what is wrong, where something is
abbrev pub kind_of : {A : Type 0} → Result A LineKind → Option LineKind
kind_of (Ok x) = None
kind_of (Err k) = Some k

-- what is wrong with the words of a line, where it stands
abbrev pub kind_in : Form → Place → List Word → Option LineKind
kind_in form place ws = kind_of (entry_of form place ws)

-- the first of two judgements that finds something
abbrev pub or_else : Option LineKind → Option LineKind → Option LineKind
or_else (Some k) later = Some k
or_else None later = later
