-- What the definition of a show's text says of its two forms.
use Rattle.std.specs.Prelude.{◌≡◌, ℕ, pos, List, [], ◌∷◌, ◌++◌, Some, codes}
use Rattle.choreo_lines.specs.declared.line.LineKind.TheVariants as kind
use Rattle.choreo_show.specs.declared.parts.Act.TheVariants as act
use Rattle.choreo_show.specs.declared.show.ActLine.TheVariants as on
use Rattle.choreo_show.specs.declared.show.DroneLine.{DroneLine}
use Rattle.choreo_show.specs.Plain as plain
use Rattle.choreo_show.specs.Plain.{PlainShow}
use Rattle.choreo_reader.specs.Context.{fault}
use Rattle.choreo_reader.specs.Grammar.{StandsFor}
use Rattle.choreo_reader.specs.Text.{fault_at}
use Rattle.definition_tests.specs.Near.{spot}
use Rattle.definition_tests.specs.Stands.{line_of, nobody}

-- a drone moves a metre on x in two seconds, in micrometres and milliseconds
abbrev pub whole_text : List ℕ
whole_text =
    line_of (codes "choreo 1") ++ line_of (codes "drone solo 0 0 1000000 0") ++ line_of (codes "cue 2000")
    ++ line_of (codes "solo move 1000000 0 1000000 0") ++ line_of (codes "end")

-- the same with units
abbrev pub unit_text : List ℕ
unit_text =
    line_of (codes "choreo 2") ++ line_of (codes "drone solo 0 0 1m 0") ++ line_of (codes "cue 2s")
    ++ line_of (codes "solo move 1m 0 100cm 0deg") ++ line_of (codes "end")

-- the show of both
abbrev pub the_drone : DroneLine
the_drone = record { line = 2; name = record { items = codes "solo" }; at = spot (pos 0) (pos 0) (pos 1000000) (pos 0) }

abbrev pub moved : PlainShow
moved = record (nobody 0) {
  drones = the_drone ∷ [];
  body =
      plain.Cue 3 2000
      (on.One 4 (record { items = codes "solo" }) (act.Move (spot (pos 1000000) (pos 0) (pos 1000000) (pos 0))) ∷ [])
      plain.Done;
}

-- a drone of this height in a text with this header
abbrev pub at_height : List ℕ → List ℕ → List ℕ
at_height header height = line_of header ++ line_of (codes "drone solo 0 0 " ++ height ++ codes " 0")

-- Both texts are those of the show. A length without its unit has no place in a text with units, nor has a unit in one
-- without, nor a part of a micrometre; `choreo 02` is no header.
pub record FormRows : Type 0 where
  pub whole : StandsFor whole_text moved
  pub units : StandsFor unit_text moved
  pub bare : (s : PlainShow) → StandsFor (at_height (codes "choreo 2") (codes "1000000")) s → ⊥
  pub bare_fault : fault (at_height (codes "choreo 2") (codes "1000000")) ≡ Some (fault_at 2 kind.BadNumber)
  pub early_unit : (s : PlainShow) → StandsFor (at_height (codes "choreo 1") (codes "1m")) s → ⊥
  pub finer : fault (at_height (codes "choreo 2") (codes "1.0000001m")) ≡ Some (fault_at 2 kind.BadNumber)
  pub farther : fault (at_height (codes "choreo 2") (codes "101m")) ≡ Some (fault_at 2 kind.Range)
  pub padded : (s : PlainShow) → StandsFor (line_of (codes "choreo 02")) s → ⊥
