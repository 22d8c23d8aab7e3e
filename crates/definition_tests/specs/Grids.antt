-- What the definition of the faults of a show's names and cues says of small shows.
use Rattle.std.specs.Prelude.{◌≡◌, ℕ, zero, suc, ◌+◌, pos, true, List, [], ◌∷◌, map, Some, None, codes}
use Rattle.choreo_show.specs.declared.parts.Act.TheVariants as act
use Rattle.choreo_show.specs.declared.parts.Mirror.TheVariants as mirror
use Rattle.choreo_show.specs.Plain as plain
use Rattle.choreo_show.specs.Plain.{Body, PlainFigure, PlainShow}
use Rattle.choreo_show.specs.declared.show.ActLine.{ActLine}
use Rattle.choreo_show.specs.declared.show.ActLine.TheVariants as on
use Rattle.choreo_show.specs.declared.show.DroneLine.{DroneLine}
use Rattle.choreo_show.specs.declared.show.Formation.{Formation}
use Rattle.cue_grid.specs.Faults.{grid_fault}
use Rattle.cue_grid.specs.declared.grid.GridFault.TheVariants as fault
use Rattle.definition_tests.specs.Ranges.{at}
use Rattle.definition_tests.specs.Shapes.{called}

-- a drone, or a place, of this name on this line
abbrev pub on_line : ℕ → List ℕ → DroneLine
on_line line name = record { line = line; name = called name; at = at (pos 0) (pos 0) (pos 0) (pos 0) }

-- this many drones with names of their own, from this line on
abbrev pub crowd : ℕ → ℕ → List DroneLine
crowd zero line = []
crowd (suc n) line = on_line line (line ∷ []) ∷ crowd n (line + 1)

-- a show of drones, formations, figures and blocks
abbrev pub show : List DroneLine → List Formation → List PlainFigure → Body → PlainShow
show drones formations figures body = record {
  settings = record { memory_id = 2; offset = 0; trajectory_id = 0; r = 120; h = 300; stray = 0; late = 0 };
  drones = drones;
  formations = formations;
  figures = figures;
  body = body;
}

-- drones `a` and `b` in lines 2 and 3
abbrev pub two : List DroneLine
two = on_line 2 (codes "a") ∷ on_line 3 (codes "b") ∷ []

-- a cue in line 20 with these lines
abbrev pub cue : List ActLine → Body
cue acts = plain.Cue 20 10 acts plain.Done

-- on this line a drone holds
abbrev pub holds : ℕ → List ℕ → ActLine
holds line name = on.One line (called name) act.Hold

-- formation `f` in line 5, with these places
abbrev pub formed : List DroneLine → List Formation
formed places = record { line = 5; name = called (codes "f"); places = places } ∷ []

-- figure `g` in line 10, of these roles, with a cue in which role p holds
abbrev pub figured : List (List ℕ) → List PlainFigure
figured roles = record {
  line = 10;
  name = called (codes "g");
  roles = map called roles;
  body = plain.Cue 11 10 (holds 12 (codes "p") ∷ []) plain.Done;
} ∷ []

-- in line 20 these drones perform it
abbrev pub performs : List (List ℕ) → Body
performs drones =
    plain.Perform 20 (called (codes "g"))
    (record { mirror = mirror.None; turns = 0; dx = pos 0; dy = pos 0; dz = pos 0 }) (map called drones) plain.Done

-- A show has 1 to 32 drones, and 1 to 1,000 cues.
pub record CountRows : Type 0 where
  pub fits : grid_fault (show two [] [] (cue [])) ≡ None
  pub nobody : grid_fault (show [] [] [] (cue [])) ≡ Some (fault.NoDrone 1)
  pub many : grid_fault (show (crowd 32 2) [] [] (cue [])) ≡ None
  pub too_many : grid_fault (show (crowd 33 2) [] [] (cue [])) ≡ Some (fault.TooManyDrones 34)
  pub nothing : grid_fault (show two [] [] plain.Done) ≡ Some (fault.NoCue 1)
  pub thousand : grid_fault (show two [] [] (plain.Repeat 19 1000 (cue []) plain.Done)) ≡ None
  pub thousand_and_one : grid_fault (show two [] [] (plain.Repeat 19 1000 (cue []) (plain.Cue 22 10 [] plain.Done)))
      ≡ Some (fault.TooManyCues 22)
  pub performed : grid_fault (show two [] (figured (codes "p" ∷ []))
      (plain.Repeat 19 1001 (performs (codes "a" ∷ [])) plain.Done)) ≡ Some (fault.TooManyCues 19)

-- Names stand once, where they have to, and are known. Of two faults the one of the earlier line counts.
pub record NamingRows : Type 0 where
  pub doubled : grid_fault (show (on_line 2 (codes "a") ∷ on_line 3 (codes "b") ∷ on_line 4 (codes "a") ∷ []) [] []
      (cue [])) ≡ Some (fault.DoubleName 4)
  pub holding : grid_fault (show two [] [] (cue (holds 21 (codes "b") ∷ []))) ≡ None
  pub unknown : grid_fault (show two [] [] (cue (holds 21 (codes "c") ∷ []))) ≡ Some (fault.UnknownName 21)
  pub twice : grid_fault (show two [] [] (cue (holds 21 (codes "a") ∷ holds 22 (codes "a") ∷ [])))
      ≡ Some (fault.DoubleAct 22)
  pub formation : grid_fault (show two (formed two) [] (cue (on.Form 21 (called (codes "f")) true ∷ []))) ≡ None
  pub no_formation : grid_fault (show two [] [] (cue (on.Form 21 (called (codes "f")) true ∷ [])))
      ≡ Some (fault.UnknownName 21)
  pub formed_twice : grid_fault (show two (formed two) []
      (cue (holds 21 (codes "b") ∷ on.Form 22 (called (codes "f")) true ∷ []))) ≡ Some (fault.DoubleAct 22)
  pub place_of_nobody : grid_fault (show two (formed (on_line 6 (codes "c") ∷ [])) [] (cue []))
      ≡ Some (fault.UnknownName 6)
  pub two_places : grid_fault (show two (formed (on_line 6 (codes "a") ∷ on_line 7 (codes "a") ∷ [])) [] (cue []))
      ≡ Some (fault.DoubleAct 7)
  pub figure : grid_fault (show two [] (figured (codes "p" ∷ codes "q" ∷ [])) (performs (codes "b" ∷ codes "a" ∷ [])))
      ≡ None
  pub doubled_role : grid_fault (show two [] (figured (codes "p" ∷ codes "p" ∷ []))
      (performs (codes "b" ∷ codes "a" ∷ []))) ≡ Some (fault.DoubleName 10)
  pub unknown_role : grid_fault (show two [] (figured (codes "a" ∷ [])) (performs (codes "b" ∷ [])))
      ≡ Some (fault.UnknownName 12)
  pub no_figure : grid_fault (show two [] [] (performs (codes "b" ∷ []))) ≡ Some (fault.UnknownName 20)
  pub one_too_few : grid_fault (show two [] (figured (codes "p" ∷ codes "q" ∷ [])) (performs (codes "b" ∷ [])))
      ≡ Some (fault.RoleCount 20)
  pub by_nobody : grid_fault (show two [] (figured (codes "p" ∷ [])) (performs (codes "c" ∷ [])))
      ≡ Some (fault.UnknownName 20)
  pub two_roles : grid_fault (show two [] (figured (codes "p" ∷ codes "q" ∷ []))
      (performs (codes "a" ∷ codes "a" ∷ []))) ≡ Some (fault.DoubleAct 20)
  pub earlier : grid_fault (show (on_line 2 (codes "a") ∷ on_line 8 (codes "a") ∷ [])
      (formed (on_line 6 (codes "c") ∷ [])) [] (cue [])) ≡ Some (fault.UnknownName 6)
