-- What the definitions of a show's text, of its cues and of its plan say of a show that has each line of the language.
use Rattle.std.specs.Prelude.{◌≡◌, ℕ, false, true, pos, negsuc, List, [], ◌∷◌, ◌++◌, codes}
use Rattle.traj_codec.specs.declared.traj.Traj.{Traj}
use Rattle.choreo_show.specs.Name.{Name}
use Rattle.choreo_show.specs.declared.parts.Act.TheVariants as act
use Rattle.choreo_show.specs.declared.parts.Ease.TheVariants as ease
use Rattle.choreo_show.specs.declared.parts.Frame.{Frame}
use Rattle.choreo_show.specs.declared.parts.Mirror.TheVariants as mirror
use Rattle.choreo_show.specs.declared.show.ActLine.{ActLine}
use Rattle.choreo_show.specs.declared.show.ActLine.TheVariants as on
use Rattle.choreo_show.specs.declared.show.Formation.{Formation}
use Rattle.choreo_show.specs.Plain as plain
use Rattle.choreo_show.specs.Plain.{PlainFigure, PlainShow}
use Rattle.choreo_reader.specs.Grammar.{StandsFor}
use Rattle.cue_grid.specs.declared.grid.Cue.{Cue}
use Rattle.cue_grid.specs.Cues.{cues_of, grid_of}
use Rattle.cue_grid.specs.Frames.{no_frame}
use Rattle.show_plan.specs.Texts.{plan_text}
use Rattle.definition_tests.specs.Flights.{flight}
use Rattle.definition_tests.specs.Near.{spot}
use Rattle.definition_tests.specs.Stands.{line_of}
use Rattle.definition_tests.specs.Stored.{settings}

abbrev pub named : List ℕ → Name
named bytes = record { items = bytes }

-- each line of the language, a comment, an empty line, and acts that come too late
abbrev pub whole_text : List ℕ
whole_text =
    line_of (codes "choreo 1") ++ line_of (codes "# each line") ++ line_of (codes "memory 3 16")
    ++ line_of (codes "trajectory 4") ++ line_of (codes "ellipsoid 100 200") ++ line_of (codes "stray 5")
    ++ line_of (codes "late 6") ++ line_of (codes "drone a 1 -2 3 4") ++ line_of (codes "drone b 0 0 0 0")
    ++ line_of (codes "formation f") ++ line_of (codes "at b 5 6 7 8") ++ line_of (codes "end")
    ++ line_of (codes "figure g r") ++ line_of (codes "cue 10") ++ line_of (codes "r turn 900")
    ++ line_of (codes "r line 1 2 3 4") ++ line_of (codes "r move 1 2 3 4") ++ line_of (codes "r arc ccw 1 2 3")
    ++ line_of (codes "r swing cw 1 2 3") ++ line_of (codes "r arc_in cw 1 2 3")
    ++ line_of (codes "r arc_out ccw 1 2 3") ++ line_of (codes "r curve 1 2 3 4 5 6 7 8 9 10")
    ++ line_of (codes "end") ++ line_of (codes "end") ++ line_of [] ++ line_of (codes "cue 20   # both")
    ++ line_of (codes "form f move") ++ line_of (codes "a hold") ++ line_of (codes "end")
    ++ line_of (codes "repeat 2") ++ line_of (codes "perform g x 1 9 0 0 a") ++ line_of (codes "end")

-- mirrored, a quarter turn, and 9 micrometres on x
abbrev pub frame : Frame
frame = record { mirror = mirror.X; turns = 1; dx = pos 9; dy = pos 0; dz = pos 0 }

-- the formation, with a place for one drone
abbrev pub the_formation : Formation
the_formation = record {
  line = 10;
  name = named (codes "f");
  places = record { line = 11; name = named (codes "b"); at = spot (pos 5) (pos 6) (pos 7) (pos 8) } ∷ [];
}

-- each act
abbrev pub acts : List ActLine
acts =
    on.One 15 (named (codes "r")) (act.Turn (pos 900))
    ∷ on.One 16 (named (codes "r")) (act.Line (spot (pos 1) (pos 2) (pos 3) (pos 4)))
    ∷ on.One 17 (named (codes "r")) (act.Move (spot (pos 1) (pos 2) (pos 3) (pos 4)))
    ∷ on.One 18 (named (codes "r")) (act.Arc true (pos 1) (pos 2) (pos 3))
    ∷ on.One 19 (named (codes "r")) (act.Eased ease.InOut false (pos 1) (pos 2) (pos 3))
    ∷ on.One 20 (named (codes "r")) (act.Eased ease.In false (pos 1) (pos 2) (pos 3))
    ∷ on.One 21 (named (codes "r")) (act.Eased ease.Out true (pos 1) (pos 2) (pos 3))
    ∷ on.One 22 (named (codes "r"))
    (act.Curve (pos 1 ∷ pos 2 ∷ pos 3 ∷ []) (pos 4 ∷ pos 5 ∷ pos 6 ∷ []) (spot (pos 7) (pos 8) (pos 9) (pos 10))) ∷ []

-- the figure, with each act in its cue
abbrev pub the_figure : PlainFigure
the_figure = record {
  line = 13;
  name = named (codes "g");
  roles = named (codes "r") ∷ [];
  body = plain.Cue 14 10 acts plain.Done;
}

-- the show of this text
abbrev pub whole : PlainShow
whole = record {
  settings = record { memory_id = 3; offset = 16; trajectory_id = 4; r = 100; h = 200; stray = 5; late = 6 };
  drones =
      record { line = 8; name = named (codes "a"); at = spot (pos 1) (negsuc 1) (pos 3) (pos 4) }
      ∷ record { line = 9; name = named (codes "b"); at = spot (pos 0) (pos 0) (pos 0) (pos 0) } ∷ [];
  formations = the_formation ∷ [];
  figures = the_figure ∷ [];
  body = plain.Cue 26 20 (on.Form 27 (named (codes "f")) true ∷ on.One 28 (named (codes "a")) act.Hold ∷ [])
      (plain.Repeat 30 2 (plain.Perform 31 (named (codes "g")) frame (named (codes "a") ∷ []) plain.Done) plain.Done);
}

-- The text is that of the show. So it is that of no other: not of one with another number, name, act or line.
pub record WholeRows : Type 0 where
  pub stands : StandsFor whole_text whole
  pub alone : (s : PlainShow) → StandsFor whole_text s → s ≡ whole

-- the first cue: drone b moves to its place in the formation
abbrev pub both : Cue
both = record {
  ms = 20;
  jobs = record { line = 28; frame = no_frame; act = act.Hold }
      ∷ record { line = 27; frame = no_frame; act = act.Move (spot (pos 5) (pos 6) (pos 7) (pos 8)) } ∷ [];
}

-- the cue of the figure, in its frame: drone a has the role, and does what the first line of it says
abbrev pub performed : Cue
performed = record {
  ms = 10;
  jobs = record { line = 15; frame = frame; act = act.Turn (pos 900) }
      ∷ record { line = 14; frame = frame; act = act.Hold } ∷ [];
}

-- The cues of the show: its first, and then the figure's twice.
pub record CueRows : Type 0 where
  pub cues : cues_of whole ≡ both ∷ performed ∷ performed ∷ []
  pub starts : (grid_of whole).starts ≡ whole.drones

-- the plan of one drone that flies this
abbrev pub plan_for : Traj → List ℕ
plan_for t = plan_text settings (named (codes "a") ∷ []) (t ∷ [])

-- The plan of a flight of ten millimetres, byte by byte, and of one of eleven, which differs in the flight's last
-- number alone. A drone without a trajectory has no lines.
pub record PlanRows : Type 0 where
  pub ten : plan_for (flight (pos 0) (pos 10)) ≡
      line_of (codes "plan 1") ++ line_of (codes "drone a bytes 16 pieces 1")
      ++ line_of (codes "data 00 00 00 00 00 00 00 00 01 0A 00 0A 00 00 00 00")
      ++ line_of (codes "write 4E 00 02 00 00 00 00 00 00 00 00 00 00 00 01 0A 00 0A 00 00 00 00")
      ++ line_of (codes "define 8C 06 00 01 01 02 00 00 00 01") ++ line_of (codes "start 8C 05 00 00 00 00 00 00 80 3F")
      ++ line_of (codes "end")
  pub eleven : plan_for (flight (pos 0) (pos 11)) ≡
      line_of (codes "plan 1") ++ line_of (codes "drone a bytes 16 pieces 1")
      ++ line_of (codes "data 00 00 00 00 00 00 00 00 01 0A 00 0B 00 00 00 00")
      ++ line_of (codes "write 4E 00 02 00 00 00 00 00 00 00 00 00 00 00 01 0A 00 0B 00 00 00 00")
      ++ line_of (codes "define 8C 06 00 01 01 02 00 00 00 01") ++ line_of (codes "start 8C 05 00 00 00 00 00 00 80 3F")
      ++ line_of (codes "end")
  pub nobody : plan_text settings (named (codes "a") ∷ []) [] ≡ line_of (codes "plan 1") ++ line_of (codes "end")
