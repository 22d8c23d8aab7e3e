-- The cues of a show: its repeats written out, and its figures played by drones.
use Rattle.std.specs.Prelude.{ℕ, zero, suc, List, [], ◌∷◌, ◌++◌, map, Option, Some, None, if◌then◌else◌}
use Rattle.choreo_show.specs.Plain as plain
use Rattle.choreo_show.specs.Name.{Name}
use Rattle.choreo_show.specs.Plain.{Body, PlainFigure, PlainShow}
use Rattle.choreo_show.specs.declared.show.ActLine.{ActLine}
use Rattle.choreo_show.specs.declared.show.ActLine.TheVariants as on
use Rattle.choreo_show.specs.declared.parts.Act.TheVariants as act
use Rattle.choreo_show.specs.declared.show.Formation.{Formation}
use Rattle.choreo_show.specs.declared.parts.Frame.{Frame}
use Rattle.cue_grid.specs.Frames.{no_frame}
use Rattle.cue_grid.specs.Names.{same_name, formation_named, figure_named, place_named, places_in}
use Rattle.cue_grid.specs.declared.grid.Job.{Job}
use Rattle.cue_grid.specs.declared.grid.Cue.{Cue}
use Rattle.cue_grid.specs.declared.grid.Grid.{Grid}

-- how blocks are played: in which frame, and which drones have which roles
pub record Playing : Type 0 where
  pub frame : Frame
  pub roles : List Name
  pub drones : List Name

-- who is meant by a name: the first role of this name is its drone, and a name that is no role is itself
abbrev pub player : List Name → List Name → Name → Name
player (r ∷ roles) (d ∷ drones) n = if same_name n r then d else player roles drones n
player _ _ n = n

-- the job of a drone, by the first line that gives it an act, its own or the way to its place in a formation; without
-- one it holds
abbrev pub job_of : List Formation → Playing → ℕ → List ActLine → Name → Job
job_of fs p cue_line [] drone = record { line = cue_line; frame = p.frame; act = act.Hold }
job_of fs p cue_line (on.One line name a ∷ rest) drone =
    if same_name drone (player p.roles p.drones name)
    then record { line = line; frame = p.frame; act = a }
    else job_of fs p cue_line rest drone
job_of fs p cue_line (on.Form line formation smooth ∷ rest) drone =
    elim (place_named (places_in (formation_named fs formation)) drone) [
      | Some at ↦ record { line = line; frame = p.frame; act = if smooth then act.Move at else act.Line at }
      | None ↦ job_of fs p cue_line rest drone
    ]

-- a cue, with one job for each drone of the show, in their order
abbrev pub cue_of : PlainShow → Playing → ℕ → ℕ → List ActLine → Cue
cue_of s p line ms acts = record { ms = ms; jobs = map (λ d. job_of s.formations p line acts d.name) s.drones }

-- a list n times, one after the other
abbrev pub times_over : {A : Type 0} → ℕ → List A → List A
times_over zero xs = []
times_over (suc n) xs = xs ++ times_over n xs

-- the cues of blocks: a cue gives itself, a repeat gives its body's cues as often as it says, and a perform gives what
-- is handed in for its figure, frame and drones
abbrev pub cues_in : PlainShow → Playing → (Name → Frame → List Name → List Cue) → Body → List Cue
cues_in s p performed plain.Done = []
cues_in s p performed (plain.Cue line ms acts rest) = cue_of s p line ms acts ∷ cues_in s p performed rest
cues_in s p performed (plain.Repeat line times inside rest) =
    times_over times (cues_in s p performed inside) ++ cues_in s p performed rest
cues_in s p performed (plain.Perform line figure frame drones rest) =
    performed figure frame drones ++ cues_in s p performed rest

-- a perform gives the cues of its figure's body, with the roles replaced by the drones and in the frame; no figure
-- performs another
abbrev pub cues_of_figure : PlainShow → Option PlainFigure → Frame → List Name → List Cue
cues_of_figure s None frame drones = []
cues_of_figure s (Some f) frame drones =
    cues_in s (record { frame = frame; roles = f.roles; drones = drones }) (λ figure frame drones. []) f.body

-- the cues of a show: its blocks are played as they are written, without roles, and a perform is of the first figure of
-- its name
abbrev pub cues_of : PlainShow → List Cue
cues_of s =
    cues_in s (record { frame = no_frame; roles = []; drones = [] })
    (λ figure frame drones. cues_of_figure s (figure_named s.figures figure) frame drones) s.body

-- the starts of the drones, and the cues
abbrev pub grid_of : PlainShow → Grid
grid_of s = record { starts = s.drones; cues = cues_of s }
