-- Words of the private steps of unrolling: what one step finds, and what it hands to the next.
use Rattle.std.specs.Prelude.{ℕ, zero, suc, Bool, false, not, List, [], ◌∷◌, Option, Some, None, if◌then◌else◌}
use Rattle.choreo_show.specs.Name.{Name}
use Rattle.choreo_show.specs.declared.parts.Act.{Act}
use Rattle.choreo_show.specs.declared.parts.Frame.{Frame}
use Rattle.choreo_show.specs.declared.show.ActLine.{ActLine}
use Rattle.choreo_show.specs.declared.show.ActLine.TheVariants as on
use Rattle.choreo_show.specs.declared.show.DroneLine.{DroneLine}
use Rattle.choreo_show.specs.declared.show.Formation.{Formation}
use Rattle.cue_grid.specs.Cues.{Playing, player, cues_in, cues_of_figure}
use Rattle.cue_grid.specs.Frames.{no_frame}
use Rattle.cue_grid.specs.Names.{same_name, places_in, formation_named, place_named, figure_named}
use Rattle.cue_grid.specs.declared.grid.Cue.{Cue}
use Rattle.choreo_show.specs.declared.parts.Point.{Point}
use Rattle.choreo_show.specs.declared.parts.Act.TheVariants as act
use Rattle.choreo_show.specs.declared.show.ActLine.TheVariants as on
use Rattle.cue_grid.specs.declared.grid.Job.{Job}
use Rattle.choreo_show.specs.Plain as plain
use Rattle.choreo_show.specs.Plain.{Body, PlainShow}
use Rattle.cue_grid.specs.Faults.{drones_faults, formations_faults, figures_faults, show_faults, earlier_of, fault_if}
use Rattle.cue_grid.specs.declared.grid.GridFault.{GridFault}
use Rattle.cue_grid.specs.declared.grid.GridFault.TheVariants.{UnknownName, DoubleAct}

-- the first of some faults
abbrev pub first_of : List GridFault → Option GridFault
first_of [] = None
first_of (f ∷ fs) = Some f

-- the fault of a line that gives a name an act: whether the name may be there, and whether it has an act already
abbrev pub named_faults : ℕ → Bool → Bool → List GridFault
named_faults line known acted = fault_if (not known) (UnknownName line) (fault_if acted (DoubleAct line) [])

-- whether a line gives this name an act, and no other
abbrev pub gives : ActLine → Name → Bool
gives (on.One line name act) n = same_name name n
gives (on.Form line formation smooth) n = false

-- some lines without the first, where that gives this name an act
abbrev pub without : Name → List ActLine → List ActLine
without n [] = []
without n (a ∷ acts) = if gives a n then acts else a ∷ acts

-- the lines that are left where the first goes for each of these names, in their order, to which it gives an act
abbrev pub lines_after : List Name → List ActLine → List ActLine
lines_after [] acts = acts
lines_after (n ∷ ns) acts = lines_after ns (without n acts)

-- of the first faults of the four lists the one of the earliest line
abbrev pub name_fault : PlainShow → Option GridFault
name_fault s =
    earlier_of (first_of (drones_faults s))
    (earlier_of (first_of (formations_faults s))
    (earlier_of (first_of (figures_faults s)) (first_of (show_faults s))))

-- the line of the first block
abbrev pub line_in : Body → ℕ
line_in plain.Done = 0
line_in (plain.Cue line ms acts rest) = line
line_in (plain.Repeat line times inside rest) = line
line_in (plain.Perform line figure frame drones rest) = line

-- how the blocks of the show itself are played
abbrev pub as_written : Playing
as_written = record { frame = no_frame; roles = []; drones = [] }

-- no figure performs another
abbrev pub nothing_performed : Name → Frame → List Name → List Cue
nothing_performed figure frame drones = []

-- the cues of a figure's body
abbrev pub figure_cues : PlainShow → Playing → Body → List Cue
figure_cues s p b = cues_in s p nothing_performed b

-- those of a perform in a show
abbrev pub performed_cues : PlainShow → Name → Frame → List Name → List Cue
performed_cues s figure frame drones = cues_of_figure s (figure_named s.figures figure) frame drones

-- the way of a `form` line to a place
abbrev pub way_to : Bool → Point → Act
way_to smooth at = if smooth then act.Move at else act.Line at

abbrev pub way_if : Bool → Option Point → Option Act
way_if smooth None = None
way_if smooth (Some at) = Some (way_to smooth at)

abbrev pub act_if : Bool → Act → Option Act
act_if b a = if b then Some a else None

-- what a line gives a drone to do
abbrev pub act_by : List Formation → Playing → Name → ActLine → Option Act
act_by fs p drone (on.One line name a) = act_if (same_name drone (player p.roles p.drones name)) a
act_by fs p drone (on.Form line formation smooth) =
    way_if smooth (place_named (places_in (formation_named fs formation)) drone)

-- the number of an act line or a `form` line
abbrev pub act_line_number : ActLine → ℕ
act_line_number (on.One line name a) = line
act_line_number (on.Form line formation smooth) = line

abbrev pub job_or : Option Act → ℕ → Frame → Job → Job
job_or (Some a) line frame later = record { line = line; frame = frame; act = a }
job_or None line frame later = later

-- whether this name stands at a place of these
abbrev pub stands_at : List Name → Name → ℕ → Bool
stands_at [] n k = false
stands_at (m ∷ ms) n zero = same_name n m
stands_at (m ∷ ms) n (suc k) = stands_at ms n k

-- the jobs of drones, in which those that have an act by a line do it, and the others keep theirs
abbrev pub put_acts : (Name → Option Act) → ℕ → Frame → List DroneLine → List Job → List Job
put_acts act line frame [] js = js
put_acts act line frame (d ∷ ds) [] = []
put_acts act line frame (d ∷ ds) (j ∷ js) = job_or (act d.name) line frame j ∷ put_acts act line frame ds js

-- the same for what a line of a cue gives each drone to do
abbrev pub put_line_of : List Formation → Playing → ActLine → List DroneLine → List Job → List Job
put_line_of fs p a ds js = put_acts (λ n. act_by fs p n a) (act_line_number a) p.frame ds js
