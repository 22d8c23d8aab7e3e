-- The faults of names and cues, in the order in which they are judged: no drone, too many drones, the names by lines,
-- no cue, too many cues.
use Rattle.std.specs.Prelude.{ℕ, Bool, true, false, not, ◌||◌, List, [], ◌∷◌, ◌++◌, length, drop, Option, Some, None}
use Rattle.std.specs.Prelude.{◌==◌, nat_lt, if◌then◌else◌}
use Rattle.whole_numbers.specs.Limits.{most_drones}
use Rattle.choreo_show.specs.Plain as plain
use Rattle.choreo_show.specs.Name.{Name}
use Rattle.choreo_show.specs.Plain.{Body, PlainFigure, PlainShow}
use Rattle.choreo_show.specs.declared.show.ActLine.{ActLine}
use Rattle.choreo_show.specs.declared.show.ActLine.TheVariants as on
use Rattle.choreo_show.specs.declared.show.DroneLine.{DroneLine}
use Rattle.choreo_show.specs.declared.show.Formation.{Formation}
use Rattle.cue_grid.specs.Names.{has_name, has_each, has_some, has_double, names_of, formation_named, figure_named}
use Rattle.cue_grid.specs.Names.{places_in}
use Rattle.cue_grid.specs.Counts.{over_at}
use Rattle.cue_grid.specs.declared.grid.GridFault.{GridFault}
use Rattle.cue_grid.specs.declared.grid.GridFault.TheVariants.{NoDrone, TooManyDrones, DoubleName, UnknownName}
use Rattle.cue_grid.specs.declared.grid.GridFault.TheVariants.{DoubleAct, RoleCount, NoCue, TooManyCues}

-- the line that a fault names
abbrev pub line_of : GridFault → ℕ
line_of (NoDrone line) = line
line_of (TooManyDrones line) = line
line_of (DoubleName line) = line
line_of (UnknownName line) = line
line_of (DoubleAct line) = line
line_of (RoleCount line) = line
line_of (NoCue line) = line
line_of (TooManyCues line) = line

-- of the faults of one line the first counts
abbrev pub fault_if : Bool → GridFault → List GridFault → List GridFault
fault_if true f others = f ∷ []
fault_if false f others = others

-- Each line has at most one fault: the first in the order for that line.

-- the lines of the drones, after drones of these names
abbrev pub drone_faults : List Name → List DroneLine → List GridFault
drone_faults earlier [] = []
drone_faults earlier (d ∷ ds) =
    fault_if (has_name earlier d.name) (DoubleName d.line) [] ++ drone_faults (earlier ++ d.name ∷ []) ds

-- the `at` lines of a formation, after lines with these names
abbrev pub place_faults : List Name → List Name → List DroneLine → List GridFault
place_faults drones earlier [] = []
place_faults drones earlier (p ∷ ps) =
    fault_if (not (has_name drones p.name)) (UnknownName p.line)
    (fault_if (has_name earlier p.name) (DoubleAct p.line) [])
    ++ place_faults drones (earlier ++ p.name ∷ []) ps

-- a formation, after formations of these names
abbrev pub one_formation_faults : List Name → List Name → Formation → List GridFault
one_formation_faults drones earlier f =
    fault_if (has_name earlier f.name) (DoubleName f.line) [] ++ place_faults drones [] f.places

-- the formations, after formations of these names
abbrev pub formation_faults : List Name → List Name → List Formation → List GridFault
formation_faults drones earlier [] = []
formation_faults drones earlier (f ∷ fs) =
    one_formation_faults drones earlier f ++ formation_faults drones (earlier ++ f.name ∷ []) fs

-- a `form` line: the formation must be one, and none of its drones may have an act already
abbrev pub form_faults : ℕ → List Name → Option Formation → List GridFault
form_faults line acted None = UnknownName line ∷ []
form_faults line acted (Some f) = fault_if (has_some acted (names_of f.places)) (DoubleAct line) []

-- one line of a cue: who may be named there, which formations there are, and who has an act already
abbrev pub act_line_faults : List Name → List Formation → List Name → ActLine → List GridFault
act_line_faults known fs acted (on.One line name a) =
    fault_if (not (has_name known name)) (UnknownName line) (fault_if (has_name acted name) (DoubleAct line) [])
act_line_faults known fs acted (on.Form line formation smooth) = form_faults line acted (formation_named fs formation)

-- who has an act by a line
abbrev pub acted_by : List Formation → ActLine → List Name
acted_by fs (on.One line name a) = name ∷ []
acted_by fs (on.Form line formation smooth) = names_of (places_in (formation_named fs formation))

-- the lines of a cue, after lines that gave these names an act
abbrev pub act_faults : List Name → List Formation → List Name → List ActLine → List GridFault
act_faults known fs acted [] = []
act_faults known fs acted (a ∷ rest) =
    act_line_faults known fs acted a ++ act_faults known fs (acted ++ acted_by fs a) rest

-- a perform: its figure must be one, each role has a drone, each drone is one of the show, and none plays two roles
abbrev pub perform_faults : List Name → ℕ → Option PlainFigure → List Name → List GridFault
perform_faults drones line None named = UnknownName line ∷ []
perform_faults drones line (Some f) named =
    fault_if (not (length named == length f.roles)) (RoleCount line)
    (fault_if (not (has_each drones named)) (UnknownName line)
    (fault_if (has_double named) (DoubleAct line) []))

-- the blocks of a figure's body or of the show's: who may be named in an act line there
abbrev pub body_faults : PlainShow → List Name → Body → List GridFault
body_faults s known plain.Done = []
body_faults s known (plain.Cue line ms acts rest) = act_faults known s.formations [] acts ++ body_faults s known rest
body_faults s known (plain.Repeat line times inside rest) = body_faults s known inside ++ body_faults s known rest
body_faults s known (plain.Perform line figure frame drones rest) =
    perform_faults (names_of s.drones) line (figure_named s.figures figure) drones ++ body_faults s known rest

-- a figure, after figures of these names
abbrev pub one_figure_faults : PlainShow → List Name → PlainFigure → List GridFault
one_figure_faults s earlier f =
    fault_if (has_name earlier f.name || has_double f.roles) (DoubleName f.line) [] ++ body_faults s f.roles f.body

-- the figures, after figures of these names
abbrev pub figure_faults : PlainShow → List Name → List PlainFigure → List GridFault
figure_faults s earlier [] = []
figure_faults s earlier (f ∷ fs) = one_figure_faults s earlier f ++ figure_faults s (earlier ++ f.name ∷ []) fs

abbrev pub drones_faults : PlainShow → List GridFault
drones_faults s = drone_faults [] s.drones

abbrev pub formations_faults : PlainShow → List GridFault
formations_faults s = formation_faults (names_of s.drones) [] s.formations

abbrev pub figures_faults : PlainShow → List GridFault
figures_faults s = figure_faults s [] s.figures

abbrev pub show_faults : PlainShow → List GridFault
show_faults s = body_faults s (names_of s.drones) s.body

-- the faults of names, list by list
abbrev pub name_faults : PlainShow → List GridFault
name_faults s = drones_faults s ++ (formations_faults s ++ (figures_faults s ++ show_faults s))

-- the one of the earlier line
abbrev pub earlier_of : Option GridFault → Option GridFault → Option GridFault
earlier_of None g = g
earlier_of (Some f) None = Some f
earlier_of (Some f) (Some g) = if nat_lt (line_of g) (line_of f) then Some g else Some f

-- the fault of the earliest line
abbrev pub earliest : List GridFault → Option GridFault
earliest [] = None
earliest (f ∷ fs) = earlier_of (Some f) (earliest fs)

-- a show without drones; the fault names line 1
abbrev pub no_drone : PlainShow → Option GridFault
no_drone s = if length s.drones == 0 then Some (NoDrone 1) else None

abbrev pub too_many : List DroneLine → Option GridFault
too_many [] = None
too_many (d ∷ ds) = Some (TooManyDrones d.line)

-- the line of the first drone beyond the limit
abbrev pub many_drones : PlainShow → Option GridFault
many_drones s = too_many (drop most_drones s.drones)

-- a show without blocks in its body; the fault names line 1
abbrev pub no_cue : Body → Option GridFault
no_cue plain.Done = Some (NoCue 1)
no_cue _ = None

abbrev pub many_cues : Option ℕ → Option GridFault
many_cues None = None
many_cues (Some line) = Some (TooManyCues line)

abbrev pub or_else : Option GridFault → Option GridFault → Option GridFault
or_else (Some f) later = Some f
or_else None later = later

-- the first fault of a show
abbrev pub grid_fault : PlainShow → Option GridFault
grid_fault s =
    or_else (no_drone s)
    (or_else (many_drones s)
    (or_else (earliest (name_faults s))
    (or_else (no_cue s.body)
    (many_cues (over_at s.figures 0 s.body)))))
