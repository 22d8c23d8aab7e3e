-- Which shows are valid: those whose lines, names, numbers and counts are as the language lets them be.
use Rattle.std.specs.Prelude.{ℕ, ◌+◌, ◌==◌, if◌then◌else◌, ◌<◌, ◌≤◌, ℤ, pos, neg_ℤ, ◌≤ℤ◌, List, [], ◌∷◌, ◌++◌, map}
use Rattle.std.specs.Prelude.{length, IsTrue}
use Rattle.whole_numbers.specs.Limits.{most_drones}
use Rattle.choreo_show.specs.Name.{Name, is_name}
use Rattle.choreo_show.specs.Plain as plain
use Rattle.choreo_show.specs.Plain.{Body, PlainFigure, PlainShow, has_block, most_nested}
use Rattle.choreo_show.specs.Shape.{is_filled, depth, fits_figure}
use Rattle.choreo_show.specs.declared.parts.Act.{Act}
use Rattle.choreo_show.specs.declared.parts.Act.TheVariants as act
use Rattle.choreo_show.specs.declared.parts.Point.{Point}
use Rattle.choreo_show.specs.declared.parts.Frame.{Frame}
use Rattle.choreo_show.specs.declared.show.ActLine.{ActLine}
use Rattle.choreo_show.specs.declared.show.ActLine.TheVariants as on
use Rattle.choreo_show.specs.declared.show.DroneLine.{DroneLine}
use Rattle.choreo_show.specs.declared.show.Formation.{Formation}
use Rattle.choreo_show.specs.declared.show.Settings.{Settings}

-- a name as the language has it
abbrev pub IsName : Name → Type 0
IsName n = IsTrue (is_name n.items)

-- such names
abbrev pub AreNames : List Name → Type 0
AreNames [] = Unit {0}
AreNames (n ∷ ns) = IsName n × AreNames ns

-- 1 to 32 names
abbrev pub FitNames : List Name → Type 0
FitNames ns = (1 ≤ length ns) × (length ns ≤ most_drones) × AreNames ns

-- micrometres in their range
abbrev pub FitsCoordinate : ℤ → Type 0
FitsCoordinate v = (neg_ℤ (pos 100000000) ≤ℤ v) × (v ≤ℤ pos 100000000)

-- tenths of a degree in their range
abbrev pub FitsYaw : ℤ → Type 0
FitsYaw v = (neg_ℤ (pos 32768) ≤ℤ v) × (v ≤ℤ pos 32767)

-- a point in its ranges
abbrev pub FitsPoint : Point → Type 0
FitsPoint p = FitsCoordinate p.x × FitsCoordinate p.y × FitsCoordinate p.z × FitsYaw p.yaw

-- three coordinates in their range
abbrev pub FitsTriple : List ℤ → Type 0
FitsTriple (x ∷ y ∷ z ∷ []) = FitsCoordinate x × FitsCoordinate y × FitsCoordinate z
FitsTriple v = ⊥

-- an act in its ranges
abbrev pub FitsAct : Act → Type 0
FitsAct act.Hold = Unit {0}
FitsAct (act.Line to) = FitsPoint to
FitsAct (act.Move to) = FitsPoint to
FitsAct (act.Turn yaw) = FitsYaw yaw
FitsAct (act.Arc ccw cx cy yaw) = FitsCoordinate cx × FitsCoordinate cy × FitsYaw yaw
FitsAct (act.Eased how ccw cx cy yaw) = FitsCoordinate cx × FitsCoordinate cy × FitsYaw yaw
FitsAct (act.Curve p1 p2 to) = FitsTriple p1 × FitsTriple p2 × FitsPoint to

-- a frame in its ranges
abbrev pub FitsFrame : Frame → Type 0
FitsFrame f = (f.turns ≤ 3) × FitsCoordinate f.dx × FitsCoordinate f.dy × FitsCoordinate f.dz

-- the milliseconds of a cue
abbrev pub FitsDuration : ℕ → Type 0
FitsDuration ms = (1 ≤ ms) × (ms ≤ 65535)

-- how often a repeat repeats
abbrev pub FitsTimes : ℕ → Type 0
FitsTimes times = (1 ≤ times) × (times ≤ 1000000000)

-- the name of a figure, and its roles
abbrev pub FitsFigure : Name → List Name → Type 0
FitsFigure figure roles = IsName figure × FitNames roles

-- a figure that drones perform in a frame
abbrev pub FitsPerform : Name → Frame → List Name → Type 0
FitsPerform figure frame drones = IsName figure × FitsFrame frame × FitNames drones

-- an act line
abbrev pub FitsActLine : ActLine → Type 0
FitsActLine (on.One line name a) = IsName name × FitsAct a
FitsActLine (on.Form line formation smooth) = IsName formation

-- act lines
abbrev pub FitActLines : List ActLine → Type 0
FitActLines [] = Unit {0}
FitActLines (a ∷ others) = FitsActLine a × FitActLines others

-- a body: durations, counts, names and numbers
abbrev pub FitsBody : Body → Type 0
FitsBody plain.Done = Unit {0}
FitsBody (plain.Cue line ms acts rest) = FitsDuration ms × FitActLines acts × FitsBody rest
FitsBody (plain.Repeat line times inside rest) = FitsTimes times × FitsBody inside × FitsBody rest
FitsBody (plain.Perform line figure frame drones rest) = FitsPerform figure frame drones × FitsBody rest

-- drones or places
abbrev pub FitDroneLines : List DroneLine → Type 0
FitDroneLines [] = Unit {0}
FitDroneLines (d ∷ ds) = IsName d.name × FitsPoint d.at × FitDroneLines ds

-- formations, none of them empty
abbrev pub FitFormations : List Formation → Type 0
FitFormations [] = Unit {0}
FitFormations (f ∷ fs) = IsName f.name × (1 ≤ length f.places) × FitDroneLines f.places × FitFormations fs

-- figures: 1 to 32 roles, some block, no repeat empty or inside eight others, no perform or `form`
abbrev pub FitFigures : List PlainFigure → Type 0
FitFigures [] = Unit {0}
FitFigures (f ∷ fs) =
    FitsFigure f.name f.roles
    × IsTrue (has_block f.body) × IsTrue (is_filled f.body) × (depth f.body ≤ most_nested) × IsTrue (fits_figure f.body)
    × FitsBody f.body × FitFigures fs

-- settings in their ranges
abbrev pub FitsSettings : Settings → Type 0
FitsSettings s = (s.offset ≤ 4095) × (s.trajectory_id ≤ 9) × (1 ≤ s.r) × (s.r ≤ 2000) × (1 ≤ s.h) × (s.h ≤ 2000)
    × (s.stray ≤ 1000) × (s.late ≤ 1000)

-- The numbers of the lines.

-- those of act lines
abbrev pub act_lines : List ActLine → List ℕ
act_lines [] = []
act_lines (on.One line name a ∷ others) = line ∷ act_lines others
act_lines (on.Form line formation smooth ∷ others) = line ∷ act_lines others

-- those of a body
abbrev pub body_lines : Body → List ℕ
body_lines plain.Done = []
body_lines (plain.Cue line ms acts rest) = line ∷ (act_lines acts ++ body_lines rest)
body_lines (plain.Repeat line times inside rest) = line ∷ (body_lines inside ++ body_lines rest)
body_lines (plain.Perform line figure frame drones rest) = line ∷ body_lines rest

-- those of drones or places
abbrev pub drone_lines : List DroneLine → List ℕ
drone_lines ds = map (λ d. d.line) ds

-- those of formations with their places
abbrev pub formation_lines : List Formation → List ℕ
formation_lines [] = []
formation_lines (f ∷ fs) = f.line ∷ (drone_lines f.places ++ formation_lines fs)

-- those of figures with their bodies
abbrev pub figure_lines : List PlainFigure → List ℕ
figure_lines [] = []
figure_lines (f ∷ fs) = f.line ∷ (body_lines f.body ++ figure_lines fs)

-- numbers that rise, all above this one
abbrev pub AllAbove : ℕ → List ℕ → Type 0
AllAbove n [] = Unit {0}
AllAbove n (m ∷ ms) = (n < m) × AllAbove m ms

-- line numbers rise, from 1 on
abbrev pub Rise : List ℕ → Type 0
Rise ns = AllAbove 0 ns

-- how often a number stands in a list
abbrev pub times : ℕ → List ℕ → ℕ
times n [] = 0
times n (m ∷ ms) = (if n == m then 1 else 0) + times n ms

-- the numbers of all lines that a show keeps
abbrev pub all_lines : PlainShow → List ℕ
all_lines s = drone_lines s.drones ++ (formation_lines s.formations ++ (figure_lines s.figures ++ body_lines s.body))

-- A show is valid where each of its lines stands where the language lets it, its line numbers are distinct and rise
-- within each list with its blocks, from 1 on, its names, numbers and counts are as the language has them, each repeat
-- stands inside at most seven others, and no formation, figure or repeat is empty.
pub record IsValid (s : PlainShow) : Type 0 where
  pub settings : FitsSettings s.settings
  pub drones : FitDroneLines s.drones
  pub formations : FitFormations s.formations
  pub figures : FitFigures s.figures
  pub body : FitsBody s.body
  pub filled : IsTrue (is_filled s.body)
  pub nested : depth s.body ≤ most_nested
  pub drone_lines : Rise (drone_lines s.drones)
  pub formation_lines : Rise (formation_lines s.formations)
  pub figure_lines : Rise (figure_lines s.figures)
  pub body_lines : Rise (body_lines s.body)
  pub distinct : (n : ℕ) → times n (all_lines s) ≤ 1
