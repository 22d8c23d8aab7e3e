-- The pieces of a grid, and the first value that no trajectory can hold.
use Rattle.std.specs.Prelude.{ℕ, ◌+◌, Bool, ◌==◌, List, [], ◌∷◌, ◌++◌, Option, Some, None, ℤ, slice_index_or}
use Rattle.std.specs.Prelude.{if◌then◌else◌}
use Rattle.choreo_show.specs.declared.parts.Point.{Point}
use Rattle.choreo_show.specs.declared.show.DroneLine.{DroneLine}
use Rattle.choreo_show.specs.declared.parts.Act.TheVariants as act
use Rattle.cue_grid.specs.Frames.{no_frame}
use Rattle.cue_grid.specs.declared.grid.Job.{Job}
use Rattle.cue_grid.specs.declared.grid.Cue.{Cue}
use Rattle.cue_grid.specs.declared.grid.Grid.{Grid}
use Rattle.mm_rounding.specs.Rounding.{controls, millimetres, is_short}
use Rattle.mm_rounding.specs.declared.piece.Axis.{Axis}
use Rattle.mm_rounding.specs.declared.piece.MicroPiece.{MicroPiece}
use Rattle.figure_expand.specs.declared.fault.AxisValue.{AxisValue}
use Rattle.figure_expand.specs.Acts.{act_of}
use Rattle.figure_expand.specs.Written.{end_of}
use Rattle.figure_expand.specs.Controls.{axes_of, piece_of}

-- what stands where no job does: nothing is done
abbrev pub no_job : Job
no_job = record { line = 0; frame = no_frame; act = act.Hold }

-- the job of a drone in a cue: one job stands for each drone, in the order of the drones
abbrev pub job_in : Cue → ℕ → Job
job_in cue d = slice_index_or cue.jobs d no_job

-- the pieces of drone d over these cues, from the point where it is before them
abbrev pub pieces_from : Point → ℕ → List Cue → List MicroPiece
pieces_from p d [] = []
pieces_from p d (cue ∷ rest) = piece_of p cue.ms (job_in cue d) ∷ pieces_from (end_of p (act_of (job_in cue d))) d rest

-- the pieces of each drone, from drone d on
abbrev pub expanded_from : ℕ → List DroneLine → List Cue → List (List MicroPiece)
expanded_from d [] cues = []
expanded_from d (s ∷ starts) cues = pieces_from s.at d cues ∷ expanded_from (d + 1) starts cues

-- per drone, one piece for each cue
unfoldable pub expanded : Grid → List (List MicroPiece)
expanded g = expanded_from 0 g.starts g.cues

-- ---- the first value out of range

-- positions have to fit when they are rounded to millimetres, a yaw as it is
abbrev pub fits_axis : ℕ → ℤ → Bool
fits_axis axis v = if axis == 3 then is_short v else is_short (millimetres v)

-- whether the value fits a trajectory
abbrev pub fits : AxisValue → Bool
fits v = fits_axis v.axis v.value

-- the control values of one axis in order
abbrev pub values_on : ℕ → ℕ → List ℤ → List AxisValue
values_on line axis [] = []
values_on line axis (v ∷ vs) = record { line = line; axis = axis; value = v } ∷ values_on line axis vs

-- the control values of these axes in order
abbrev pub values_of : ℕ → ℕ → List Axis → List AxisValue
values_of line axis [] = []
values_of line axis (a ∷ axes) = values_on line axis (controls a) ++ values_of line (axis + 1) axes

-- the values of a point, axis by axis
abbrev pub point_values : ℕ → Point → List AxisValue
point_values line p =
    record { line = line; axis = 0; value = p.x }
    ∷ record { line = line; axis = 1; value = p.y }
    ∷ record { line = line; axis = 2; value = p.z }
    ∷ record { line = line; axis = 3; value = p.yaw }
    ∷ []

-- the start values by drone and axis
abbrev pub start_values : List DroneLine → List AxisValue
start_values [] = []
start_values (s ∷ starts) = point_values s.line s.at ++ start_values starts

-- the control values of one cue by drone, axis and place; the drones are at these points before it
abbrev pub cue_values : List Point → List Job → List AxisValue
cue_values [] jobs = []
cue_values (p ∷ ps) [] = []
cue_values (p ∷ ps) (j ∷ jobs) = values_of j.line 0 (axes_of p (act_of j)) ++ cue_values ps jobs

-- where the drones are after one cue
abbrev pub points_after : List Point → List Job → List Point
points_after [] jobs = []
points_after (p ∷ ps) [] = []
points_after (p ∷ ps) (j ∷ jobs) = end_of p (act_of j) ∷ points_after ps jobs

-- the control values of these cues, one cue after the other
abbrev pub values_from : List Point → List Cue → List AxisValue
values_from ps [] = []
values_from ps (cue ∷ rest) = cue_values ps cue.jobs ++ values_from (points_after ps cue.jobs) rest

-- where the drones start
abbrev pub start_points : List DroneLine → List Point
start_points [] = []
start_points (s ∷ starts) = s.at ∷ start_points starts

-- all values that have to fit, in the order in which they are judged: starts by drone and axis, then cues, drones, axes
-- and control points
abbrev pub values : Grid → List AxisValue
values g = start_values g.starts ++ values_from (start_points g.starts) g.cues

-- the first of these values that does not fit
abbrev pub first_unfit : List AxisValue → Option AxisValue
first_unfit [] = None
first_unfit (v ∷ vs) = if fits v then first_unfit vs else Some v

-- the first value of a grid that no trajectory can hold
unfoldable pub range_fault : Grid → Option AxisValue
range_fault g = first_unfit (values g)
