-- The trajectories of a grid: each drone's start and each of its pieces rounded.
use Rattle.std.specs.Prelude.{ℕ, ℤ, List, [], ◌∷◌, map}
use Rattle.choreo_show.specs.declared.parts.Point.{Point}
use Rattle.choreo_show.specs.declared.show.DroneLine.{DroneLine}
use Rattle.cue_grid.specs.declared.grid.Cue.{Cue}
use Rattle.cue_grid.specs.declared.grid.Grid.{Grid}
use Rattle.traj_codec.specs.declared.traj.Traj.{Traj}
use Rattle.traj_codec.specs.Joined.{joined}
use Rattle.mm_rounding.specs.declared.piece.MicroPiece.{MicroPiece}
use Rattle.mm_rounding.specs.Rounding.{millimetres, segment_of}
use Rattle.figure_expand.specs.Expanded.{expanded}

-- where a trajectory starts that begins at this point: x, y and z in whole millimetres, yaw as it is, in tenths of a
-- degree
abbrev pub start_at : Point → List ℤ
start_at p = millimetres p.x ∷ millimetres p.y ∷ millimetres p.z ∷ p.yaw ∷ []

-- the trajectory of a drone that starts at this point: the start rounded, then one segment a piece
abbrev pub trajectory_of : Point → List MicroPiece → Traj
trajectory_of p pieces = record { start = start_at p; segments = map segment_of pieces }

abbrev pub trajectories_of : List DroneLine → List (List MicroPiece) → List Traj
trajectories_of [] rows = []
trajectories_of (s ∷ starts) [] = []
trajectories_of (s ∷ starts) (row ∷ rows) = trajectory_of s.at row ∷ trajectories_of starts rows

-- per drone, its trajectory of one segment a cue
abbrev pub by_cue : Grid → List Traj
by_cue g = trajectories_of g.starts (expanded g)

-- per drone, the trajectory that is sent: its whole holds that follow each other joined
abbrev pub sent : Grid → List Traj
sent g = map joined (by_cue g)

-- how long each cue lasts, in milliseconds
abbrev pub cue_times : Grid → List ℕ
cue_times g = map (λ (cue : Cue). cue.ms) g.cues
