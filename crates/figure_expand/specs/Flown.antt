-- What a drone flies in a cue of a grid: its piece, and the written position.
use Rattle.std.specs.Prelude.{◌≡◌, Some, ℕ, ◌<◌, List, [], map, take, ℤ, pos, length, slice_index_or}
use Rattle.std.specs.List.{All}
use Rattle.choreo_show.specs.declared.parts.Point.{Point}
use Rattle.choreo_show.specs.declared.show.DroneLine.{DroneLine}
use Rattle.cue_grid.specs.declared.grid.Job.{Job}
use Rattle.cue_grid.specs.declared.grid.Cue.{Cue}
use Rattle.cue_grid.specs.declared.grid.Grid.{Grid}
use Rattle.mm_rounding.specs.Rounding.{millimetres, short, controls, axis_on, rounding, segment_of}
use Rattle.mm_rounding.specs.Near.{position, AtEachFraction}
use Rattle.mm_rounding.specs.declared.piece.MicroPiece.{MicroPiece}
use Rattle.figure_expand.specs.Acts.{act_of}
use Rattle.figure_expand.specs.Written.{written_points, point_after}
use Rattle.figure_expand.specs.Expanded.{no_job, expanded}

-- where a drone starts; the numbers count from 0
abbrev pub start_of : Grid → ℕ → Point
start_of g d =
    slice_index_or (map (λ (s : DroneLine). s.at) g.starts) d (record { x = pos 0; y = pos 0; z = pos 0; yaw = pos 0 })

-- the jobs of a drone in these cues: one job stands for each drone, in the order of the drones
abbrev pub jobs_in : ℕ → List Cue → List Job
jobs_in d cues = map (λ (cue : Cue). slice_index_or cue.jobs d no_job) cues

-- The written position of a drone on an axis at the part a / c of a cue: by its job there, from where its earlier jobs
-- end, or from its start.
abbrev pub written_at : Grid → ℕ → ℕ → ℕ → ℕ → ℕ → ℤ
written_at g d k axis a c =
    position (written_points (point_after (start_of g d) (take k (jobs_in d g.cues)))
    (act_of (slice_index_or (jobs_in d g.cues) k no_job)) axis) a c

-- the job of a drone in a cue
abbrev pub job_at : Grid → ℕ → ℕ → Job
job_at g d k = slice_index_or (jobs_in d g.cues) k no_job

-- where a drone is before a cue
abbrev pub point_before : Grid → ℕ → ℕ → Point
point_before g d k = point_after (start_of g d) (take k (jobs_in d g.cues))

-- the piece of a drone in a cue
abbrev pub piece_at : Grid → ℕ → ℕ → MicroPiece
piece_at g d k = slice_index_or (slice_index_or (expanded g) d []) k (record { ms = 0; axes = [] })

-- On each axis and at each fraction of each cue, the piece of each drone is at the written position.
abbrev pub FliesAsWritten : Grid → Type 0
FliesAsWritten g =
    (d k axis : ℕ) → d < length g.starts → k < length g.cues → axis < 4 →
    AtEachFraction (λ a c. position (controls (axis_on (piece_at g d k) axis)) a c ≡ written_at g d k axis a c)

-- the piece rounds to a segment: each of its numbers fits a trajectory
abbrev pub RoundsWell : MicroPiece → Type 0
RoundsWell p = rounding p ≡ Some (segment_of p)

-- each number of a start fits a trajectory, rounded to millimetres, a yaw as it is
pub record StartsWell (p : Point) : Type 0 where
  pub x : short (millimetres p.x) ≡ Some (millimetres p.x)
  pub y : short (millimetres p.y) ≡ Some (millimetres p.y)
  pub z : short (millimetres p.z) ≡ Some (millimetres p.z)
  pub yaw : short p.yaw ≡ Some p.yaw

-- Each start of a grid and each of its pieces fits a trajectory.
pub record FitsWell (g : Grid) : Type 0 where
  pub starts : All (λ (s : DroneLine). StartsWell s.at) g.starts
  pub pieces : All (All RoundsWell) (expanded g)
