-- The pieces of acts: their control points on each axis, as many as an axis has.
use Rattle.std.specs.Prelude.{ℕ, List, [], ◌∷◌, ℤ}
use Rattle.choreo_show.specs.declared.parts.Point.{Point}
use Rattle.choreo_show.specs.declared.parts.Act.{Act}
use Rattle.cue_grid.specs.declared.grid.Job.{Job}
use Rattle.mm_rounding.specs.declared.piece.Axis.{Axis}
use Rattle.mm_rounding.specs.declared.piece.Axis.TheVariants.{One, Two, Four, Eight}
use Rattle.mm_rounding.specs.declared.piece.MicroPiece.{MicroPiece}
use Rattle.figure_expand.specs.Acts.{act_of}
use Rattle.figure_expand.specs.Written.{written_points}

-- the axis with these control points: one, two, four or eight
abbrev pub axis_with : List ℤ → Axis
axis_with (v ∷ []) = One v
axis_with (v ∷ w ∷ []) = Two (v ∷ w ∷ [])
axis_with (v ∷ w ∷ x ∷ y ∷ []) = Four (v ∷ w ∷ x ∷ y ∷ [])
axis_with vs = Eight vs

-- the control points of an act in the show's frame on x, y, z and yaw, from the present point
abbrev pub axes_of : Point → Act → List Axis
axes_of p a =
    axis_with (written_points p a 0) ∷ axis_with (written_points p a 1) ∷ axis_with (written_points p a 2)
    ∷ axis_with (written_points p a 3) ∷ []

-- what a drone at this point does in a cue of this many milliseconds with this job
abbrev pub piece_of : Point → ℕ → Job → MicroPiece
piece_of p ms j = record { ms = ms; axes = axes_of p (act_of j) }
