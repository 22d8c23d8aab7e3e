-- Where a trajectory puts a drone: the control points of its segments, and the exact position at a moment.
use Rattle.std.specs.Prelude.{ℕ, ℤ, List, map, slice_index_or}
use Rattle.whole_numbers.specs.Bernstein.{at}
use Rattle.whole_numbers.specs.Moments.{Moment}
use Rattle.whole_numbers.specs.Decoded.{Piece, last_value}
use Rattle.whole_numbers.specs.Decoded as plain
use Rattle.traj_codec.specs.Spelling.{stored}
use Rattle.traj_codec.specs.declared.traj.Element.{Element}
use Rattle.traj_codec.specs.declared.traj.Element.TheVariants.{Constant}
use Rattle.traj_codec.specs.declared.traj.Segment.{Segment}
use Rattle.traj_codec.specs.declared.traj.Traj.{Traj}

-- the element of a segment on an axis: 0 to 3 for x, y, z and yaw
abbrev pub element_on : Segment → ℕ → Element
element_on s axis = slice_index_or s.elements axis Constant

-- the value with which an element ends that begins with the first one
abbrev pub value_after : ℤ → Element → ℤ
value_after first e = last_value first (stored e)

-- a segment on an axis: how long it lasts, and the numbers of its element
abbrev pub piece_on : ℕ → Segment → Piece
piece_on axis s = record { ms = s.ms; stored = stored (element_on s axis) }

-- a trajectory's segments on an axis
abbrev pub pieces_on : ℕ → Traj → List Piece
pieces_on axis t = map (piece_on axis) t.segments

-- how long each segment lasts, in milliseconds
abbrev pub durations : List Segment → List ℕ
durations segments = map (λ (s : Segment). s.ms) segments

-- the control points of the segment with this number, from 0, on an axis: the last value before it, then its numbers
abbrev pub points : Traj → ℕ → ℕ → List ℤ
points t cue axis = plain.points (at t.start axis) (pieces_on axis t) cue

-- The decoded position on an axis at a moment, a numerator over c ^ 7, in millimetres, and yaw in tenths of a degree.
abbrev pub decoded : Traj → ℕ → Moment → ℤ
decoded t axis m = plain.decoded (at t.start axis) (pieces_on axis t) m
