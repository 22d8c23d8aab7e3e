-- Micrometres rounded to millimetres, and the segment of a trajectory that a piece in micrometres rounds to.
use Rattle.std.specs.Prelude.{ℕ, Bool, ◌&&◌, List, [], ◌∷◌, map, Option, Some, None, ℤ, pos, neg_ℤ, ◌+ℤ◌, int_le}
use Rattle.std.specs.Prelude.{nat_le, slice_index_or, if◌then◌else◌}
use Rattle.std.specs.List.{list_all}
use Rattle.std.specs.Int.{int_div_euclid}
use Rattle.std.specs.Ordering.{int_eq}
use Rattle.whole_numbers.specs.Bernstein.{at}
use Rattle.traj_codec.specs.declared.traj.Element.{Element}
use Rattle.traj_codec.specs.declared.traj.Element.TheVariants.{Constant, Linear, Cubic, Seven}
use Rattle.traj_codec.specs.declared.traj.Segment.{Segment}
use Rattle.mm_rounding.specs.declared.piece.Axis.{Axis}
use Rattle.mm_rounding.specs.declared.piece.Axis.TheVariants.{One, Two, Four, Eight}
use Rattle.mm_rounding.specs.declared.piece.MicroPiece.{MicroPiece}

-- ---- numbers

-- micrometres in whole millimetres: (v + 500) / 1000, rounded down, so that a half goes up
abbrev pub millimetres : ℤ → ℤ
millimetres v = int_div_euclid (v +ℤ pos 500) (pos 1000)

-- whether the number fits the two bytes of a trajectory's number
abbrev pub is_short : ℤ → Bool
is_short z = int_le (neg_ℤ (pos 32768)) z && int_le z (pos 32767)

-- the number, where it fits two bytes
abbrev pub short : ℤ → Option ℤ
short z = if is_short z then Some z else None

-- the numbers, where each of them fits two bytes
abbrev pub shorts : List ℤ → Option (List ℤ)
shorts zs = if list_all is_short zs then Some zs else None

-- ---- one axis

-- the control values of an axis, the first one included
abbrev pub controls : Axis → List ℤ
controls (One v) = v ∷ []
controls (Two v) = v
controls (Four v) = v
controls (Eight v) = v

-- the first control value of an axis
abbrev pub first_control : Axis → ℤ
first_control axis = at (controls axis) 0

-- an axis of x, y or z with each control value in whole millimetres
abbrev pub rounded : Axis → Axis
rounded (One v) = One (millimetres v)
rounded (Two v) = Two (map millimetres v)
rounded (Four v) = Four (map millimetres v)
rounded (Eight v) = Eight (map millimetres v)

-- whether all these numbers equal the first of them
abbrev pub all_equal : List ℤ → Bool
all_equal zs = list_all (λ z. int_eq z (at zs 0)) zs

-- the numbers without the first one
abbrev pub after_first : List ℤ → List ℤ
after_first [] = []
after_first (z ∷ zs) = zs

-- The element with these control values, of which the first isn't stored: it is constant exactly where all of them are
-- equal, else it has the degree of its axis.
abbrev pub element_of : Axis → Element
element_of (One v) = Constant
element_of (Two v) = if all_equal v then Constant else Linear (at v 1)
element_of (Four v) = if all_equal v then Constant else Cubic (after_first v)
element_of (Eight v) = if all_equal v then Constant else Seven (after_first v)

-- whether an element can hold each control value
abbrev pub fits : Axis → Bool
fits axis = list_all is_short (controls axis)

-- the element of an axis, where it can hold each control value
abbrev pub fitted : Axis → Option Element
fitted axis = if fits axis then Some (element_of axis) else None

-- ---- all four axes

-- the axis of a piece with this number: 0 to 3 for x, y, z and yaw
abbrev pub axis_on : MicroPiece → ℕ → Axis
axis_on p axis = slice_index_or p.axes axis (One (pos 0))

-- the axes of a piece in a trajectory's units: x, y and z in whole millimetres, yaw as it is, in tenths of a degree
abbrev pub counted : MicroPiece → List Axis
counted p = rounded (axis_on p 0) ∷ rounded (axis_on p 1) ∷ rounded (axis_on p 2) ∷ axis_on p 3 ∷ []

-- the segment that a piece rounds to
abbrev pub segment_of : MicroPiece → Segment
segment_of p = record { ms = p.ms; elements = map element_of (counted p) }

-- The segment, where the piece lasts some time and each of its numbers fits a trajectory.
abbrev pub rounding : MicroPiece → Option Segment
rounding p = if nat_le 1 p.ms && list_all fits (counted p) then Some (segment_of p) else None
