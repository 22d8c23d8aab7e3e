-- How near a rounded segment is to its piece, at every fraction of the cue.
use Rattle.std.specs.Prelude.{◌≡◌, ℕ, ◌-◌, ◌≤◌, ℤ, pos, ◌*ℤ◌, List, ◌∷◌, length}
use Rattle.std.specs.List.{All}
use Rattle.whole_numbers.specs.Sums.{power}
use Rattle.whole_numbers.specs.Bernstein.{bern}
use Rattle.whole_numbers.specs.Decoded.{last_value}
use Rattle.whole_numbers.specs.Near.{IsNear}
use Rattle.traj_codec.specs.declared.traj.Element.{Element}
use Rattle.traj_codec.specs.declared.traj.Segment.{Segment}
use Rattle.traj_codec.specs.Spelling.{stored}
use Rattle.traj_codec.specs.Positions.{element_on, value_after}
use Rattle.mm_rounding.specs.declared.piece.Axis.{Axis}
use Rattle.mm_rounding.specs.declared.piece.Axis.TheVariants.{One, Two, Four, Eight}
use Rattle.mm_rounding.specs.declared.piece.MicroPiece.{MicroPiece}
use Rattle.mm_rounding.specs.Rounding.{controls, first_control, rounded, after_first, axis_on}

-- An axis has as many control values as its name says. Each value of the type `Axis` is so.
abbrev pub IsAxis : Axis → Type 0
IsAxis (One v) = Unit {0}
IsAxis (Two v) = length v ≡ 2
IsAxis (Four v) = length v ≡ 4
IsAxis (Eight v) = length v ≡ 8

-- The axes of a piece have as many control values as their names say. Each value of the type `MicroPiece` is so.
abbrev pub IsPiece : MicroPiece → Type 0
IsPiece p = All IsAxis p.axes

-- where the curve with these control points is at the fraction a / c of a cue: its Bernstein sum, as a numerator over c
-- ^ 7
abbrev pub position : List ℤ → ℕ → ℕ → ℤ
position points a c = power (pos c) (8 - length points) *ℤ bern points (pos a) (pos c)

-- it holds at every fraction of a cue, the ends too
abbrev pub AtEachFraction : (ℕ → ℕ → Type 0) → Type 0
AtEachFraction Holds = (a c : ℕ) → 1 ≤ c → a ≤ c → Holds a c

-- The element, which begins at the first control value in whole millimetres, keeps within half a millimetre of the
-- axis.
abbrev pub KeepsNear : Axis → Element → Type 0
KeepsNear axis e =
    AtEachFraction
    (λ a c. IsNear (position (controls axis) a c) (position (first_control (rounded axis) ∷ stored e) a c) c)

-- The element, which begins at the first control value, is the curve of the axis.
abbrev pub KeepsEqual : Axis → Element → Type 0
KeepsEqual axis e = AtEachFraction (λ a c. position (first_control axis ∷ stored e) a c ≡ position (controls axis) a c)

-- the last control value of an axis
abbrev pub last_control : Axis → ℤ
last_control axis = last_value (first_control axis) (after_first (controls axis))

-- the element, which begins at the first control value, ends at the last one
abbrev pub EndsThere : Axis → Element → Type 0
EndsThere axis e = value_after (first_control axis) e ≡ last_control axis

-- On x, y and z the segment keeps within half a millimetre of the piece, and its yaw is equal.
pub record StaysNear (p : MicroPiece) (s : Segment) : Type 0 where
  pub x : KeepsNear (axis_on p 0) (element_on s 0)
  pub y : KeepsNear (axis_on p 1) (element_on s 1)
  pub z : KeepsNear (axis_on p 2) (element_on s 2)
  pub yaw : KeepsEqual (axis_on p 3) (element_on s 3)
