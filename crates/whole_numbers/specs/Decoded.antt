-- The exact position of a trajectory on one axis, over plain lists. A trajectory begins with a first value; each of its
-- pieces is a Bézier curve whose first control point is the last value before it.
use Rattle.std.specs.Prelude.{◌≡◌, ℕ, ◌-◌, ◌≤◌, ℤ, pos, ◌*ℤ◌, List, [], ◌∷◌, length, map, slice_index_or}
use Rattle.whole_numbers.specs.Sums.{power}
use Rattle.whole_numbers.specs.Bernstein.{bern}
use Rattle.whole_numbers.specs.Moments.{Moment}

-- a stretch of a trajectory on one axis: how many milliseconds it lasts, and its control points after the first one
pub record Piece : Type 0 where
  pub ms : ℕ
  pub stored : List ℤ

-- the piece lasts a millisecond or more, and its degree is seven at most
pub record IsPiece (piece : Piece) : Type 0 where
  pub lasts : 1 ≤ piece.ms
  pub few : length piece.stored ≤ 7

-- the value with which a piece ends that begins with the first one
abbrev pub last_value : ℤ → List ℤ → ℤ
last_value first [] = first
last_value first (v ∷ rest) = last_value v rest

-- the control points of each piece, from the value before the first piece
abbrev pub points_from : ℤ → List Piece → List (List ℤ)
points_from first [] = []
points_from first (piece ∷ rest) = (first ∷ piece.stored) ∷ points_from (last_value first piece.stored) rest

-- the control points of the piece with this number, from 0
abbrev pub points : ℤ → List Piece → ℕ → List ℤ
points start pieces cue = slice_index_or (points_from start pieces) cue []

-- how long each piece lasts
abbrev pub durations : List Piece → List ℕ
durations pieces = map (λ (piece : Piece). piece.ms) pieces

-- The decoded position at a moment: the Bernstein sum of the moment's piece, as a numerator over c ^ 7.
unfoldable pub decoded : ℤ → List Piece → Moment → ℤ
decoded start pieces m =
    power (pos m.c) (8 - length (points start pieces m.cue)) *ℤ bern (points start pieces m.cue) (pos m.a) (pos m.c)

-- The positions at two moments are the same number, once both numerators are brought over one denominator.
abbrev pub IsSamePosition : ℤ → List Piece → Moment → Moment → Type 0
IsSamePosition start pieces m n =
    (power (pos n.c) 7 *ℤ decoded start pieces m) ≡ (power (pos m.c) 7 *ℤ decoded start pieces n)
