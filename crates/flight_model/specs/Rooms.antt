-- The room of a flight: a box around the control points of its curves, with a margin. A Bézier curve stays among its
-- control points.
use Rattle.std.specs.Prelude.{◌≡◌, ℕ, Bool, ◌&&◌, List, [], ◌∷◌, ℤ, pos, ◌+ℤ◌, ◌≤ℤ◌, int_le, Contains}
use Rattle.std.specs.List.{flat_map}
use Rattle.std.specs.Int.{int_max, int_min}
use Rattle.whole_numbers.specs.Bernstein.{at}
use Rattle.traj_codec.specs.Positions.{element_on}
use Rattle.traj_codec.specs.Spelling.{stored}
use Rattle.traj_codec.specs.declared.traj.Segment.{Segment}
use Rattle.traj_codec.specs.declared.traj.Traj.{Traj}
use Rattle.flight_model.specs.declared.events.Sample.{Sample}
use Rattle.flight_model.specs.declared.flights.Room.{Room}
use Rattle.flight_model.specs.declared.flights.Span.{Span}

-- ---- in a room

-- The sample is in the room: on each axis it is at most the margin below the low end, and above the high one.
pub record IsInRoom (r : Room) (x : Sample) : Type 0 where
  pub x_low : r.x.low ≤ℤ (x.x +ℤ pos r.margin)
  pub x_high : x.x ≤ℤ (r.x.high +ℤ pos r.margin)
  pub y_low : r.y.low ≤ℤ (x.y +ℤ pos r.margin)
  pub y_high : x.y ≤ℤ (r.y.high +ℤ pos r.margin)
  pub z_low : r.z.low ≤ℤ (x.z +ℤ pos r.margin)
  pub z_high : x.z ≤ℤ (r.z.high +ℤ pos r.margin)

abbrev pub is_in_span : ℕ → Span → ℤ → Bool
is_in_span margin s v = int_le s.low (v +ℤ pos margin) && int_le v (s.high +ℤ pos margin)

-- the same, as the director looks at it
abbrev pub is_in_room : Room → Sample → Bool
is_in_room r x = is_in_span r.margin r.x x.x && (is_in_span r.margin r.y x.y && is_in_span r.margin r.z x.z)

-- ---- the room of curves

-- the control points of a curve on an axis: where it begins, and the numbers of its segments
abbrev pub values_on : ℕ → Traj → List ℤ
values_on axis t = at t.start axis ∷ flat_map (λ (s : Segment). stored (element_on s axis)) t.segments

-- those of all curves
abbrev pub all_values : ℕ → List Traj → List ℤ
all_values axis curves = flat_map (values_on axis) curves

-- a span with a value more, and with values more
abbrev pub with_value : Span → ℤ → Span
with_value s v = record { low = int_min s.low v; high = int_max s.high v }

abbrev pub with_values : Span → List ℤ → Span
with_values s [] = s
with_values s (v ∷ vs) = with_values (with_value s v) vs

-- from the least of these values to the greatest
abbrev pub span_of : List ℤ → Span
span_of [] = record { low = pos 0; high = pos 0 }
span_of (v ∷ vs) = with_values (record { low = v; high = v }) vs

-- the room of these curves with this margin
unfoldable pub room_of : ℕ → List Traj → Room
room_of margin curves =
    record {
      x = span_of (all_values 0 curves);
      y = span_of (all_values 1 curves);
      z = span_of (all_values 2 curves);
      margin = margin;
    }

-- ---- what that is

-- The span's ends are the least of these values, and the greatest.
pub record IsSpanOf (vs : List ℤ) (s : Span) : Type 0 where
  pub low : (v : ℤ) → Contains vs v → s.low ≤ℤ v
  pub high : (v : ℤ) → Contains vs v → v ≤ℤ s.high
  pub least : Contains vs s.low
  pub greatest : Contains vs s.high

-- of some curves
pub record RoomOfLaw : Type 0 where
  pub x : (margin : ℕ) (t : Traj) (curves : List Traj) →
      IsSpanOf (all_values 0 (t ∷ curves)) (room_of margin (t ∷ curves)).x
  pub y : (margin : ℕ) (t : Traj) (curves : List Traj) →
      IsSpanOf (all_values 1 (t ∷ curves)) (room_of margin (t ∷ curves)).y
  pub z : (margin : ℕ) (t : Traj) (curves : List Traj) →
      IsSpanOf (all_values 2 (t ∷ curves)) (room_of margin (t ∷ curves)).z
  pub margin : (margin : ℕ) (curves : List Traj) → (room_of margin curves).margin ≡ margin
