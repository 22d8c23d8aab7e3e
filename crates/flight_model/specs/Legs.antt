-- From three shows to the steps of a flight: the way up, the show and the way down, each a trajectory for each drone
-- with one segment a cue.
use Rattle.std.specs.Prelude.{◌≡◌, ◌⊎◌, ℕ, zero, suc, ◌-◌, ◌<◌, ◌≤◌, ◌==◌, Bool, true, false, not, ◌&&◌, if◌then◌else◌}
use Rattle.std.specs.Prelude.{List, [], ◌∷◌, ◌++◌, length, map, take, drop, slice_index_or, slice_get, Option, Some, None, ℤ}
use Rattle.std.specs.Prelude.{int_le, All}
use Rattle.std.specs.List.{flat_map, list_any, range_with_len, sum}
use Rattle.whole_numbers.specs.Bernstein.{at}
use Rattle.traj_codec.specs.declared.traj.Segment.{Segment}
use Rattle.traj_codec.specs.declared.traj.Traj.{Traj}
use Rattle.traj_codec.specs.Positions.{durations, points, element_on, value_after}
use Rattle.flight_model.specs.declared.events.Order.{Order}
use Rattle.flight_model.specs.declared.events.Order.TheVariants as order
use Rattle.flight_model.specs.declared.flights.Position.{Position}
use Rattle.flight_model.specs.declared.flights.Condition.{Condition}
use Rattle.flight_model.specs.declared.flights.Orders.TheVariants.{Each, All as ToEach}
use Rattle.flight_model.specs.declared.flights.Step.{Step}
use Rattle.flight_model.specs.declared.flights.Stretch.{Stretch}
use Rattle.flight_model.specs.declared.flights.Stretch.TheVariants as stretch
use Rattle.flight_model.specs.declared.flights.Hold.{Hold}
use Rattle.flight_model.specs.Directors.{later}
pub use Rattle.flight_model.specs.declared.flights.Leg.{Leg}

-- The routes of a flight: a trajectory for each drone up, in the show and down; and how near a drone has to be to its
-- pad and to its position in the air, in millimetres.
pub record Routes : Type 0 where
  pub up : List Traj
  pub show : List Traj
  pub down : List Traj
  -- how far drones may stray from their way up (its show's `stray`)
  pub stray : ℕ
  pub near : ℕ
  pub at_place : ℕ

-- ---- legs

-- where a segment ends that begins here
abbrev pub after_segment : List ℤ → Segment → List ℤ
after_segment here s =
    value_after (at here 0) (element_on s 0) ∷ value_after (at here 1) (element_on s 1)
    ∷ value_after (at here 2) (element_on s 2) ∷ value_after (at here 3) (element_on s 3) ∷ []

-- the legs of segments from here on, one a segment
abbrev pub legs_from : List ℤ → List Segment → List Leg
legs_from here [] = []
legs_from here (s ∷ rest) =
    record { from = here; to = after_segment here s; ms = s.ms } ∷ legs_from (after_segment here s) rest

-- the legs of a way: in each cue from where the drone is to where its segment ends
abbrev pub legs_of : Traj → List Leg
legs_of t = legs_from t.start t.segments

-- a leg of a drone that stands at the origin
abbrev pub no_leg : Leg
no_leg = record { from = []; to = []; ms = 0 }

abbrev pub leg : List Leg → ℕ → Leg
leg legs k = slice_index_or legs k no_leg

-- On this axis the segment goes from rest to rest: it stays, or its eight control points are four times one value and
-- four times another, as those of `move` are (docs/TRAJECTORY.md).
abbrev pub RestsOn : List ℤ → Type 0
RestsOn b = (length b ≡ 1) ⊎ ((u v : ℤ) × (b ≡ u ∷ u ∷ u ∷ u ∷ v ∷ v ∷ v ∷ v ∷ []))

-- A way: in each cue the drone holds or moves from rest to rest.
abbrev pub IsWay : Traj → Type 0
IsWay t = (cue axis : ℕ) → cue < length t.segments → axis < 4 → RestsOn (points t cue axis)

-- where a way begins and ends
abbrev pub way_begins : Traj → List ℤ
way_begins t = t.start

abbrev pub ends_from : List ℤ → List Segment → List ℤ
ends_from here [] = here
ends_from here (s ∷ rest) = ends_from (after_segment here s) rest

abbrev pub way_ends : Traj → List ℤ
way_ends t = ends_from t.start t.segments

-- ---- what a drone does in a leg

abbrev pub same_on : Leg → ℕ → Bool
same_on l axis = int_le (at l.from axis) (at l.to axis) && int_le (at l.to axis) (at l.from axis)

-- whether the drone moves in a leg
abbrev pub moves : Leg → Bool
moves l = not (same_on l 0 && same_on l 1 && same_on l 2 && same_on l 3)

-- whether it has moved before leg k, and whether it still moves in leg k or later
abbrev pub has_moved : List Leg → ℕ → Bool
has_moved legs k = list_any moves (take k legs)

abbrev pub will_move : List Leg → ℕ → Bool
will_move legs k = list_any moves (drop k legs)

abbrev pub go_to : Leg → Order
go_to l = order.Go (at l.to 0) (at l.to 1) (at l.to 2) (at l.to 3) l.ms

-- On the way up: nothing until its first move, which is a rise; from then on it is told each leg's end, also where it
-- holds, so that what it was aside of its pad is made good.
abbrev pub up_order : List Leg → ℕ → Option Order
up_order legs k =
    if has_moved legs k then Some (go_to (leg legs k))
    else (if moves (leg legs k) then Some (order.Rise (at (leg legs k).to 2) (leg legs k).ms) else None)

-- On the way down: each leg's end, its last move is a landing, and nothing after it.
abbrev pub down_order : List Leg → ℕ → Option Order
down_order legs k =
    if will_move legs (suc k) then Some (go_to (leg legs k))
    else (if moves (leg legs k) then Some (order.Land (at (leg legs k).to 2) (leg legs k).ms) else None)

-- who rises in leg k is armed just before it
abbrev pub arm_order : List Leg → ℕ → Option Order
arm_order legs k = if not (has_moved legs k) && moves (leg legs k) then Some order.Arm else None

-- the first leg in which a drone moves, and the last one
abbrev pub first_move : List Leg → Option Leg
first_move [] = None
first_move (l ∷ legs) = if moves l then Some l else first_move legs

abbrev pub last_move : List Leg → Option Leg
last_move [] = None
last_move (l ∷ legs) = if list_any moves legs then last_move legs else (if moves l then Some l else None)

-- the leg stays on x and y, and the drone doesn't turn
abbrev pub is_vertical : Leg → Bool
is_vertical l = same_on l 0 && same_on l 1 && same_on l 3

-- the leg goes straight up, or straight down: it ends higher, or lower, than it begins
abbrev pub goes_up : Leg → Bool
goes_up l = is_vertical l && not (int_le (at l.to 2) (at l.from 2))

abbrev pub goes_down : Leg → Bool
goes_down l = is_vertical l && not (int_le (at l.from 2) (at l.to 2))

-- A way up: the drone moves, and at first straight up, since a rise has a height alone.
pub record IsWayUp (t : Traj) : Type 0 where
  pub rests : IsWay t
  pub first : Leg
  pub is_first : first_move (legs_of t) ≡ Some first
  pub up : goes_up first ≡ true

-- A way down: the drone moves, and at last straight down, since a landing has a height alone.
pub record IsWayDown (t : Traj) : Type 0 where
  pub rests : IsWay t
  pub last : Leg
  pub is_last : last_move (legs_of t) ≡ Some last
  pub down : goes_down last ≡ true

-- Three ways are a flight: they have as many drones; each drone goes up by a way up and down by a way down; and its
-- way up ends where its show begins, its show where its way down begins, and that where its way up began.
pub record IsFlight (w : Routes) : Type 0 where
  pub ups : length w.up ≡ length w.show
  pub downs : length w.down ≡ length w.show
  pub rise : All IsWayUp w.up
  pub return : All IsWayDown w.down
  -- a rise begins where the drone stands, which is up to `near` from its pad
  pub strays : w.near ≤ w.stray
  pub joined : (d : ℕ) (u s n : Traj) → slice_get w.up d ≡ Some u → slice_get w.show d ≡ Some s →
      slice_get w.down d ≡ Some n →
      (way_ends u ≡ way_begins s) × (way_ends s ≡ way_begins n) × (way_ends n ≡ way_begins u)

-- ---- the steps

abbrev pub position_of : List ℤ → Position
position_of v = record { x = at v 0; y = at v 1; z = at v 2 }

-- how many legs a way has, and how long leg k lasts: the same for all drones
abbrev pub leg_count : List (List Leg) → ℕ
leg_count [] = 0
leg_count (legs ∷ rest) = length legs

abbrev pub leg_ms : List (List Leg) → ℕ → ℕ
leg_ms [] k = 0
leg_ms (legs ∷ rest) k = (leg legs k).ms

-- how long what comes before leg k lasts: the leg before, or this
abbrev pub ms_before : ℕ → List (List Leg) → ℕ → ℕ
ms_before first all k = if k == 0 then first else leg_ms all (k - 1)

-- how long the legs before leg k last
abbrev pub ms_until : List (List Leg) → ℕ → ℕ
ms_until all zero = 0
ms_until all (suc k) = later (ms_until all k) (leg_ms all k)

-- in a stretch from an instant on, for so long
abbrev pub hold_in : Stretch → ℕ → ℕ → Option Hold
hold_in s from ms = Some (record { stretch = s; from = from; ms = ms })

-- How near to the leg's beginning a drone has to be: before its first move, and where it has just risen, as near as to
-- its pad.
abbrev pub up_bound : Routes → List Leg → ℕ → ℕ
up_bound w legs k = if has_moved legs (k - 1) then w.at_place else w.near

abbrev pub down_bound : Routes → List Leg → ℕ → ℕ
down_bound w legs k = if will_move legs k then w.at_place else w.near

-- before those that rise in leg k are armed: who has risen is armed, all others are ready
abbrev pub arm_condition : Routes → ℕ → List Leg → Condition
arm_condition w k legs =
    record {
      position = position_of (leg legs k).from;
      bound = up_bound w legs k;
      ready = not (has_moved legs k);
      armed = has_moved legs k;
      down = false;
    }

-- once they are
abbrev pub up_condition : Routes → ℕ → List Leg → Condition
up_condition w k legs =
    record {
      position = position_of (leg legs k).from;
      bound = up_bound w legs k;
      ready = false;
      armed = has_moved legs (suc k);
      down = false;
    }

-- the first step: each drone is put into the flight's group
abbrev pub group_step : List (List Leg) → Step
group_step all = record {
  asked = false;
  after = 0;
  settle = 0;
  answered = false;
  conditions = [];
  orders = Each (map (λ legs. Some order.Group) all);
  holds = None;
}

-- The step that arms those that rise in leg k. The first one waits for the operator's go, and until each drone has
-- answered that it is in the group.
abbrev pub arm_step : Routes → List (List Leg) → ℕ → Step
arm_step w all k = record {
  asked = k == 0;
  after = ms_before 0 all k;
  settle = if k == 0 then 0 else 1000;
  answered = k == 0;
  conditions = map (arm_condition w k) all;
  orders = Each (map (λ legs. arm_order legs k) all);
  holds = hold_in stretch.Up (ms_until all k) 0;
}

-- leg k of the way up
abbrev pub up_step : Routes → List (List Leg) → ℕ → Step
up_step w all k = record {
  asked = false;
  after = 0;
  settle = 0;
  answered = false;
  conditions = map (up_condition w k) all;
  orders = Each (map (λ legs. up_order legs k) all);
  holds = hold_in stretch.Up (ms_until all k) (leg_ms all k);
}

-- the start: each drone at the first position of its show
abbrev pub start_condition : Routes → ℕ → Traj → Condition
start_condition w bound t =
    record { position = position_of (way_begins t); bound = bound; ready = false; armed = true; down = false }

-- the show, at the operator's go
abbrev pub start_step : Routes → ℕ → List (List Leg) → Step
start_step w show_ms ups = record {
  asked = true;
  after = ms_before 0 ups (leg_count ups);
  settle = 1000;
  answered = false;
  conditions = map (start_condition w w.at_place) w.show;
  orders = ToEach order.Start;
  holds = hold_in stretch.Show 0 show_ms;
}

-- leg k of the way down, after the show or the leg before
abbrev pub down_condition : Routes → ℕ → List Leg → Condition
down_condition w k legs =
    record {
      position = position_of (leg legs k).from;
      bound = down_bound w legs k;
      ready = false;
      armed = will_move legs k;
      down = false;
    }

abbrev pub down_step : Routes → ℕ → List (List Leg) → ℕ → Step
down_step w show_ms all k = record {
  asked = false;
  after = ms_before show_ms all k;
  settle = 1000;
  answered = false;
  conditions = map (down_condition w k) all;
  orders = Each (map (λ legs. down_order legs k) all);
  holds = hold_in stretch.Down (ms_until all k) (leg_ms all k);
}

-- the end: each drone stands on its pad
abbrev pub last_condition : Routes → Traj → Condition
last_condition w t =
    record { position = position_of (way_ends t); bound = w.near; ready = false; armed = false; down = true }

abbrev pub last_step : Routes → List (List Leg) → Step
last_step w downs = record {
  asked = false;
  after = ms_before 0 downs (leg_count downs);
  settle = 1000;
  answered = false;
  conditions = map (last_condition w) w.down;
  orders = ToEach order.Disarm;
  holds = None;
}

-- how long a show lasts
abbrev pub lasts : List Traj → ℕ
lasts [] = 0
lasts (t ∷ rest) = sum (durations t.segments)

abbrev pub steps_between : Routes → List (List Leg) → List (List Leg) → List Step
steps_between w ups downs =
    group_step ups ∷ flat_map (λ k. arm_step w ups k ∷ up_step w ups k ∷ []) (range_with_len 0 (leg_count ups))
    ++ start_step w (lasts w.show) ups
    ∷ (map (down_step w (lasts w.show) downs) (range_with_len 0 (leg_count downs)) ++ last_step w downs ∷ [])

-- All steps of a flight: the group; leg by leg up, each after its drones are armed; the start; leg by leg down; and the
-- end.
unfoldable pub steps_of : Routes → List Step
steps_of w = steps_between w (map legs_of w.up) (map legs_of w.down)
