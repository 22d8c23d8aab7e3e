-- The orders draw the ways: a drone that obeys the order of each leg, from where the leg begins, flies the way that was
-- judged.
use Rattle.std.specs.Prelude.{◌≡◌, ℕ, ◌<◌, List, [], ◌∷◌, length, Option, Some, ℤ, pos}
use Rattle.whole_numbers.specs.Bernstein.{at, bern}
use Rattle.whole_numbers.specs.Moments.{Moment}
use Rattle.traj_codec.specs.declared.traj.Traj.{Traj}
use Rattle.traj_codec.specs.Positions.{decoded}
use Rattle.flight_model.specs.declared.events.Order.{Order}
use Rattle.flight_model.specs.declared.events.Order.TheVariants as order
use Rattle.flight_model.specs.Legs.{IsWayUp, IsWayDown, Leg, legs_of, leg, up_order, down_order}

-- Where an order leads a drone that gets it here: rise and land to a height, go to a place and a yaw.
abbrev pub led_to : List ℤ → Option Order → List ℤ
led_to here (Some (order.Rise z ms)) = at here 0 ∷ at here 1 ∷ z ∷ at here 3 ∷ []
led_to here (Some (order.Go x y z yaw ms)) = x ∷ y ∷ z ∷ yaw ∷ []
led_to here (Some (order.Land z ms)) = at here 0 ∷ at here 1 ∷ z ∷ at here 3 ∷ []
led_to here o = here

-- how long it takes, where one that has no time takes this
abbrev pub time_of : ℕ → Option Order → ℕ
time_of ms (Some (order.Rise z n)) = n
time_of ms (Some (order.Go x y z yaw n)) = n
time_of ms (Some (order.Land z n)) = n
time_of ms o = ms

-- from rest to rest: the control points of `move` (docs/TRAJECTORY.md)
abbrev pub rest_points : ℤ → ℤ → List ℤ
rest_points u v = u ∷ u ∷ u ∷ u ∷ v ∷ v ∷ v ∷ v ∷ []

-- Where the drone is on an axis, at the part a / c of the time of an order that it obeys from here on: it flies from
-- rest to rest, as the high-level commander does. A numerator over c ^ 7, like `decoded`.
abbrev pub obeyed : List ℤ → Option Order → ℕ → ℕ → ℕ → ℤ
obeyed here o axis a c = bern (rest_points (at here axis) (at (led_to here o) axis)) (pos a) (pos c)

-- Orders by leg draw a way: each takes as long as its leg, and at each moment of the leg the drone that obeys it from
-- where the leg begins is where the way is, on x, y, z and yaw.
pub record Draws (t : Traj) (told : List Leg → ℕ → Option Order) : Type 0 where
  pub in_time : (k : ℕ) → time_of (leg (legs_of t) k).ms (told (legs_of t) k) ≡ (leg (legs_of t) k).ms
  pub along : (m : Moment) (axis : ℕ) → m.cue < length t.segments → axis < 4 →
      obeyed (leg (legs_of t) m.cue).from (told (legs_of t) m.cue) axis m.a m.c ≡ decoded t axis m

-- In particular a rise and a landing, which have a height alone, lead straight up and straight down.
pub record DrawLaw : Type 0 where
  pub up : (t : Traj) → IsWayUp t → Draws t up_order
  pub down : (t : Traj) → IsWayDown t → Draws t down_order
