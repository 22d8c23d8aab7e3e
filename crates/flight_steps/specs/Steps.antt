-- Words of private functions.
use Rattle.std.specs.Prelude.{◌≡◌, ℕ, Bool, List, [], ◌∷◌, Option, Some, None, ℤ}
use Rattle.whole_numbers.specs.Bernstein.{at}
use Rattle.flight_model.specs.declared.events.Order.{Order}
use Rattle.flight_model.specs.declared.flights.Condition.{Condition}
use Rattle.flight_model.specs.declared.flights.Leg.{Leg}
use Rattle.flight_model.specs.Legs.{Routes, position_of, arm_condition, up_condition, down_condition}
use Rattle.flight_model.specs.Legs.{arm_order, up_order, down_order}
use Rattle.flight_model.specs.declared.flights.Span.{Span}
use Rattle.flight_model.specs.Rooms.{with_value}
use Rattle.flight_steps.specs.declared.parts.Part.{Part}
use Rattle.flight_steps.specs.declared.parts.Part.TheVariants as part

-- The same leg, as far as it is looked at.
pub record IsLike (a b : Leg) : Type 0 where
  pub from_x : at a.from 0 ≡ at b.from 0
  pub from_y : at a.from 1 ≡ at b.from 1
  pub from_z : at a.from 2 ≡ at b.from 2
  pub from_yaw : at a.from 3 ≡ at b.from 3
  pub to_x : at a.to 0 ≡ at b.to 0
  pub to_y : at a.to 1 ≡ at b.to 1
  pub to_z : at a.to 2 ≡ at b.to 2
  pub to_yaw : at a.to 3 ≡ at b.to 3
  pub ms : a.ms ≡ b.ms

abbrev pub condition_at : List ℤ → ℕ → Bool → Bool → Bool → Condition
condition_at place bound ready armed down =
    record { position = position_of place; bound = bound; ready = ready; armed = armed; down = down }

-- what a drone has to meet before leg k, and what it is ordered
abbrev pub condition_in : Part → Routes → ℕ → List Leg → Condition
condition_in part.Arm = arm_condition
condition_in part.Up = up_condition
condition_in part.Down = down_condition

abbrev pub order_in : Part → ℕ → List Leg → Option Order
order_in part.Arm k = λ legs. arm_order legs k
order_in part.Up k = λ legs. up_order legs k
order_in part.Down k = λ legs. down_order legs k

-- a span, if there is one, with a value more, and with values more
abbrev pub with_one : Option Span → ℤ → Span
with_one None v = record { low = v; high = v }
with_one (Some s) v = with_value s v

abbrev pub with_more : Option Span → List ℤ → Option Span
with_more s [] = s
with_more s (v ∷ vs) = with_more (Some (with_one s v)) vs
