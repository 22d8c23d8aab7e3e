-- Whom the orders of a flight reach. Its drones are put into a group, and only they obey the start; a drone that isn't
-- of the flight stays as it is, whatever it holds in its memory (docs/RADIO.md).
use Rattle.std.specs.Prelude.{◌≡◌, ℕ, ◌<◌, Bool, true, false, not, ◌||◌, ◌==◌, bit_and, if◌then◌else◌, List, [], ◌∷◌}
use Rattle.std.specs.Prelude.{◌++◌, length, Contains}
use Rattle.std.specs.List.{flat_map}
use Rattle.flight_model.specs.declared.events.Order.{Order}
use Rattle.flight_model.specs.declared.events.Order.TheVariants as order
use Rattle.flight_model.specs.declared.events.Event.{Event}
use Rattle.flight_model.specs.declared.events.Event.TheVariants.{Answered}
use Rattle.flight_model.specs.declared.events.Frame.{Frame}
use Rattle.flight_model.specs.declared.events.Frame.TheVariants.{To, ToAll, Noted, Over}
use Rattle.flight_model.specs.declared.flights.Flight.{Flight}
use Rattle.flight_model.specs.Legs.{Routes, IsFlight, steps_of}
use Rattle.flight_model.specs.Directors.{drones, start, says, after, sent}
use Rattle.flight_model.specs.Law.{IsOnward, only_if, orders_to}

-- ---- groups

-- The groups of a drone are the bits of a byte; those that a packet is for are bits too. The flight's group is the
-- first one.
abbrev pub flight_group : ℕ
flight_group = 1

-- A packet for no group is for every drone, else it is for the drones in one of its groups.
abbrev pub is_for : (mask group : ℕ) → Bool
is_for mask group = mask == 0 || not (bit_and mask group == 0)

-- ---- a drone

-- A drone, as far as orders change it: its groups, and the orders that it has obeyed. One that was just switched on is
-- in none.
pub record Drone : Type 0 where
  pub group : ℕ
  pub obeyed : List Order

-- a drone that obeys an order
abbrev pub does : Drone → Order → Drone
does x o = record x { obeyed = x.obeyed ++ o ∷ [] }

-- An order reaches a drone. One to be in the flight's group takes it out of all others; a start for another group
-- changes nothing.
abbrev pub obeys : Drone → Order → Drone
obeys x order.Arm = does x order.Arm
obeys x (order.Rise z ms) = does x (order.Rise z ms)
obeys x (order.Go a b z yaw ms) = does x (order.Go a b z yaw ms)
obeys x (order.Land z ms) = does x (order.Land z ms)
obeys x order.Start = if is_for flight_group x.group then does x order.Start else x
obeys x order.Halt = does x order.Halt
obeys x order.Disarm = does x order.Disarm
obeys x order.Group = record { group = flight_group; obeyed = x.obeyed ++ order.Group ∷ [] }

-- orders reach it, one after the other
abbrev pub obeys_all : Drone → List Order → Drone
obeys_all x [] = x
obeys_all x (o ∷ os) = obeys_all (obeys x o) os

-- ---- a drone that isn't of the flight

-- A start and a halt go out to all on the channel at once. Each other order goes to drones of the flight, one by one.
abbrev pub is_broadcast : Order → Bool
is_broadcast order.Arm = false
is_broadcast (order.Rise z ms) = false
is_broadcast (order.Go x y z yaw ms) = false
is_broadcast (order.Land z ms) = false
is_broadcast order.Start = true
is_broadcast order.Halt = true
is_broadcast order.Disarm = false
is_broadcast order.Group = false

-- the order of a frame that reaches a drone that isn't of the flight
abbrev pub overheard_by : Frame → List Order
overheard_by (To d o) = []
overheard_by (ToAll o) = only_if (is_broadcast o) o
overheard_by (Noted n) = []
overheard_by (Over flown kept) = []

abbrev pub overheard : List Frame → List Order
overheard frames = flat_map overheard_by frames

-- ---- the law

-- With one of these events drone k was told to be in the flight's group, and after that it answered with 0.
pub record HasJoined (f : Flight) (events : List Event) (k : ℕ) : Type 0 where
  pub earlier : List Event
  pub asking : Event
  pub between : List Event
  pub later : List Event
  pub are : events ≡ earlier ++ asking ∷ (between ++ Answered k 0 ∷ later)
  pub told : Contains (orders_to k (says f (after f (start f) earlier) asking)) order.Group

-- Of every flight and every list of events.
pub record OursLaw : Type 0 where
  -- Before anybody is told to arm, rise, go or start, each drone was told to be in the flight's group, and answered.
  pub joined : (f : Flight) (w : Routes) → IsFlight w → f.steps ≡ steps_of w → drones f ≡ length w.show →
      (events : List Event) (d : ℕ) (o : Order) → IsOnward o → Contains (orders_to d (sent f (start f) events)) o →
      (k : ℕ) → k < drones f → HasJoined f events k
  -- A drone of the flight that is told to start obeys, in whatever groups it was.
  pub ours : (f : Flight) (w : Routes) → f.steps ≡ steps_of w → (events : List Event) (d : ℕ) → d < length w.up →
      (x : Drone) → Contains (orders_to d (sent f (start f) events)) order.Start →
      Contains (obeys_all x (orders_to d (sent f (start f) events))).obeyed order.Start
  -- A drone that isn't of the flight, and in no group, stays as it is, if all aren't halted.
  pub strangers : (f : Flight) (events : List Event) (x : Drone) → x.group ≡ 0 →
      (Contains (overheard (sent f (start f) events)) order.Halt → ⊥) →
      obeys_all x (overheard (sent f (start f) events)) ≡ x
