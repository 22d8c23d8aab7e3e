-- Who is heard outside of the flight's room while drones are in the air is told of, and all land in that very event, or
-- as soon as they may.
use Rattle.std.specs.Prelude.{◌≡◌, ◌⊎◌, ℕ, ◌<◌, false, List, ℤ, slice_get, Some, Contains}
use Rattle.flight_model.specs.declared.events.Order.TheVariants as order
use Rattle.flight_model.specs.declared.events.Sample.{Sample}
use Rattle.flight_model.specs.declared.events.Event.{Event}
use Rattle.flight_model.specs.declared.events.Event.TheVariants.{Seen}
use Rattle.flight_model.specs.declared.events.Fault.TheVariants.{Outside}
use Rattle.flight_model.specs.declared.flights.Flight.{Flight}
use Rattle.flight_model.specs.Rooms.{IsInRoom}
use Rattle.flight_model.specs.Directors.{Track, Steps, Landing, drones, start, notes, after, sent}
use Rattle.flight_model.specs.Law.{LandsOrWaits, orders_to}
use Rattle.flight_model.specs.Alarms.{IsToLand, note_of}

-- At these events some drone of the flight was told to rise.
pub record HasRisen (f : Flight) (events : List Event) : Type 0 where
  pub riser : ℕ
  pub z : ℤ
  pub ms : ℕ
  pub known : riser < drones f
  pub told : Contains (orders_to riser (sent f (start f) events)) (order.Rise z ms)

-- After these events drone d is heard outside of the room, while drones are in the air.
pub record IsHeardOutside (f : Flight) (events : List Event) (d : ℕ) (x : Sample) : Type 0 where
  pub known : d < drones f
  pub risen : HasRisen f events
  pub out : IsInRoom f.room x → ⊥

-- Of every flight and every list of events.
pub record OutsideLaw : Type 0 where
  -- On the way people are told of it, unless a landing waits; and all land, in that very event, or as soon as they may,
  -- but in a show that flies on.
  pub told : (f : Flight) (events : List Event) (d : ℕ) (x : Sample) → IsHeardOutside f events d x →
      (after f (start f) events).phase ≡ Steps → IsToLand f (after f (start f) events) →
      (after f (start f) events).wanted ≡ false →
      Contains (notes f (after f (start f) events) (Seen d x)) (note_of d Outside)
  pub lands : (f : Flight) (events : List Event) (d : ℕ) (x : Sample) → IsHeardOutside f events d x →
      (after f (start f) events).phase ≡ Steps → IsToLand f (after f (start f) events) →
      LandsOrWaits f (after f (start f) events) (Seen d x)
  -- In such a show, while a landing waits, and while all land, people are told of it, unless its last sample was
  -- outside too.
  pub once : (f : Flight) (events : List Event) (d : ℕ) (x : Sample) (t : Track) → IsHeardOutside f events d x →
      ((after f (start f) events).phase ≡ Steps) ⊎ ((after f (start f) events).phase ≡ Landing) →
      slice_get (after f (start f) events).tracks d ≡ Some t → t.outside ≡ false →
      Contains (notes f (after f (start f) events) (Seen d x)) (note_of d Outside)
