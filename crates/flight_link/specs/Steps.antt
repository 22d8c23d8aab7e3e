-- Words of private steps of a flight. No public clause cites them.
use Rattle.std.specs.Prelude.{◌≡◌, ℕ, List, ◌++◌}
use Rattle.flight_model.specs.declared.events.Event.{Event}
use Rattle.flight_model.specs.declared.flights.Flight.{Flight}
use Rattle.flight_model.specs.Directors.{after, drones, start}
use Rattle.flight_director.specs.Held.{Directed}
use Rattle.flight_link.specs.Frames.{IsEvent, event_bytes}
use Rattle.flight_link.specs.declared.begun.Fed.{Fed}
use Rattle.flight_link.specs.declared.begun.Fed.TheVariants as fed_is
use Rattle.flight_link.specs.Sends.{BeginsNoEvent, IsBegun}

-- What a byte gives with those since the last whole event: an event is begun, it is whole, or no event begins so.
abbrev pub FedGives : ℕ → Fed → List ℕ → Type 0
FedGives drones fed_is.More bytes = IsBegun drones bytes
FedGives drones (fed_is.Whole e) bytes = IsEvent drones e × (bytes ≡ event_bytes e)
FedGives drones fed_is.Bad bytes = (later : List ℕ) → BeginsNoEvent drones (bytes ++ later)

-- The director of a flight and a reader of events stand so after these events, and these bytes of one that is begun.
pub record Stands (f : Flight) (director : Directed) (count : ℕ) (reader : List ℕ) (events : List Event) (bytes : List ℕ)
    : Type 0 where
  pub flight : director.flight ≡ f
  pub counted : count ≡ drones f
  pub state : director.state ≡ after f (start f) events
  pub reads : reader ≡ bytes
  pub begun : IsBegun (drones f) bytes
