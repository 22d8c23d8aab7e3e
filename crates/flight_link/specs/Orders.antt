-- What crews rely on: what goes out is what the director says, and a flight that ends with 0 was told to each drone.
use Rattle.std.specs.Prelude.{◌≡◌, ◌⊎◌, ℕ, ◌≤◌, List, ◌++◌, length}
use Rattle.std.specs.List.{All}
use Rattle.link_frames.specs.Frames.{end_frame}
use Rattle.flight_model.specs.declared.events.Event.{Event}
use Rattle.flight_model.specs.declared.flights.Flight.{Flight}
use Rattle.flight_model.specs.Directors.{drones, sent, start}
use Rattle.flight_model.specs.Law.{ordered, orders_to}
use Rattle.flight_link.specs.Frames.{IsEvent}
use Rattle.flight_link.specs.Sends.{events_bytes, sent_over}
use Rattle.link_dialogue.specs.Dialogues.{BeginsWith}
use Rattle.flight_link.specs.Flights.{FlightFails, FlightGives}

-- These events stand at the front of the bytes, and all that goes out is what the director says at them, and then the
-- end frame.
pub record Says (f : Flight) (bytes : List ℕ) (status : ℕ) (output : List ℕ) : Type 0 where
  pub events : List Event
  pub each : All (IsEvent (drones f)) events
  pub stand : BeginsWith (events_bytes events) bytes
  pub said : output ≡ sent_over f events ++ end_frame status

-- the same, and each drone was told all steps of the flight, in order, and nothing else
pub record SaysWhole (f : Flight) (bytes output : List ℕ) : Type 0 where
  pub says : Says f bytes 0 output
  pub told : (d : ℕ) → orders_to d (sent f (start f) says.events) ≡ ordered d f.steps

pub record OrdersLaw : Type 0 where
  -- whatever the status
  pub ended : (f : Flight) (bytes : List ℕ) (status : ℕ) (output : List ℕ) → FlightGives f bytes status output →
      Says f bytes status output
  pub failed : (f : Flight) (taken output : List ℕ) → FlightFails f taken output → Says f taken 6 output
  -- what a failed write leaves of it is a prefix of what the director says, or begins with all of that
  pub cut : (f : Flight) (bytes : List ℕ) (status : ℕ) (output part : List ℕ) (s : Says f bytes status output) →
      BeginsWith part output →
      BeginsWith part (sent_over f s.events) ⊎ BeginsWith (sent_over f s.events) part
  -- status 0
  pub whole : (f : Flight) (bytes output : List ℕ) → 1 ≤ length f.steps → FlightGives f bytes 0 output →
      SaysWhole f bytes output
