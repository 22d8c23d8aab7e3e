-- What a flight sends over a link, what comes in, and with which status its end was said (docs/PROMISES.md, "Its
-- frames").
use Rattle.std.specs.Prelude.{◌≡◌, ℕ, ◌≤◌, Bool, true, List, [], ◌∷◌, ◌++◌, length, Option, Some, None}
use Rattle.std.specs.List.{flat_map}
use Rattle.flight_model.specs.declared.events.Event.{Event}
use Rattle.flight_model.specs.declared.events.Frame.{Frame}
use Rattle.flight_model.specs.declared.events.Frame.TheVariants.{To, ToAll, Noted, Over}
use Rattle.flight_model.specs.declared.flights.Flight.{Flight}
use Rattle.flight_model.specs.Directors.{start, sent}
use Rattle.flight_link.specs.Frames.{IsEvent, event_bytes, output_bytes}

-- ---- out

-- the bytes of frames, one after the other
abbrev pub frames_bytes : List Frame → List ℕ
frames_bytes frames = flat_map output_bytes frames

-- all that is sent up to the last of these events, which are all that happened to the flight
unfoldable pub sent_over : Flight → List Event → List ℕ
sent_over f events = frames_bytes (sent f (start f) events)

-- The status of a flight that is over: 0 where it was flown to its last step and kept, else 20.
abbrev pub status_of : Bool → Bool → ℕ
status_of true true = 0
status_of flown kept = 20

-- the status of the end that a frame says, if it says one
abbrev pub end_of : Frame → Option ℕ
end_of (To d o) = None
end_of (ToAll o) = None
end_of (Noted n) = None
end_of (Over flown kept) = Some (status_of flown kept)

-- the first of two, if there is one, else the second
abbrev pub first_of_two : Option ℕ → Option ℕ → Option ℕ
first_of_two None second = second
first_of_two (Some status) second = Some status

-- the status of the first end that frames say
abbrev pub end_in : List Frame → Option ℕ
end_in [] = None
end_in (frame ∷ frames) = first_of_two (end_of frame) (end_in frames)

-- the status with which these events end the flight; None while it goes on
unfoldable pub ended : Flight → List Event → Option ℕ
ended f events = end_in (sent f (start f) events)

-- ---- in

-- the bytes of events, one after the other
abbrev pub events_bytes : List Event → List ℕ
events_bytes events = flat_map event_bytes events

-- the bytes begin with no whole event: there is none, the first one is unfinished, or one of its bytes has no place
abbrev pub BeginsNoEvent : ℕ → List ℕ → Type 0
BeginsNoEvent drones bytes = (e : Event) (later : List ℕ) → IsEvent drones e → bytes ≡ event_bytes e ++ later → ⊥

-- bytes that an event begins with and that aren't all of it; no byte is so too
pub record IsBegun (drones : ℕ) (bytes : List ℕ) : Type 0 where
  pub event : Event
  pub more : List ℕ
  pub formed : IsEvent drones event
  pub cut : event_bytes event ≡ bytes ++ more
  pub some : 1 ≤ length more
