-- A flight through frames as a dialogue over a link: how it ends, and what it sends.
use Rattle.std.specs.Prelude.{◌≡◌, ◌↔◌, ℕ, List, Option, None}
use Rattle.link_dialogue.specs.Dialogues.{BeginsWith, Dialogue, DialogueFails, DialogueGives}
use Rattle.link_dialogue.specs.Dialogues.{IsPrompt as IsPromptDialogue}
use Rattle.link_dialogue.specs.Dialogues.{StopsAtEnd as DialogueStops, Takes as DialogueTakes}
use Rattle.flight_model.specs.declared.events.Event.{Event}
use Rattle.flight_model.specs.declared.flights.Flight.{Flight}
use Rattle.flight_model.specs.declared.states.Phase.TheVariants.{Ended}
use Rattle.flight_model.specs.Directors.{after, drones, start}
use Rattle.flight_link.specs.Frames.{IsEvent, event_bytes}
use Rattle.flight_link.specs.Sends.{IsBegun, ended, sent_over}

-- the dialogue of the director of a flight, whose items are events
abbrev pub dialogue_of : Flight → Dialogue
dialogue_of f = record {
  Item = Event;
  IsItem = IsEvent (drones f);
  bytes = event_bytes;
  IsBegun = IsBegun (drones f);
  ended = λ events. ended f events;
  sent = λ events. sent_over f events;
}

-- Of these bytes a flight takes these events, and the others stand after them.
abbrev pub Takes : Flight → List ℕ → List Event → List ℕ → Type 0
Takes f bytes events rest = DialogueTakes (dialogue_of f) bytes events rest

-- A flight that gets these bytes ends with this status, and sends this in all: what the director says at each event,
-- and the end frame.
abbrev pub FlightGives : Flight → List ℕ → ℕ → List ℕ → Type 0
FlightGives f bytes status output = DialogueGives (dialogue_of f) bytes status output

-- A read failed after these bytes. What was sent ends with the end frame of a failed read.
abbrev pub FlightFails : Flight → List ℕ → List ℕ → Type 0
FlightFails f taken output = DialogueFails (dialogue_of f) taken output

-- no answer of a flight waits for much further input
abbrev pub IsPrompt : Flight → List ℕ → List ℕ → Type 0
IsPrompt f taken sent = IsPromptDialogue (dialogue_of f) taken sent

-- no more is read once a flight is over
abbrev pub StopsAtEnd : Flight → Option (List ℕ) → Option (List ℕ) → Type 0
StopsAtEnd f stream left = DialogueStops (dialogue_of f) stream left

-- Whatever bytes come, a flight has one end, with one output; and where it goes on after some events, one whose output
-- begins with all that is sent up to the last of them. Its end was said exactly where the director's phase is `Ended`.
pub record FlightLinkLaw : Type 0 where
  pub one : (f : Flight) (bytes : List ℕ) (status other : ℕ) (output others : List ℕ) →
      FlightGives f bytes status output → FlightGives f bytes other others → (status ≡ other) × (output ≡ others)
  pub some : (f : Flight) (bytes rest : List ℕ) (events : List Event) → Takes f bytes events rest →
      (status : ℕ) × (output : List ℕ) × FlightGives f bytes status output × BeginsWith (sent_over f events) output
  pub over : (f : Flight) (events : List Event) →
      (ended f events ≡ None → ⊥) ↔ ((after f (start f) events).phase ≡ Ended)
