-- What `direct` gives, reads and writes: the way up, the show and the way down, each a text that a marker line ends,
-- and then the frames of their flight.
use Rattle.std.specs.Prelude.{◌≡◌, ◌≢◌, ℕ, ◌+◌, ◌≤◌, List, ◌∷◌, ◌++◌, length, Option, Some, None}
use Rattle.std.specs.Io.KnownBytes.{Appends}
use Rattle.text_lines.specs.Marker.{part_of, rest_of}
use Rattle.choreo_reader.specs.Grammar.{StandsFor}
use Rattle.choreo_show.specs.Plain.{PlainShow}
use Rattle.byte_streams.specs.Held.{buffer_bytes}
use Rattle.link_frames.specs.Frames.{end_byte}
use Rattle.flight_model.specs.declared.events.Event.{Event}
use Rattle.flight_model.specs.declared.flights.Flight.{Flight}
use Rattle.flight_model.specs.Kept.{IsKeptShow}
use Rattle.flight_steps.specs.declared.faults.FlightFault.{FlightFault}
use Rattle.flight_link.specs.Flights.{FlightFails, FlightGives, IsPrompt, StopsAtEnd, Takes}
use Rattle.flight_link.specs.Orders.{SaysWhole}
use Rattle.flight_link.specs.Sends.{ended}
use Rattle.show_judge.specs.Headline.{FliesText}
use Rattle.show_judge.specs.Outcome.{IsVerb}
use Rattle.show_judge.specs.Verb.{Verb, outcome}
use Rattle.command_words.specs.declared.flight.FlightOptions.{FlightOptions}
use Rattle.show_direct.specs.Flights.{AreFlight, fault_of, flight_of}
use Rattle.show_direct.specs.Frames.{no_flight_byte, no_flight_bytes}
use Rattle.show_direct.specs.Exchanges.{Exchange, text_exchange, text_verb}

-- ---- the flight

-- the bytes have events that lead to status 0
abbrev pub FlightSucceeds : Flight → List ℕ → Type 0
FlightSucceeds f bytes = (events : List Event) × (rest : List ℕ) × Takes f bytes events rest × (ended f events ≡ Some 0)

-- The exchange of three shows, of which this is the flight, and this the first cause why they are none. Without a cause
-- the flight is flown through frames. With one a frame that names it and the end frame of 19 are written, and no byte
-- is read for them.
abbrev pub exchange_by : FlightOptions → PlainShow → PlainShow → PlainShow → Option FlightFault → Exchange
exchange_by o up show down None = record {
  gives = λ bytes p. FlightGives (flight_of o up show down) bytes p.status p.output;
  stops = λ taken output. FlightFails (flight_of o up show down) taken output;
  prompt = λ taken sent. IsPrompt (flight_of o up show down) taken sent;
  ends = λ bytes left. StopsAtEnd (flight_of o up show down) (Some bytes) (Some left);
  begun = λ bytes. AreFlight o up show down;
  succeeds = λ bytes. FlightSucceeds (flight_of o up show down) bytes;
}
exchange_by o up show down (Some fault) = record {
  gives = λ bytes p. p ≡ outcome 19 (no_flight_bytes fault);
  stops = λ taken output. ⊥;
  prompt = λ taken sent. Unit {0};
  ends = λ bytes left. length bytes ≤ length left + buffer_bytes;
  begun = λ bytes. ⊥;
  succeeds = λ bytes. ⊥;
}

abbrev pub flight_exchange : FlightOptions → PlainShow → PlainShow → PlainShow → Exchange
flight_exchange o up show down = exchange_by o up show down (fault_of o up show down)

-- ---- the texts

-- with a way up and a show: the text of the way down, and then the flight
abbrev pub down_verb : FlightOptions → PlainShow → PlainShow → Verb
down_verb o up show = text_verb o.depth (λ down. flight_exchange o up show down)

abbrev pub down_exchange : FlightOptions → PlainShow → PlainShow → Exchange
down_exchange o up show = text_exchange o.depth (λ down. flight_exchange o up show down)

-- with a way up: the text of the show, and then the way down
abbrev pub show_verb : FlightOptions → PlainShow → Verb
show_verb o up = text_verb o.depth (λ show. down_exchange o up show)

abbrev pub show_exchange : FlightOptions → PlainShow → Exchange
show_exchange o up = text_exchange o.depth (λ show. down_exchange o up show)

abbrev pub up_exchange : FlightOptions → Exchange
up_exchange o = text_exchange o.depth (λ up. show_exchange o up)

-- ---- the command

-- The input is three texts and frames. The texts stand for shows that are a flight, of which the first keeps near to
-- what it says, and apart. What was written is what the director says at events that stand in the frames. By these
-- events each drone was told all its orders and nothing else, was at its curve in each sample of the show, and was
-- never silent in it.
pub record FliesWhole (o : FlightOptions) (input : List ℕ) (old new : Option (List ℕ)) : Type 0 where
  pub up : FliesText (part_of input)
  pub show : PlainShow
  pub down : PlainShow
  pub show_stands : StandsFor (part_of (rest_of input)) show
  pub down_stands : StandsFor (part_of (rest_of (rest_of input))) down
  pub flight : AreFlight o up.s show down
  pub output : List ℕ
  pub says : SaysWhole (flight_of o up.s show down) (rest_of (rest_of (rest_of input))) output
  pub kept : IsKeptShow (flight_of o up.s show down) says.says.events
  pub written : Appends old new output

-- the way up, and then the show
abbrev pub direct_verb : FlightOptions → Verb
direct_verb o =
    record (text_verb o.depth (λ up. show_exchange o up)) { headline = λ input old new. FliesWhole o input old new }

-- The three texts at the front of an input stand for shows that are a flight. At every instant of each of them what its
-- drones are sent keeps near to what it says, and any two drones keep apart.
pub record FlyAsOne (o : FlightOptions) (input : List ℕ) : Type 0 where
  pub up : FliesText (part_of input)
  pub show : FliesText (part_of (rest_of input))
  pub down : FliesText (part_of (rest_of (rest_of input)))
  pub flight : AreFlight o up.s show.s down.s

-- The flight began, by what was written before and after: first of all a byte that begins neither an end frame nor the
-- frame of a cause. Of texts that are no flight these are all that is written.
abbrev pub HasBegun : Option (List ℕ) → Option (List ℕ) → Type 0
HasBegun old new =
    (before later : List ℕ) × (byte : ℕ) × (old ≡ Some before) × (new ≡ Some (before ++ byte ∷ later))
    × (byte ≢ end_byte) × (byte ≢ no_flight_byte)

-- the laws of the three commands
pub record DirectLaw : Type 0 where
  pub up : (o : FlightOptions) → IsVerb (direct_verb o)
  pub show : (o : FlightOptions) (up : PlainShow) → IsVerb (show_verb o up)
  pub down : (o : FlightOptions) (up show : PlainShow) → IsVerb (down_verb o up show)
