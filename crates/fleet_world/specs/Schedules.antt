-- A schedule as text: one event a line (docs/RADIO.md, "Schedules").
use Rattle.std.specs.Prelude.{◌≡◌, ℕ, ◌+◌, ◌-◌, Bool, false, ◌&&◌, ◌==◌, nat_le, if◌then◌else◌, List, [], ◌∷◌, length}
use Rattle.std.specs.Prelude.{codes, slice_index_or, Option, Some, None, Result, Ok, Err}
use Rattle.std.specs.Str.{bytes_eq}
use Rattle.text_lines.specs.declared.token.Comments.TheVariants.{Absent}
use Rattle.text_lines.specs.Lines.{lines_of}
use Rattle.text_lines.specs.Words.{Line, numbered}
use Rattle.text_lines.specs.Numbers.{natural_of}
use Rattle.upload_model.specs.declared.events.WorldEvent.{WorldEvent}
use Rattle.upload_model.specs.declared.events.WorldEvent.TheVariants.{Tick, Take, Hear, Alter}
use Rattle.upload_model.specs.Theorem.{IsUnaltered}
use Rattle.fleet_world.specs.declared.schedule.TheConstants.{MOST_DIGITS, ADDRESS_DIGITS, LAST_ADDRESS, VALUE_DIGITS}
use Rattle.fleet_world.specs.declared.schedule.TheConstants.{MOST_VALUE}

-- The text counts packets and answers from 1, an event counts them from 0. There is no packet 0.
abbrev pub counted_from_0 : Option ℕ → Option ℕ
counted_from_0 None = None
counted_from_0 (Some n) = if n == 0 then None else Some (n - 1)

-- The number of a packet or an answer: 1 to 9 decimal digits, at least 1. Leading zeros are allowed.
abbrev pub number_of : List ℕ → Option ℕ
number_of word = if nat_le (length word) MOST_DIGITS then counted_from_0 (natural_of word) else None

-- The place of a name among the names, where the first of them has this place.
abbrev pub place_from : ℕ → List (List ℕ) → List ℕ → Option ℕ
place_from place [] word = None
place_from place (name ∷ names) word = if bytes_eq name word then Some place else place_from (place + 1) names word

-- The drone of a name: its place among the names, from 0.
abbrev pub drone_of : List (List ℕ) → List ℕ → Option ℕ
drone_of names word = place_from 0 names word

-- What a line of three words does with this packet or answer of this drone.
abbrev pub event_with : List ℕ → Option ℕ → Option ℕ → Option WorldEvent
event_with kind (Some drone) (Some n) =
    if bytes_eq kind (codes "take") then Some (Take drone n)
    else (if bytes_eq kind (codes "hear") then Some (Hear drone n) else None)
event_with kind (Some drone) None = None
event_with kind None n = None

-- A number, where it is at most this one.
abbrev pub at_most : ℕ → Option ℕ → Option ℕ
at_most most None = None
at_most most (Some n) = if nat_le n most then Some n else None

-- The number of a word of at most this many decimal digits, where it is at most this one. Leading zeros
-- are allowed.
abbrev pub number_to : ℕ → ℕ → List ℕ → Option ℕ
number_to digits most word = if nat_le (length word) digits then at_most most (natural_of word) else None

-- The alteration of this drone, address and value.
abbrev pub alter_with : Option ℕ → Option ℕ → Option ℕ → Option WorldEvent
alter_with (Some d) (Some address) (Some value) = Some (Alter d address value)
alter_with (Some d) (Some address) None = None
alter_with (Some d) None value = None
alter_with None address value = None

-- The alteration of a line of four words: `alter`, a name, an address of 1 to 4 digits, 0 to 4095, and a
-- value of 1 to 3 digits, 0 to 255.
abbrev pub alteration_of : List (List ℕ) → List (List ℕ) → Option WorldEvent
alteration_of names words =
    if bytes_eq (slice_index_or words 0 []) (codes "alter")
    then alter_with (drone_of names (slice_index_or words 1 []))
    (number_to ADDRESS_DIGITS LAST_ADDRESS (slice_index_or words 2 []))
    (number_to VALUE_DIGITS MOST_VALUE (slice_index_or words 3 []))
    else None

-- The event of a line: `tick`, or `take` or `hear` with a name and a number; with read-back (true) also
-- an alteration. None where the line is faulty.
abbrev pub event_of : Bool → List (List ℕ) → List (List ℕ) → Option WorldEvent
event_of readback names words =
    if length words == 1 then (if bytes_eq (slice_index_or words 0 []) (codes "tick") then Some Tick else None)
    else (if length words == 3 then event_with (slice_index_or words 0 []) (drone_of names (slice_index_or words 1 []))
    (number_of (slice_index_or words 2 []))
    else (if readback && length words == 4 then alteration_of names words else None))

-- A line's event in front of those of the lines after it; or the line, where it is faulty.
abbrev pub put_event : {E : Type 0} → ℕ → Option E → Result (List E) ℕ → Result (List E) ℕ
put_event number None later = Err number
put_event number (Some event) (Ok events) = Ok (event ∷ events)
put_event number (Some event) (Err faulty) = Err faulty

-- The events of these lines, from the event of each line's words, or the number of the first faulty one.
abbrev pub events_by : {E : Type 0} → (List (List ℕ) → Option E) → List Line → Result (List E) ℕ
events_by read [] = Ok []
events_by read (line ∷ lines) = put_event line.number (read line.words) (events_by read lines)

-- The events of these lines, or the number of the first faulty one.
abbrev pub events_of : Bool → List (List ℕ) → List Line → Result (List WorldEvent) ℕ
events_of readback names lines = events_by (λ words. event_of readback names words) lines

-- What a schedule text says over drones with these names, with read-back (true) or without: the events of
-- its lines with words in order, or the number of the first faulty line. A `#` is a byte like others.
abbrev pub schedule_of : Bool → List (List ℕ) → List ℕ → Result (List WorldEvent) ℕ
schedule_of readback names text = events_of readback names (numbered Absent 1 (lines_of text))

-- Without read-back a schedule alters no byte.
abbrev pub ScheduleLaw : Type 0
ScheduleLaw =
    (names : List (List ℕ)) (text : List ℕ) (events : List WorldEvent) → schedule_of false names text ≡ Ok events →
    IsUnaltered events
