-- Words of private steps. No public clause cites them.
use Rattle.std.specs.Prelude.{◌≡◌, ◌⊎◌, ℕ, ◌+◌, ◌≤◌, Bool, true, false, List, [], ◌∷◌, ◌++◌, Contains, length, drop}
use Rattle.std.specs.Prelude.{Option, Some, None, Result, Ok, Err}
use Rattle.std.specs.Io.KnownBytes.{Appends}
use Rattle.text_lines.specs.Marker.{rest_of}
use Rattle.choreo_show.specs.Plain.{PlainShow}
use Rattle.byte_streams.specs.Causes.{Rose}
use Rattle.byte_streams.specs.Held.{Held, buffer_bytes, has_whole_marker}
use Rattle.byte_streams.specs.Taken.{AppendsFront}
use Rattle.byte_streams.specs.Told.{Told}
use Rattle.whole_numbers.specs.Limits.{most_text}
use Rattle.link_frames.specs.Frames.{end_frame}
use Rattle.refusals.specs.Refusals.{status_of}
use Rattle.flight_model.specs.declared.flights.Flight.{Flight}
use Rattle.flight_model.specs.declared.flights.Step.{Step}
use Rattle.flight_model.specs.Legs.{steps_of}
use Rattle.flight_steps.specs.declared.faults.StepsError.{StepsError}
use Rattle.flight_steps.specs.declared.faults.StepsError.TheVariants as error
use Rattle.show_judge.specs.Answers.{IsAccepted, IsRefusedBy, Wrote}
use Rattle.show_judge.specs.Refused.{IsOfInput}
use Rattle.show_judge.specs.Shows.{Cut, cut_of}
use Rattle.show_judge.specs.Verb.{IsJudged, Outcome, Span}
use Rattle.show_judge.specs.declared.judging.Accepted.{Accepted}
use Rattle.command_words.specs.declared.flight.FlightOptions.{FlightOptions}
use Rattle.show_direct.specs.declared.reading.Unflown.{Unflown}
use Rattle.show_direct.specs.declared.reading.Unflown.TheVariants as unflown
use Rattle.show_direct.specs.Flights.{fault_of, flight_of, routes_of}
use Rattle.show_direct.specs.Frames.{no_flight_bytes}
use Rattle.show_direct.specs.Exchanges.{Exchange, text_ways}
use Rattle.show_direct.specs.Direct.{HasBegun, flight_exchange}

-- ---- a text is read

-- the bytes that are still to come from a source, where `all` is every byte that it ever gives
abbrev pub left_of : List ℕ → Told → List ℕ
left_of all t = drop (length t.given) all

-- and those that are still to come of a reader
abbrev pub coming : Held → List ℕ → Told → List ℕ
coming held all t = held.waiting ++ left_of all t

-- Of these bytes some were taken, in which a marker line stands with its line feed; the others are still to come.
abbrev pub AreMarked : List ℕ → List ℕ → Type 0
AreMarked bytes rest = (taken : List ℕ) × (bytes ≡ taken ++ rest) × (has_whole_marker taken ≡ true)

-- These bytes begin with the text of a show that is accepted; and what stands after its marker line is still to come.
-- Unless the end was met, that line had its line feed.
pub record IsRead (depth : ℕ) (bytes rest : List ℕ) (met : Bool) (a : Accepted) : Type 0 where
  pub accepted : IsAccepted (text_ways depth) depth (cut_of bytes) a
  pub after : rest ≡ rest_of bytes
  pub fed : met ≡ false → AreMarked bytes rest

-- Why there is no show. A refusal is that of the text, of which at most 4,096 bytes after its marker line were taken;
-- where a read failed, no whole marker line was.
abbrev pub IsUnread : ℕ → List ℕ → List ℕ → Bool → ℕ → ℕ → Unflown → Type 0
IsUnread depth bytes left ended faults faults_after (unflown.Refused r) =
    IsRefusedBy (text_ways depth) (cut_of bytes) r × IsOfInput r × (length (rest_of bytes) ≤ length left + buffer_bytes)
IsUnread depth bytes left ended faults faults_after unflown.Read =
    (ended ≡ false) × Rose faults faults_after
    × ((taken : List ℕ) × (bytes ≡ taken ++ left) × (has_whole_marker taken ≡ false))
IsUnread depth bytes left ended faults faults_after (unflown.NoFlight f) = ⊥
IsUnread depth bytes left ended faults faults_after unflown.Memory = Unit {0}

-- what a text gives that was read whole
abbrev pub JudgeGives : ℕ → Cut → Result Accepted Unflown → Type 0
JudgeGives depth cut (Ok a) = IsAccepted (text_ways depth) depth cut a
JudgeGives depth cut (Err (unflown.Refused r)) = IsRefusedBy (text_ways depth) cut r × IsOfInput r
JudgeGives depth cut (Err unflown.Read) = ⊥
JudgeGives depth cut (Err (unflown.NoFlight f)) = ⊥
JudgeGives depth cut (Err unflown.Memory) = Unit {0}

-- a show was read, or this is why not
abbrev pub ReadGives : ℕ → Held → Held → Told → Told → List ℕ → Result Accepted Unflown → Type 0
ReadGives depth held holds old new all (Ok a) = IsRead depth (coming held all old) (coming holds all new) holds.ended a
ReadGives depth held holds old new all (Err why) =
    IsUnread depth (coming held all old) (left_of all new) held.ended old.faults new.faults why

-- ---- an exchange is carried

-- What is written where nothing is flown: the end frame with a status, the first cause and the end frame of 19, or
-- nothing for want of memory.
abbrev pub EndsBy : Unflown → Option (List ℕ) → Option (List ℕ) → ℕ → ℕ → ℕ → Type 0
EndsBy (unflown.Refused r) old new before after status =
    Wrote (status_of r) (end_frame (status_of r)) old new before after status
EndsBy unflown.Read old new before after status = Wrote 6 (end_frame 6) old new before after status
EndsBy (unflown.NoFlight fault) old new before after status =
    Wrote 19 (no_flight_bytes fault) old new before after status
EndsBy unflown.Memory old new before after status = (status ≡ 1) × (new ≡ old) × (after ≡ before)

-- the statuses with which `direct` ends
abbrev pub direct_statuses : List ℕ
direct_statuses = 0 ∷ 1 ∷ 3 ∷ 4 ∷ 5 ∷ 6 ∷ 7 ∷ 8 ∷ 9 ∷ 10 ∷ 11 ∷ 12 ∷ 13 ∷ 14 ∷ 15 ∷ 16 ∷ 18 ∷ 19 ∷ 20 ∷ []

-- What was written where a read failed after some of the bytes that came, and the others are left.
pub record IsCut (x : Exchange) (bytes left : List ℕ) (ended : Bool) (m : Span) (output : List ℕ) : Type 0 where
  pub rose : Rose m.told.faults m.tells.faults
  pub unmet : ended ≡ false
  pub taken : List ℕ
  pub is : bytes ≡ taken ++ left
  pub stops : x.stops taken output

-- A call carried an exchange to a status. These bytes came, and these are left; `ended` says whether the reader had met
-- the end before.
pub record Carries (x : Exchange) (bytes left : List ℕ) (ended : Bool) (m : Span) (status : ℕ) : Type 0 where
  pub gives : IsJudged status → (o : Outcome) × x.gives bytes o × (status ≡ o.status)
      × Appends m.written m.written_after o.output
  pub one : status ≡ 1 → (m.written_after ≡ m.written) × (m.writes_failed_after ≡ m.writes_failed)
  pub six : status ≡ 6 → (output : List ℕ) × IsCut x bytes left ended m output
      × Appends m.written m.written_after output
  pub seven : status ≡ 7 →
      Rose m.writes_failed m.writes_failed_after × ((output : List ℕ) × AppendsFront m.written m.written_after output
      × (((o : Outcome) × x.gives bytes o × (output ≡ o.output)) ⊎ IsCut x bytes left ended m output))
  pub prompt : status ≡ 7 → (taken sent before : List ℕ) → bytes ≡ taken ++ left → m.written ≡ Some before →
      m.written_after ≡ Some (before ++ sent) → x.prompt taken sent
  pub ends : IsJudged status → x.ends bytes left
  pub begun : HasBegun m.written m.written_after ⊎ (status ≡ 0) → x.begun bytes
  pub known : Contains direct_statuses status
  pub reads_later : m.told.faults ≤ m.tells.faults
  pub writes_later : m.writes_failed ≤ m.writes_failed_after

-- ---- a flight is made

-- The steps of the flight of three shows, where nothing keeps them from being one; else the first cause.
abbrev pub StepsMade : FlightOptions → PlainShow → PlainShow → PlainShow → Result (List Step) StepsError → Type 0
StepsMade o up show down (Ok steps) = (steps ≡ steps_of (routes_of o up show down)) × (fault_of o up show down ≡ None)
StepsMade o up show down (Err (error.Fault fault)) = fault_of o up show down ≡ Some fault
StepsMade o up show down (Err error.Memory) = Unit {0}

-- The flight of three shows, where nothing keeps them from being one; else the first cause.
abbrev pub FlightMade : FlightOptions → PlainShow → PlainShow → PlainShow → Result Flight StepsError → Type 0
FlightMade o up show down (Ok f) = (f ≡ flight_of o up show down) × (fault_of o up show down ≡ None)
FlightMade o up show down (Err (error.Fault fault)) = fault_of o up show down ≡ Some fault
FlightMade o up show down (Err error.Memory) = Unit {0}

-- why nothing is flown where there are no steps
abbrev pub unflown_by : StepsError → Unflown
unflown_by (error.Fault fault) = unflown.NoFlight fault
unflown_by error.Memory = unflown.Memory

-- ---- texts are read, one after the other

-- the same, from another state of the source on
abbrev pub since : Told → Span → Span
since t m = record m { told = t }

-- What carries an exchange from one state of a reader and its source on carries another from an earlier state on.
abbrev pub LeadsTo : List ℕ → Exchange → Held → Told → Exchange → Held → Told → Type 0
LeadsTo all x held t y holds u = (left : List ℕ) (m : Span) (status : ℕ) →
    Carries y (coming holds all u) left holds.ended (since u m) status →
    Carries x (coming held all t) left held.ended (since t m) status

-- What was read of an exchange: a flight, from which on it is that flight's; or why there is none, and how the exchange
-- ends for that.
abbrev pub FlightRead : FlightOptions → List ℕ → Exchange → Held → Told → Held → Told → Result Flight Unflown → Type 0
FlightRead o all x held t holds u (Ok f) =
    (up show down : PlainShow) × (f ≡ flight_of o up show down) × (fault_of o up show down ≡ None)
    × LeadsTo all x held t (flight_exchange o up show down) holds u
FlightRead o all x held t holds u (Err why) = (m : Span) (status : ℕ) →
    EndsBy why m.written m.written_after m.writes_failed m.writes_failed_after status →
    Carries x (coming held all t) (left_of all u) held.ended (since t (record m { tells = u })) status

-- There is no flight, and little was read.
abbrev pub TookLittle : Told → Told → Result Flight Unflown → Type 0
TookLittle old new (Ok f) = ⊥
TookLittle old new (Err why) = length new.given ≤ length old.given + (most_text + 4 + buffer_bytes)
