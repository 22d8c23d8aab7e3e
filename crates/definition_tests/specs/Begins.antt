-- What the definitions of starts say of small uploads.
use Rattle.std.specs.Prelude.{◌≡◌, ℕ, ◌∷◌, ◌++◌, [], List, false, true, replicate, slice_index, take, None, Some}
use Rattle.upload_model.specs.declared.events.WorldEvent.{WorldEvent}
use Rattle.upload_model.specs.declared.events.WorldEvent.TheVariants.{Tick, Take, Hear, Alter}
use Rattle.upload_model.specs.Drones.{DroneState}
use Rattle.upload_model.specs.Sessions.{Upload}
use Rattle.upload_model.specs.Starts.{TakesOneStart, begins, beginnings, beginnings_in, starts_in}
use Rattle.upload_model.specs.Taking.{AcceptsLoad, AreOwn, IsAccepted}
use Rattle.upload_model.specs.Theorem.{IsSafe, IsUnaltered}
use Rattle.upload_model.specs.Worlds.{World, start_world, world}
use Rattle.upload_model.specs.Hosts.{progress}
use Rattle.upload_model.specs.Readback.{WasRight}
use Rattle.upload_model.specs.declared.events.Event.{Event}
use Rattle.upload_model.specs.declared.events.Progress.TheVariants.{Done}
use Rattle.crtp_packets.specs.Commands.{start_of}

-- One drone and a load of three bytes, one segment: its packets are a write, the define and the start.
abbrev pub session : Upload
session =
    record {
      memory_id = 0;
      offset = 0;
      trajectory_id = 0;
      loads = record { bytes = 1 ∷ 2 ∷ 3 ∷ []; pieces = 1 } ∷ [];
      readback = false;
      start = true;
    }

abbrev pub blank : ℕ → DroneState
blank d = record { memory_id = 0; memory = replicate 8 255; table = replicate 10 None; started = None }

-- write and define are taken and answered, so that the start is sent
abbrev pub loaded : List WorldEvent
loaded = Take 0 0 ∷ Hear 0 0 ∷ Take 0 1 ∷ Hear 0 1 ∷ []

-- the start is taken and answered
abbrev pub started : List WorldEvent
started = loaded ++ Take 0 2 ∷ Hear 0 2 ∷ []

-- A moment of an upload: this was heard, the drones are these, and a start was sent to each or to none.
abbrev pub moment_of : List Event → (ℕ → DroneState) → List (List ℕ) → World
moment_of heard drones sent = record { heard = heard; drones = drones; sent = λ d. sent; given = λ d. [] }

-- each drone has an entry from before
abbrev pub listed : ℕ → DroneState
listed d = record (blank d) { table = Some (record { offset = 0; pieces = 1 }) ∷ replicate 9 None }

-- A drone that takes the start once begins once. One that the link hands it twice begins twice, and so does one that
-- takes a start that was sent again; one that takes none doesn't begin, nor does one that refuses it, since it has no
-- entry.
pub record BeginRows : Type 0 where
  pub none : beginnings session (start_world session blank) 0 loaded ≡ 0
  pub once : beginnings session (start_world session blank) 0 (loaded ++ Take 0 2 ∷ []) ≡ 1
  pub repeated : beginnings session (start_world session blank) 0 (loaded ++ Take 0 2 ∷ Take 0 2 ∷ []) ≡ 2
  pub sent_again : beginnings session (start_world session blank) 0 (loaded ++ Take 0 2 ∷ Tick ∷ Take 0 3 ∷ []) ≡ 2
  pub other_packets : beginnings session (start_world session blank) 0 (loaded ++ Take 0 0 ∷ Take 0 1 ∷ Take 1 2 ∷ [])
      ≡ 0
  pub done : progress session (world session blank started).heard ≡ Done
  pub one : TakesOneStart session blank started 0
  pub two : TakesOneStart session blank (loaded ++ Take 0 2 ∷ Take 0 2 ∷ []) 0 → ⊥
  pub altered : IsUnaltered (Tick ∷ Alter 0 1 2 ∷ []) → ⊥
  pub accepted : begins session (moment_of [] listed (start_of 0 ∷ [])) 0 (Take 0 0) ≡ true
  pub refused : begins session (moment_of [] blank (start_of 0 ∷ [])) 0 (Take 0 0) ≡ false

-- Packet 0 is the write, 1 the define, 2 the start. A drone begins once for each start that it takes after its define.
-- It refuses one that comes before, unless it has an entry from before.
pub record OrderRows : Type 0 where
  pub none : beginnings_in session 0 (blank 0) (0 ∷ 1 ∷ 0 ∷ []) ≡ 0
  pub once : beginnings_in session 0 (blank 0) (0 ∷ 1 ∷ 2 ∷ 1 ∷ []) ≡ 1
  pub twice : beginnings_in session 0 (blank 0) (1 ∷ 2 ∷ 0 ∷ 2 ∷ []) ≡ 2
  pub early : beginnings_in session 0 (blank 0) (2 ∷ 0 ∷ 1 ∷ []) ≡ 0
  pub from_before : beginnings_in session 0 (listed 0) (2 ∷ 0 ∷ 1 ∷ []) ≡ 1
  pub counted : starts_in session 0 (2 ∷ 0 ∷ 1 ∷ 2 ∷ []) ≡ 2
  pub accepts : AcceptsLoad session 0 (blank 0) (1 ∷ 0 ∷ [])
  pub no_define : AcceptsLoad session 0 (blank 0) (0 ∷ 2 ∷ []) → ⊥
  pub refused : IsAccepted session 0 (blank 0) (2 ∷ 0 ∷ 1 ∷ []) 2 → ⊥
  pub own : AreOwn session 0 (2 ∷ []) × (AreOwn session 0 (3 ∷ []) → ⊥)

-- No moment is safe in which a start was sent to a drone that hasn't its load, in which a byte outside of the load
-- changed, or in which all is acknowledged and a drone hasn't its load, or hasn't started.
pub record SafeRows : Type 0 where
  pub start_first : IsSafe session blank (moment_of [] blank (start_of 0 ∷ [])) → ⊥
  pub outside : IsSafe session blank
      (moment_of [] (λ d. record (blank d) { memory = 255 ∷ 255 ∷ 255 ∷ 254 ∷ 255 ∷ 255 ∷ 255 ∷ 255 ∷ [] }) []) → ⊥
  pub not_loaded : IsSafe session blank (moment_of (world session blank started).heard blank []) → ⊥
  pub not_started : IsSafe session blank (moment_of (world session blank started).heard
      (λ d. record ((world session blank started).drones d) { started = None }) []) → ⊥

-- with read-back: packet 2 is a read, and 3 the start
abbrev pub reading : Upload
reading = record session { readback = true }

-- a byte of drone 0 after these events of an upload with read-back
abbrev pub byte_after : (ℕ → DroneState) → List WorldEvent → ℕ → ℕ
byte_after drones events place = slice_index ((world reading drones events).drones 0).memory place

-- A read that was right found the bytes of the load, for all drones and all events.
pub record ReadRows : Type 0 where
  pub found : (drones : ℕ → DroneState) (events : List WorldEvent) → WasRight reading drones events 0 0 →
      (i : ℕ) × (byte_after drones (take i events) 0 ≡ 1) × (byte_after drones (take i events) 1 ≡ 2)
      × (byte_after drones (take i events) 2 ≡ 3)
  pub unread : WasRight reading blank loaded 0 0 → ⊥
