-- The upload theorem: what holds of every session, with read-back or without, of every drone at the
-- start and of every list of events, whatever the link loses, repeats, delays or reorders.
use Rattle.std.specs.Prelude.{◌≡◌, ◌≢◌, ℕ, ◌<◌, ◌⊎◌, ◌++◌, [], ◌∷◌, true, List, take, slice_get, Some, Contains}
use Rattle.crtp_packets.specs.Commands.{start_of}
use Rattle.upload_model.specs.declared.events.Progress.TheVariants.{Done, Refused, Differs}
use Rattle.upload_model.specs.declared.events.WorldEvent.{WorldEvent}
use Rattle.upload_model.specs.declared.events.WorldEvent.TheVariants.{Take, Alter}
use Rattle.upload_model.specs.Drones.{DroneState}
use Rattle.upload_model.specs.Sessions.{Upload, IsSession, load_of, drone_count, write_count}
use Rattle.upload_model.specs.Memories.{IsDrone, OnlyLoads, HasPiece, HasEntry, HasLoad}
use Rattle.upload_model.specs.Hosts.{acked, progress}
use Rattle.upload_model.specs.Worlds.{World, world}

-- What holds at each moment of an upload where nobody else alters a byte.
pub record IsSafe (s : Upload) (start : ℕ → DroneState) (w : World) : Type 0 where
  -- Only loads are written, each to its own drone.
  pub only : (d : ℕ) → d < drone_count s → OnlyLoads s (load_of s d) (start d) (w.drones d)
  -- What is acknowledged is there.
  pub writes_there : (d k : ℕ) → d < drone_count s → k < write_count s d → acked s w.heard d k ≡ true →
      HasPiece s (load_of s d) k (w.drones d)
  pub defines_there : (d : ℕ) → d < drone_count s → acked s w.heard d (write_count s d) ≡ true →
      HasEntry s (load_of s d) (w.drones d)
  -- After Done each drone has its load and its entry, and where the session starts, it has started.
  pub loaded : (d : ℕ) → d < drone_count s → progress s w.heard ≡ Done → HasLoad s (load_of s d) (w.drones d)
  pub listed : (d : ℕ) → d < drone_count s → progress s w.heard ≡ Done → HasEntry s (load_of s d) (w.drones d)
  pub started : (d : ℕ) → d < drone_count s → progress s w.heard ≡ Done →
      s.start ≡ true → (w.drones d).started ≡ Some s.trajectory_id
  -- No start was sent to any drone unless every drone has its load and its entry.
  pub starts_last : (d i : ℕ) → d < drone_count s → i < drone_count s → Contains (w.sent d) (start_of s.trajectory_id) →
      HasLoad s (load_of s i) (w.drones i) × HasEntry s (load_of s i) (w.drones i)
  -- Where each drone has the session's memory id, no packet is refused.
  pub not_refused : ((d : ℕ) → d < drone_count s → (start d).memory_id ≡ s.memory_id) → (d k status : ℕ) →
      progress s w.heard ≢ Refused d k status
  -- No read differs.
  pub same : (d address byte got : ℕ) → progress s w.heard ≢ Differs d address byte got

-- Nobody else alters a byte.
abbrev pub IsUnaltered : List WorldEvent → Type 0
IsUnaltered events = (i d address value : ℕ) → slice_get events i ≡ Some (Alter d address value) → ⊥

-- A session, and drones for it.
pub record IsCase (s : Upload) (drones : ℕ → DroneState) : Type 0 where
  pub session : IsSession s
  pub fit : (d : ℕ) → d < drone_count s → IsDrone (drones d)

-- For every session, all drones at the start and every list of events without an alteration, each
-- moment is safe. A moment of a list is the end of one of its beginnings, so 'every list' says 'at every
-- moment'.
abbrev pub UploadLaw : Type 0
UploadLaw =
    (s : Upload) (drones : ℕ → DroneState) → IsCase s drones → (events : List WorldEvent) → IsUnaltered events →
    IsSafe s drones (world s drones events)

-- In this world the event is drone d taking a start.
abbrev pub TakesStart : Upload → World → ℕ → WorldEvent → Type 0
TakesStart s w d e = (n : ℕ) × (e ≡ Take d n) × (slice_get (w.sent d) n ≡ Some (start_of s.trajectory_id))

-- One event more: each drone's started id is as before, unless that drone takes a start.
abbrev pub StartLaw : Type 0
StartLaw =
    (s : Upload) (drones : ℕ → DroneState) → IsCase s drones → (events : List WorldEvent) (e : WorldEvent) (d : ℕ) →
    d < drone_count s →
    (((world s drones (events ++ e ∷ [])).drones d).started ≡ ((world s drones events).drones d).started)
    ⊎ TakesStart s (world s drones events) d e

-- Until drone d takes a start its started id is the one from the beginning.
abbrev pub UnstartedLaw : Type 0
UnstartedLaw =
    (s : Upload) (drones : ℕ → DroneState) → IsCase s drones → (events : List WorldEvent) (d : ℕ) → d < drone_count s →
    ((i : ℕ) (e : WorldEvent) → slice_get events i ≡ Some e → TakesStart s (world s drones (take i events)) d e → ⊥) →
    ((world s drones events).drones d).started ≡ (drones d).started

-- At Done, where the session starts, each drone has taken a start at some event, whoever else alters a
-- byte. It may have taken more than one: nothing bounds how often.
abbrev pub TakenLaw : Type 0
TakenLaw =
    (s : Upload) (drones : ℕ → DroneState) → IsCase s drones → (events : List WorldEvent) (d : ℕ) → d < drone_count s →
    s.start ≡ true → progress s (world s drones events).heard ≡ Done →
    (i : ℕ) × (e : WorldEvent) × (slice_get events i ≡ Some e) × TakesStart s (world s drones (take i events)) d e

-- What is acknowledged stays so, and Done stays Done: what follows from them holds at each later
-- moment.
abbrev pub LastingLaw : Type 0
LastingLaw =
    (s : Upload) (drones : ℕ → DroneState) (events later : List WorldEvent) →
    ((d k : ℕ) → acked s (world s drones events).heard d k ≡ true →
    acked s (world s drones (events ++ later)).heard d k ≡ true)
    × (progress s (world s drones events).heard ≡ Done → progress s (world s drones (events ++ later)).heard ≡ Done)

-- What was sent to a drone stays so.
abbrev pub StaysSentLaw : Type 0
StaysSentLaw =
    (s : Upload) (drones : ℕ → DroneState) (events later : List WorldEvent) (d : ℕ) (packet : List ℕ) →
    Contains ((world s drones events).sent d) packet → Contains ((world s drones (events ++ later)).sent d) packet
