-- What read-back says, whoever else alters a byte of a memory: for every session with read-back, all
-- drones at the start and every list of events, whatever the link loses, repeats, delays or reorders.
use Rattle.std.specs.Prelude.{◌≡◌, ℕ, ◌+◌, ◌-◌, ◌<◌, true, false, ◌++◌, [], ◌∷◌, Bool, List, length, take, slice_get}
use Rattle.std.specs.Prelude.{slice_index, Some, Contains}
use Rattle.crtp_packets.specs.Commands.{start_of}
use Rattle.upload_model.specs.declared.events.Event.{Event}
use Rattle.upload_model.specs.declared.events.Progress.TheVariants.{Done}
use Rattle.upload_model.specs.declared.events.WorldEvent.{WorldEvent}
use Rattle.upload_model.specs.declared.events.WorldEvent.TheVariants.{Take, Hear}
use Rattle.upload_model.specs.Drones.{DroneState}
use Rattle.upload_model.specs.Sessions.{Upload, drone_count, load_of, load_count, read_count, read_start, read_address}
use Rattle.upload_model.specs.Sessions.{wanted}
use Rattle.upload_model.specs.Hosts.{acked, progress}
use Rattle.upload_model.specs.Worlds.{world}
use Rattle.upload_model.specs.Memories.{IsInside}
use Rattle.upload_model.specs.Theorem.{IsCase}

-- Read k of drone d is right after the events h: it is acknowledged.
abbrev pub is_right : Upload → List Event → ℕ → ℕ → Bool
is_right s h d k = acked s h d (load_count s d + k)

-- The drone's memory has the load's bytes on the range of read k of drone d.
abbrev pub HasRange : Upload → ℕ → ℕ → DroneState → Type 0
HasRange s d k x =
    (i : ℕ) → i < length (wanted s d k) → slice_index x.memory (read_address s k + i) ≡ slice_index (wanted s d k) i

-- Read k of drone d was right when it was answered.
pub record WasRight (s : Upload) (drones : ℕ → DroneState) (events : List WorldEvent) (d k : ℕ) : Type 0 where
  -- At this event the host heard answer n of all that the drone gave, and by it the read became right.
  pub heard_at : ℕ
  pub n : ℕ
  pub hears : slice_get events heard_at ≡ Some (Hear d n)
  pub before : is_right s (world s drones (take heard_at events)).heard d k ≡ false
  pub after : is_right s (world s drones (take (heard_at + 1) events)).heard d k ≡ true
  -- At this earlier event the drone gave that answer, and its memory had the load's bytes there.
  pub given_at : ℕ
  pub earlier : given_at < heard_at
  pub m : ℕ
  pub takes : slice_get events given_at ≡ Some (Take d m)
  pub answer : List ℕ
  pub gives : (world s drones (take (given_at + 1) events)).given d
      ≡ (world s drones (take given_at events)).given d ++ answer ∷ []
  pub numbered : length ((world s drones (take given_at events)).given d) ≡ n
  pub had : HasRange s d k ((world s drones (take given_at events)).drones d)

-- Each byte of a load is wanted by some read.
abbrev pub ReadsCover : Type 0
ReadsCover =
    (s : Upload) (d i : ℕ) → s.readback ≡ true → i < length (load_of s d).bytes →
    (k : ℕ) × (k < read_count s d) × IsInside (read_start k) (length (wanted s d k)) i
    × (slice_index (wanted s d k) (i - read_start k) ≡ slice_index (load_of s d).bytes i)

-- At Done each read of each drone was right when it was answered.
abbrev pub VerifiedLaw : Type 0
VerifiedLaw =
    (s : Upload) (drones : ℕ → DroneState) → IsCase s drones → (events : List WorldEvent) →
    progress s (world s drones events).heard ≡ Done →
    (d k : ℕ) → d < drone_count s → k < read_count s d → WasRight s drones events d k

-- No start was sent to any drone unless each read of each drone is right, and was so when it was
-- answered.
abbrev pub StartsLastLaw : Type 0
StartsLastLaw =
    (s : Upload) (drones : ℕ → DroneState) → IsCase s drones → (events : List WorldEvent) →
    (d i k : ℕ) → d < drone_count s → i < drone_count s → k < read_count s i →
    Contains ((world s drones events).sent d) (start_of s.trajectory_id) →
    (is_right s (world s drones events).heard i k ≡ true) × WasRight s drones events i k
