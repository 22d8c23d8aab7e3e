-- What the definition of an upload that goes right says of small ones.
use Rattle.std.specs.Prelude.{◌≡◌, ℕ, ◌+◌, ◌*◌, ◌<◌, ◌≤◌, [], List, Contains, true, length, slice_index, take}
use Rattle.crtp_packets.specs.Commands.{start_of}
use Rattle.upload_model.specs.declared.events.Progress.TheVariants.{Done}
use Rattle.upload_model.specs.declared.events.WorldEvent.{WorldEvent}
use Rattle.upload_model.specs.Drones.{DroneState}
use Rattle.upload_model.specs.Hosts.{progress}
use Rattle.upload_model.specs.Sessions.{Upload, load_of, read_count, wanted}
use Rattle.upload_model.specs.Starts.{TakesOneStart, beginnings}
use Rattle.upload_model.specs.Theorem.{IsUnaltered}
use Rattle.upload_model.specs.Worlds.{start_world, world}
use Rattle.show_plan.specs.Uploading.{GoesRight}
use Rattle.definition_tests.specs.Begins.{byte_after, reading, session}

-- What is said of an upload that goes right is said of its bytes, its reads and its starts, for all drones and
-- all events.
pub record RightRows : Type 0 where
  pub verified : (drones : ℕ → DroneState) (events : List WorldEvent) → GoesRight reading drones events →
      progress reading (world reading drones events).heard ≡ Done →
      (i : ℕ) × (byte_after drones (take i events) 0 ≡ 1) × (byte_after drones (take i events) 1 ≡ 2)
      × (byte_after drones (take i events) 2 ≡ 3)
  pub read_before : (drones : ℕ → DroneState) (events : List WorldEvent) → GoesRight reading drones events →
      Contains ((world reading drones events).sent 0) (start_of 0) →
      (i : ℕ) × (byte_after drones (take i events) 0 ≡ 1) × (byte_after drones (take i events) 1 ≡ 2)
      × (byte_after drones (take i events) 2 ≡ 3)
  pub covered : (s : Upload) (drones : ℕ → DroneState) (events : List WorldEvent) → GoesRight s drones events →
      s.readback ≡ true → 20 < length (load_of s 0).bytes →
      (k : ℕ) × (k < read_count s 0) × (20 * k ≤ 20) × (20 < 20 * k + length (wanted s 0 k))
  pub unstarted : (drones : ℕ → DroneState) →
      GoesRight session drones [] → ((world session drones []).drones 0).started ≡ (drones 0).started
  pub begun : (drones : ℕ → DroneState) (events : List WorldEvent) → GoesRight session drones events →
      progress session (world session drones events).heard ≡ Done →
      TakesOneStart session drones events 0 → beginnings session (start_world session drones) 0 events ≡ 1
  pub unaltered : (drones : ℕ → DroneState) (events : List WorldEvent) → GoesRight session drones events →
      IsUnaltered events → progress session (world session drones events).heard ≡ Done →
      slice_index ((world session drones events).drones 0).memory 2 ≡ 3
