-- What the definitions of uploads say of two drones, each with a trajectory of its own.
use Rattle.std.specs.Prelude.{◌≡◌, ℕ, ◌<◌, [], ◌∷◌, ◌++◌, List, Bool, false, true, pos, Contains, slice_index, take}
use Rattle.crtp_packets.specs.Commands.{start_of}
use Rattle.cue_grid.specs.declared.grid.Grid.{Grid}
use Rattle.traj_codec.specs.declared.traj.Traj.{Traj}
use Rattle.firmware_memory.specs.Decoded.{Carries}
use Rattle.upload_model.specs.declared.events.Progress.TheVariants.{Done}
use Rattle.upload_model.specs.declared.events.WorldEvent.{WorldEvent}
use Rattle.upload_model.specs.declared.events.WorldEvent.TheVariants.{Take, Hear}
use Rattle.upload_model.specs.Drones.{DroneState}
use Rattle.upload_model.specs.Hosts.{progress}
use Rattle.upload_model.specs.Memories.{IsDrone}
use Rattle.upload_model.specs.Sessions.{Upload}
use Rattle.upload_model.specs.Taking.{AcceptsLoad, taken}
use Rattle.upload_model.specs.Theorem.{IsUnaltered}
use Rattle.upload_model.specs.Worlds.{world}
use Rattle.show_plan.specs.Landing.{IsLanded, LandsInAnyOrder, session_for}
use Rattle.show_plan.specs.Uploading.{FlyTheirOwn, GoesRight, Uploads}
use Rattle.definition_tests.specs.Begins.{reading}
use Rattle.definition_tests.specs.Carried.{loaded_with}
use Rattle.definition_tests.specs.Flights.{flight}
use Rattle.definition_tests.specs.Stored.{no_time, settings}

-- Drone 0 goes from 0 to 1 mm, and drone 1 from 60 to 61 mm.
abbrev pub one : Traj
one = flight (pos 0) (pos 1)

abbrev pub other : Traj
other = flight (pos 60) (pos 61)

abbrev pub pair : List Traj
pair = one ∷ other ∷ []

-- of each drone the write and the define are taken and answered, so that starts are sent
abbrev pub both_loaded : List WorldEvent
both_loaded =
    Take 0 0 ∷ Hear 0 0 ∷ Take 1 0 ∷ Hear 1 0 ∷ Take 0 1 ∷ Hear 0 1 ∷ Take 1 1 ∷ Hear 1 1 ∷ []

-- the session of these trajectories with starts, and that with read-back
abbrev pub with_starts : List Traj → Upload
with_starts trajs = session_for settings trajs false true

abbrev pub read_back : Upload
read_back = session_for settings pair true false

abbrev pub AreFresh : (ℕ → DroneState) → Type 0
AreFresh drones = (d : ℕ) → d < 2 → IsDrone (drones d)

-- A start to one drone says of the other that it carries its own trajectory, and not that of the first. So it is not
-- true of a second drone whose trajectory no bytes spell. Two drones of which both carry the trajectory of the first
-- are not stored, and the first alone is.
pub record PairRows : Type 0 where
  pub first_says : (drones : ℕ → DroneState) → FlyTheirOwn settings pair → AreFresh drones →
      Contains ((world (with_starts pair) drones both_loaded).sent 0) (start_of 0) →
      Carries ((world (with_starts pair) drones both_loaded).drones 1) 0 other
  pub second_says : (drones : ℕ → DroneState) → FlyTheirOwn settings pair → AreFresh drones →
      Contains ((world (with_starts pair) drones both_loaded).sent 1) (start_of 0) →
      Carries ((world (with_starts pair) drones both_loaded).drones 0) 0 one
  pub undecoded : FlyTheirOwn settings (one ∷ no_time ∷ []) → ⊥
  pub its_own : Carries (loaded_with (0 ∷ 0 ∷ 0 ∷ [])) 0 one
  pub not_its_own : Carries (loaded_with (0 ∷ 0 ∷ 0 ∷ [])) 0 other → ⊥
  pub same : (g : Grid) (readback start : Bool) (old : ℕ → DroneState) →
      IsLanded g settings pair readback start old (λ d. loaded_with (0 ∷ 0 ∷ 0 ∷ [])) → ⊥

-- with read-back, and two loads of three bytes: packet 2 of each drone is a read, and 3 the start
abbrev pub both_reading : Upload
both_reading = record reading {
  loads = record { bytes = 1 ∷ 2 ∷ 3 ∷ []; pieces = 1 } ∷ record { bytes = 4 ∷ 5 ∷ 6 ∷ []; pieces = 1 } ∷ [];
}

-- a byte of drone 1 after these events of that upload
abbrev pub byte_of_other : (ℕ → DroneState) → List WorldEvent → ℕ → ℕ
byte_of_other drones events place = slice_index ((world both_reading drones events).drones 1).memory place

-- A start to the first drone says of the second that its read found the bytes of its own load; so does the end.
pub record BothReadRows : Type 0 where
  pub starts_last : (drones : ℕ → DroneState) (events : List WorldEvent) → GoesRight both_reading drones events →
      Contains ((world both_reading drones events).sent 0) (start_of 0) →
      (i : ℕ) × (byte_of_other drones (take i events) 0 ≡ 4) × (byte_of_other drones (take i events) 1 ≡ 5)
      × (byte_of_other drones (take i events) 2 ≡ 6)
  pub verified : (drones : ℕ → DroneState) (events : List WorldEvent) → GoesRight both_reading drones events →
      progress both_reading (world both_reading drones events).heard ≡ Done →
      (i : ℕ) × (byte_of_other drones (take i events) 0 ≡ 4) × (byte_of_other drones (take i events) 1 ≡ 5)
      × (byte_of_other drones (take i events) 2 ≡ 6)

-- Of two drones of any show: in any order the write and the define are enough, without the read. What is said of all
-- uploads has its four parts: what a done one leaves, what any order leaves, that each flies its own, and that each
-- upload goes right. The second drone's first byte in the memory, at place 2, is that of 60 mm.
pub record UploadsRows : Type 0 where
  pub unread : (g : Grid) (drone : DroneState) → LandsInAnyOrder g settings pair → IsDrone drone →
      ((d : ℕ) → d < 2 → AcceptsLoad read_back d drone (0 ∷ 1 ∷ [])) →
      Carries (taken read_back 1 drone (0 ∷ 1 ∷ [])) 0 other
  pub stored : (g : Grid) (drones : ℕ → DroneState) (events : List WorldEvent) → Uploads g settings pair →
      AreFresh drones → IsUnaltered (events ++ []) →
      progress read_back (world read_back drones events).heard ≡ Done →
      Carries ((world read_back drones (events ++ [])).drones 1) 0 other
  pub in_any_order : (g : Grid) (drone : DroneState) → Uploads g settings pair → IsDrone drone →
      ((d : ℕ) → d < 2 → AcceptsLoad read_back d drone (0 ∷ 1 ∷ [])) →
      Carries (taken read_back 1 drone (0 ∷ 1 ∷ [])) 0 other
  pub flown : (g : Grid) (drones : ℕ → DroneState) → Uploads g settings pair → AreFresh drones →
      Contains ((world (with_starts pair) drones both_loaded).sent 0) (start_of 0) →
      Carries ((world (with_starts pair) drones both_loaded).drones 1) 0 other
  pub each : (g : Grid) (drones : ℕ → DroneState) (events : List WorldEvent) → Uploads g settings pair →
      AreFresh drones → progress read_back (world read_back drones events).heard ≡ Done →
      (i : ℕ) × (slice_index ((world read_back drones (take i events)).drones 1).memory 2 ≡ 60)
