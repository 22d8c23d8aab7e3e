-- What the definitions of stored flights say of small memories.
use Rattle.std.specs.Prelude.{◌≡◌, ℕ, ◌<◌, ◌∷◌, [], Bool, false, true, pos, Contains}
use Rattle.cue_grid.specs.declared.grid.Grid.{Grid}
use Rattle.choreo_show.specs.declared.show.Settings.{Settings}
use Rattle.firmware_memory.specs.Decoded.{Carries, DecodesTo}
use Rattle.upload_model.specs.Drones.{DroneState}
use Rattle.traj_codec.specs.Joined.{hold}
use Rattle.traj_codec.specs.declared.traj.Traj.{Traj}
use Rattle.upload_model.specs.Memories.{IsDrone}
use Rattle.upload_model.specs.Starts.{beginnings_in}
use Rattle.upload_model.specs.Taking.{AcceptsLoad, taken}
use Rattle.upload_model.specs.Worlds.{world}
use Rattle.crtp_packets.specs.Commands.{start_of}
use Rattle.show_plan.specs.Landing.{IsLanded, Lands, LandsInAnyOrder, session_for}
use Rattle.show_plan.specs.Uploading.{FlyTheirOwn}
use Rattle.definition_tests.specs.Begins.{loaded}
use Rattle.definition_tests.specs.Carried.{loaded_with}
use Rattle.definition_tests.specs.Flights.{flight}
use Rattle.definition_tests.specs.Near.{going_to, holding_at, spot}

abbrev pub settings : Settings
settings = record { memory_id = 0; offset = 2; trajectory_id = 0; r = 1; h = 1; stray = 0; late = 0 }

-- A flight whose ending isn't whole is not stored, for any show. Nor is one of which a byte outside of the load
-- changed, one whose drone hasn't started where starts are wanted, one that isn't near to the show, or two that touch.
-- A drone's memory decodes to no other flight.
pub record LandedRows : Type 0 where
  pub no_ending : (g : Grid) (readback start : Bool) (old : ℕ → DroneState) →
      IsLanded g settings (flight (pos 0) (pos 1) ∷ []) readback start old (λ d. loaded_with (0 ∷ 0 ∷ 1 ∷ [])) → ⊥
  pub other_byte : (g : Grid) (readback start : Bool) →
      IsLanded g settings (flight (pos 0) (pos 1) ∷ []) readback start (λ d. loaded_with (0 ∷ 0 ∷ 0 ∷ 7 ∷ []))
      (λ d. loaded_with (0 ∷ 0 ∷ 0 ∷ 8 ∷ [])) → ⊥
  pub not_started : (g : Grid) (readback : Bool) (old : ℕ → DroneState) →
      IsLanded g settings (flight (pos 0) (pos 1) ∷ []) readback true old (λ d. loaded_with (0 ∷ 0 ∷ 0 ∷ [])) → ⊥
  pub far : (readback start : Bool) (old new : ℕ → DroneState) →
      IsLanded (holding_at (spot (pos 501) (pos 0) (pos 0) (pos 0))) settings (flight (pos 0) (pos 0) ∷ []) readback
      start old new → ⊥
  pub other : (g : Grid) (readback start : Bool) (old new : ℕ → DroneState) →
      IsLanded g settings (flight (pos 0) (pos 1) ∷ []) readback start old new →
      DecodesTo (new 0) 0 (flight (pos 0) (pos 2)) → ⊥
  pub fewer : (readback start : Bool) (old new : ℕ → DroneState) →
      IsLanded (going_to (spot (pos 0) (pos 0) (pos 0) (pos 0))) settings (flight (pos 0) (pos 0) ∷ []) readback start
      old new → ⊥
  pub touching : (g : Grid) (readback start : Bool) (old new : ℕ → DroneState) →
      IsLanded g settings (flight (pos 50) (pos 50) ∷ flight (pos 51) (pos 51) ∷ []) readback start old new → ⊥

-- a hold of no time, which no bytes spell
abbrev pub no_time : Traj
no_time = record { start = pos 0 ∷ pos 0 ∷ pos 0 ∷ pos 0 ∷ []; segments = hold 0 ∷ [] }

-- What is said of uploads is said of some: there are uploads that are done, orders in which all is accepted, and starts
-- that are sent. So it is not true of a flight that isn't near to its show, or that can't be decoded. The last three
-- are said of a drone in any state: it carries its flight once a start was sent, and once it accepted its load; and it
-- begins once, by one start after its define.
pub record UploadRows : Type 0 where
  pub lands : Lands (holding_at (spot (pos 501) (pos 0) (pos 0) (pos 0))) settings (flight (pos 0) (pos 0) ∷ []) → ⊥
  pub in_any_order : LandsInAnyOrder (holding_at (spot (pos 501) (pos 0) (pos 0) (pos 0))) settings
      (flight (pos 0) (pos 0) ∷ []) → ⊥
  pub undecoded : FlyTheirOwn settings (no_time ∷ []) → ⊥
  pub once_sent : (drones : ℕ → DroneState) →
      FlyTheirOwn settings (flight (pos 0) (pos 0) ∷ []) → ((d : ℕ) → d < 1 → IsDrone (drones d)) →
      Contains ((world (session_for settings (flight (pos 0) (pos 0) ∷ []) false true) drones loaded).sent 0)
      (start_of 0) →
      Carries ((world (session_for settings (flight (pos 0) (pos 0) ∷ []) false true) drones loaded).drones 0) 0
      (flight (pos 0) (pos 0))
  pub once_accepted : (drone : DroneState) → FlyTheirOwn settings (flight (pos 0) (pos 0) ∷ []) → IsDrone drone →
      AcceptsLoad (session_for settings (flight (pos 0) (pos 0) ∷ []) false true) 0 drone (0 ∷ 1 ∷ []) →
      Carries (taken (session_for settings (flight (pos 0) (pos 0) ∷ []) false true) 0 drone (0 ∷ 1 ∷ 2 ∷ 0 ∷ [])) 0
      (flight (pos 0) (pos 0))
  pub begins_once : (drone : DroneState) → FlyTheirOwn settings (flight (pos 0) (pos 0) ∷ []) → IsDrone drone →
      AcceptsLoad (session_for settings (flight (pos 0) (pos 0) ∷ []) false true) 0 drone (0 ∷ 1 ∷ []) →
      beginnings_in (session_for settings (flight (pos 0) (pos 0) ∷ []) false true) 0 drone (0 ∷ 1 ∷ 2 ∷ 0 ∷ []) ≡ 1
