-- What a world keeps, and which lists of events it stands for.
use Rattle.std.specs.Prelude.{◌≡◌, ℕ, ◌<◌, List, length, slice_get, replicate, Option, Some, None}
use Rattle.crtp_packets.specs.declared.chunks.TheConstants.{MEMORY_BYTES}
use Rattle.upload_model.specs.declared.limits.TheConstants.{TABLE_ENTRIES}
use Rattle.upload_model.specs.declared.events.Progress.{Progress}
use Rattle.upload_model.specs.declared.events.WorldEvent.{WorldEvent}
use Rattle.upload_model.specs.Drones.{DroneState}
use Rattle.upload_model.specs.Sessions.{Upload, drone_count}
use Rattle.upload_model.specs.Hosts.{progress}
use Rattle.upload_model.specs.Worlds.{World, world}
use Rattle.firmware_memory.specs.declared.drone.Drone.{Drone}
use Rattle.firmware_memory.specs.Shown.{shown}
use Rattle.upload_core.specs.HostState.{HostState, view_of}
use Rattle.upload_core.specs.HostStandsFor.{HostStandsFor}
use Rattle.fleet_world.specs.Traffics.{row_of, packets_at}

-- What a world keeps: the host, the drones, for each drone the numbers of the packets ever sent to it and
-- the answers that it ever gave, and the host's last answer.
pub record WorldState : Type 0 where
  pub host : HostState
  pub drones : List Drone
  pub sent : List (List ℕ)
  pub given : List (List (List ℕ))
  pub progress : Progress

-- A drone, if there is one. Past the last drone stands one that nobody speaks of.
abbrev pub state_of : Option Drone → DroneState
state_of None =
    record { memory_id = 0; memory = replicate MEMORY_BYTES 0; table = replicate TABLE_ENTRIES None; started = None }
state_of (Some d) = shown d

-- Drone d of a list.
abbrev pub state_at : List Drone → ℕ → DroneState
state_at drones d = state_of (slice_get drones d)

-- The world is at this point of a session: host, drones, packets, answers and progress are those of w.
pub record WorldStandsAt (v : WorldState) (s : Upload) (w : World) : Type 0 where
  pub session : v.host.session ≡ s
  pub host : HostStandsFor (view_of v.host) w.heard
  pub progress : v.progress ≡ progress s w.heard
  pub count : length v.drones ≡ drone_count s
  pub drones : (d : ℕ) → d < drone_count s → state_at v.drones d ≡ w.drones d
  pub sent : (d : ℕ) → d < drone_count s → packets_at s d (row_of v.sent d) ≡ w.sent d
  pub given : (d : ℕ) → d < drone_count s → row_of v.given d ≡ w.given d

-- The world is where these events lead a session with these drones at the start.
abbrev pub WorldStandsFor : WorldState → Upload → List Drone → List WorldEvent → Type 0
WorldStandsFor v s start events = WorldStandsAt v s (world s (state_at start) events)
