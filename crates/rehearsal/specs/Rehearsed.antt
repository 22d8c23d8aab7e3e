-- The world of a rehearsal: a session, and drones that are blank at the start.
use Rattle.std.specs.Prelude.{List, replicate, None}
use Rattle.crtp_packets.specs.declared.chunks.TheConstants.{MEMORY_BYTES}
use Rattle.upload_model.specs.declared.limits.TheConstants.{TABLE_ENTRIES}
use Rattle.upload_model.specs.declared.events.WorldEvent.{WorldEvent}
use Rattle.upload_model.specs.Drones.{DroneState}
use Rattle.upload_model.specs.Sessions.{Upload}
use Rattle.upload_model.specs.Worlds.{World, world}

-- A drone before a rehearsal: of the session's memory id, each of its 4,096 bytes `FF`, none of its ten entries,
-- nothing started.
abbrev pub blank_drone : Upload → DroneState
blank_drone s =
    record {
      memory_id = s.memory_id;
      memory = replicate MEMORY_BYTES 255;
      table = replicate TABLE_ENTRIES None;
      started = None;
    }

-- the world after a schedule
abbrev pub rehearsed : Upload → List WorldEvent → World
rehearsed s events = world s (λ d. blank_drone s) events
