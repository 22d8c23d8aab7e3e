-- What a drone's fields say of it, and which packets it doesn't answer.
use Rattle.std.specs.Prelude.{⊤, ℕ, List, Result, Ok, Err, IsErr}
use Rattle.crtp_packets.specs.Reading.{down_of}
use Rattle.crtp_packets.specs.declared.reading.PacketFault.{PacketFault}
use Rattle.crtp_packets.specs.declared.reading.Down.{Down}
use Rattle.crtp_packets.specs.declared.reading.Down.TheVariants as down
use Rattle.crtp_packets.specs.Commands.{command_of}
use Rattle.upload_model.specs.Drones.{DroneState}
use Rattle.firmware_memory.specs.declared.drone.Drone.{Drone}

-- the drone of the definitions that has these fields
abbrev pub shown : Drone → DroneState
shown d = record { memory_id = d.memory_id; memory = d.memory; table = d.defs; started = d.started }

-- a message that is neither a write, a read, a define nor a start
abbrev pub IsOtherMessage : Result Down PacketFault → Type 0
IsOtherMessage (Ok (down.Write id address piece)) = ⊥
IsOtherMessage (Ok (down.Read id address len)) = ⊥
IsOtherMessage (Ok (down.Command payload)) = IsErr (command_of payload.items)
IsOtherMessage (Err fault) = ⊤

-- a packet that is none of the four
abbrev pub IsOther : List ℕ → Type 0
IsOther packet = IsOtherMessage (down_of packet)
