-- One drone as it is modelled here: what it holds, and what each packet does to it
-- (docs/RADIO.md, "A drone").
use Rattle.std.specs.Prelude.{ℕ, ◌+◌, Bool, false, not, ◌||◌, nat_lt, nat_le, ◌==◌, if◌then◌else◌, List, [], ◌∷◌, ◌++◌}
use Rattle.std.specs.Prelude.{length, take, drop, slice_get, slice_set, is_some, Option, Some, None, Result, Ok, Err}
use Rattle.std.specs.Str.{bytes_eq}
use Rattle.crtp_packets.specs.Packets.{write_answer_of, read_answer_of}
use Rattle.crtp_packets.specs.Reading.{down_of}
use Rattle.crtp_packets.specs.declared.packet.TheConstants.{READ_BYTES}
use Rattle.crtp_packets.specs.declared.reading.PacketFault.{PacketFault}
use Rattle.crtp_packets.specs.declared.reading.Down.{Down}
use Rattle.crtp_packets.specs.declared.reading.Down.TheVariants as down
use Rattle.crtp_packets.specs.Commands.{command_of, answer_of}
use Rattle.crtp_packets.specs.declared.commands.CommandFault.{CommandFault}
use Rattle.crtp_packets.specs.declared.commands.Command.{Command}
use Rattle.crtp_packets.specs.declared.commands.Command.TheVariants.{Define, Start}
use Rattle.crtp_packets.specs.declared.chunks.TheConstants.{MEMORY_BYTES}
use Rattle.upload_model.specs.declared.limits.TheConstants.{TABLE_ENTRIES, ACCEPTED, UNFIT, NO_ROOM}
use Rattle.upload_model.specs.declared.loads.Def.{Def}

-- What a drone holds: the id of its trajectory memory, that memory's 4,096 bytes, a table of ten
-- places for trajectories, each free or with an entry, and the id of the trajectory that it has
-- started, if it has started one.
pub record DroneState : Type 0 where
  pub memory_id : ℕ
  pub memory : List ℕ
  pub table : List (Option Def)
  pub started : Option ℕ

-- A drone after it took a packet, and its answer, if it gives one.
pub record Handled : Type 0 where
  pub drone : DroneState
  pub answer : Option (List ℕ)

-- The drone, with this answer.
abbrev pub answers : DroneState → List ℕ → Handled
answers d packet = record { drone = d; answer = Some packet }

-- The drone as it was, with no answer.
abbrev pub silent : DroneState → Handled
silent d = record { drone = d; answer = None }

-- The memory with these bytes in place of its own, from the address on.
abbrev pub stored : List ℕ → ℕ → List ℕ → List ℕ
stored memory address bytes = take address memory ++ (bytes ++ drop (address + length bytes) memory)

-- Whether the table has an entry at this id.
abbrev pub has_entry : List (Option Def) → ℕ → Bool
has_entry table id = is_some_some (slice_get table id) where
  is_some_some : Option (Option Def) → Bool
  is_some_some None = false
  is_some_some (Some entry) = is_some entry

-- A write: refused for another memory, then where its bytes would not all lie in the memory; else
-- its bytes are stored.
abbrev pub write_taken : DroneState → ℕ → ℕ → List ℕ → Handled
write_taken d id address bytes =
    if not (id == d.memory_id) then answers d (write_answer_of id address UNFIT)
    else (if nat_lt MEMORY_BYTES (address + length bytes) then answers d (write_answer_of id address NO_ROOM)
    else answers (record d { memory = stored d.memory address bytes }) (write_answer_of id address ACCEPTED))

-- A read: refused for another memory, then for no byte, for more than 20, and where the bytes do
-- not all lie in the memory; else it is answered with the bytes. A refused read has no bytes.
abbrev pub read_taken : DroneState → ℕ → ℕ → ℕ → Handled
read_taken d id address len =
    if not (id == d.memory_id) then answers d (read_answer_of id address UNFIT [])
    else (if len == 0 || nat_lt READ_BYTES len
    || nat_lt MEMORY_BYTES (address + len) then answers d (read_answer_of id address NO_ROOM [])
    else answers d (read_answer_of id address ACCEPTED (take len (drop address d.memory))))

-- A define: refused for an id past the table and for a location or a form that isn't a compressed
-- trajectory in memory, then for an offset past the memory; else it fills the table's entry.
-- A start: refused unless mask, relative and reversed are 0 and the time scale is 1.0, and for an
-- id past the table or without an entry; else the drone has started that id. Any other command is
-- not answered.
abbrev pub command_taken : DroneState → List ℕ → Result Command CommandFault → Handled
command_taken d packet (Ok (Define id location form offset pieces)) =
    if nat_le TABLE_ENTRIES id || not (location == 1) || not (form == 1) then answers d (answer_of packet UNFIT)
    else (if nat_le MEMORY_BYTES offset then answers d (answer_of packet NO_ROOM)
    else answers (record d { table = slice_set d.table id (Some (record { offset = offset; pieces = pieces })) })
    (answer_of packet ACCEPTED))
command_taken d packet (Ok (Start mask relative reversed id scale)) =
    if not (mask == 0) || not (relative == 0) || not (reversed == 0) || not (bytes_eq scale (0 ∷ 0 ∷ 0x80 ∷ 0x3F ∷ []))
    || nat_le TABLE_ENTRIES id || not (has_entry d.table id)
    then answers d (answer_of packet UNFIT)
    else answers (record d { started = Some id }) (answer_of packet ACCEPTED)
command_taken d packet (Err fault) = silent d

-- A packet by what it is read as. One that is read as nothing is not answered.
abbrev pub message_taken : DroneState → List ℕ → Result Down PacketFault → Handled
message_taken d packet (Ok (down.Write id address piece)) = write_taken d id address piece.items
message_taken d packet (Ok (down.Read id address len)) = read_taken d id address len
message_taken d packet (Ok (down.Command payload)) = command_taken d packet (command_of payload.items)
message_taken d packet (Err fault) = silent d

-- One step of a drone: it takes a packet.
unfoldable pub handled : DroneState → List ℕ → Handled
handled d packet = message_taken d packet (down_of packet)
