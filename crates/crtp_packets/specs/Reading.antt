-- What a packet is read as: by the port and the channel of its header, and by the length of its
-- payload. docs/RADIO.md, "Messages", has the table.
use Rattle.std.specs.Prelude.{◌≡◌, ℕ, ◌^◌, ◌<◌, ◌≤◌, Bool, ◌&&◌, nat_lt, ◌==◌, if◌then◌else◌, List, [], ◌∷◌, ◌++◌}
use Rattle.std.specs.Prelude.{length, drop, slice_index, Option, Some, None, Result, Ok, Err}
use Rattle.byteorder.specs.Endian.{little_number}
use Rattle.crtp_packets.specs.Packets.{header_in, port, channel, memory_message}
use Rattle.crtp_packets.specs.declared.packet.TheConstants.{MEMORY_PORT, READ_CHANNEL, WRITE_CHANNEL, COMMANDER_PORT}
use Rattle.crtp_packets.specs.declared.packet.TheConstants.{COMMAND_CHANNEL}
use Rattle.crtp_packets.specs.declared.reading.TheConstants.{MEMORY_LEAST}
use Rattle.crtp_packets.specs.declared.reading.PacketFault.{PacketFault}
use Rattle.crtp_packets.specs.declared.reading.PacketFault.TheVariants.{Empty, Unknown, Short}
use Rattle.crtp_packets.specs.declared.reading.Down.{Down}
use Rattle.crtp_packets.specs.declared.reading.Down.TheVariants.{Write, Read, Command}
use Rattle.crtp_packets.specs.declared.reading.Up.{Up}
use Rattle.crtp_packets.specs.declared.reading.Up.TheVariants.{WriteAnswer, ReadAnswer, CommandAnswer}

-- a header has this port and this channel
abbrev pub IsAt : ℕ → ℕ → ℕ → Type 0
IsAt header p c = (port header ≡ p) × (channel header ≡ c)

abbrev pub is_at : ℕ → ℕ → ℕ → Bool
is_at header p c = port header == p && channel header == c

-- the value, where the payload has its least length
abbrev pub if_long : {X : Type 0} → List ℕ → ℕ → X → Result X PacketFault
if_long payload least x = if nat_lt (length payload) least then Err Short else Ok x

-- The table: the least length of the payload of each message towards a drone, by the header; None
-- where no message has its port and channel.
abbrev pub least_down : ℕ → Option ℕ
least_down header =
    if is_at header MEMORY_PORT WRITE_CHANNEL then Some MEMORY_LEAST
    else (if is_at header MEMORY_PORT READ_CHANNEL then Some MEMORY_LEAST
    else (if is_at header COMMANDER_PORT COMMAND_CHANNEL then Some 1
    else None))

-- The same for the messages towards the host.
abbrev pub least_up : ℕ → Option ℕ
least_up header =
    if is_at header MEMORY_PORT WRITE_CHANNEL then Some MEMORY_LEAST
    else (if is_at header MEMORY_PORT READ_CHANNEL then Some MEMORY_LEAST
    else (if is_at header COMMANDER_PORT COMMAND_CHANNEL then Some 4
    else None))

-- The packet is this message towards a drone, written out field by field. What follows the length
-- of a read request is of no account.
abbrev pub SpellsDown : List ℕ → Down → Type 0
SpellsDown packet (Write id address piece) =
    IsAt (header_in packet) MEMORY_PORT WRITE_CHANNEL
    × (packet ≡ memory_message (header_in packet) id address piece.items)
    × (address < 2 ^ 32) × (1 ≤ length piece.items)
SpellsDown packet (Read id address len) =
    (rest : List ℕ) × IsAt (header_in packet) MEMORY_PORT READ_CHANNEL
    × (packet ≡ memory_message (header_in packet) id address (len ∷ rest))
    × (address < 2 ^ 32)
SpellsDown packet (Command payload) =
    IsAt (header_in packet) COMMANDER_PORT COMMAND_CHANNEL
    × (packet ≡ header_in packet ∷ payload.items)
    × (1 ≤ length payload.items)

-- The packet is this message towards the host, written out field by field. What follows the status
-- of the answer to a write or to a command is of no account.
abbrev pub SpellsUp : List ℕ → Up → Type 0
SpellsUp packet (WriteAnswer id address status) =
    (rest : List ℕ) × IsAt (header_in packet) MEMORY_PORT WRITE_CHANNEL
    × (packet ≡ memory_message (header_in packet) id address (status ∷ rest))
    × (address < 2 ^ 32)
SpellsUp packet (ReadAnswer id address status piece) =
    IsAt (header_in packet) MEMORY_PORT READ_CHANNEL
    × (packet ≡ memory_message (header_in packet) id address (status ∷ piece.items))
    × (address < 2 ^ 32)
SpellsUp packet (CommandAnswer first status) =
    (rest : List ℕ) × IsAt (header_in packet) COMMANDER_PORT COMMAND_CHANNEL
    × (packet ≡ header_in packet ∷ (first ++ status ∷ rest))
    × (length first ≡ 3)

-- What a packet tells a drone, as a function of its bytes.
abbrev pub down_of : List ℕ → Result Down PacketFault
down_of [] = Err Empty
down_of (header ∷ payload) =
    if is_at header MEMORY_PORT WRITE_CHANNEL
    then if_long payload MEMORY_LEAST
    (Write (slice_index payload 0) (little_number 4 (drop 1 payload)) (record { items = drop 5 payload }))
    else (if is_at header MEMORY_PORT READ_CHANNEL
    then if_long payload MEMORY_LEAST
    (Read (slice_index payload 0) (little_number 4 (drop 1 payload)) (slice_index payload 5))
    else (if is_at header COMMANDER_PORT COMMAND_CHANNEL
    then if_long payload 1 (Command (record { items = payload }))
    else Err Unknown))

-- What a packet tells the host, as a function of its bytes.
abbrev pub up_of : List ℕ → Result Up PacketFault
up_of [] = Err Empty
up_of (header ∷ payload) =
    if is_at header MEMORY_PORT WRITE_CHANNEL
    then if_long payload MEMORY_LEAST
    (WriteAnswer (slice_index payload 0) (little_number 4 (drop 1 payload)) (slice_index payload 5))
    else (if is_at header MEMORY_PORT READ_CHANNEL
    then if_long payload MEMORY_LEAST (ReadAnswer (slice_index payload 0) (little_number 4 (drop 1 payload))
    (slice_index payload 5) (record { items = drop 6 payload }))
    else (if is_at header COMMANDER_PORT COMMAND_CHANNEL
    then if_long payload 4 (CommandAnswer (slice_index payload 0 ∷ slice_index payload 1 ∷ slice_index payload 2 ∷ [])
    (slice_index payload 3))
    else Err Unknown))
