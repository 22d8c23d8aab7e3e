-- The two commands of an upload, and the answer to a command, as the bytes that are sent, and what a
-- payload is read as: Bitcraze's high-level commander, restated in docs/RADIO.md, "Commands".
use Rattle.std.specs.Prelude.{◌≡◌, ◌≢◌, ⊤, ℕ, ◌^◌, ◌<◌, ◌⊎◌, nat_lt, ◌==◌, if◌then◌else◌, List, [], ◌∷◌, ◌++◌, length}
use Rattle.std.specs.Prelude.{take, drop, slice_index, Result, Ok, Err}
use Rattle.byteorder.specs.Endian.{little_bytes, little_number}
use Rattle.crtp_packets.specs.Packets.{header_of}
use Rattle.crtp_packets.specs.declared.packet.TheConstants.{COMMANDER_PORT, COMMAND_CHANNEL}
use Rattle.crtp_packets.specs.declared.commands.TheConstants.{DEFINE, START, IN_MEMORY, COMPRESSED, COMMAND_BYTES}
use Rattle.crtp_packets.specs.declared.commands.CommandFault.{CommandFault}
use Rattle.crtp_packets.specs.declared.commands.CommandFault.TheVariants.{Short, Unknown}
use Rattle.crtp_packets.specs.declared.commands.Command.{Command}
use Rattle.crtp_packets.specs.declared.commands.Command.TheVariants.{Define, Start}

-- a define as it is written: in memory, compressed; the offset has four bytes, the lowest first
abbrev pub define_of : ℕ → ℕ → ℕ → List ℕ
define_of id offset pieces =
    header_of COMMANDER_PORT COMMAND_CHANNEL ∷ DEFINE ∷ id ∷ IN_MEMORY ∷ COMPRESSED
    ∷ (little_bytes 4 offset ++ pieces ∷ [])

-- a start as it is written: mask, relative and reversed are 0, and the time scale is 1.0, as the four bytes that it has
abbrev pub start_of : ℕ → List ℕ
start_of id = header_of COMMANDER_PORT COMMAND_CHANNEL ∷ START ∷ 0 ∷ 0 ∷ 0 ∷ id ∷ 0 ∷ 0 ∷ 0x80 ∷ 0x3F ∷ []

-- the answer to a command: the first three bytes of its payload, and a status
abbrev pub answer_of : List ℕ → ℕ → List ℕ
answer_of request status = header_of COMMANDER_PORT COMMAND_CHANNEL ∷ (take 3 (drop 1 request) ++ status ∷ [])

-- The payload is this command, written out field by field: the offset of a define has four bytes, the lowest first, and
-- the time scale of a start has four. What follows is of no account.
abbrev pub SpellsCommand : List ℕ → Command → Type 0
SpellsCommand payload (Define id location form offset pieces) =
    (rest : List ℕ) × (payload ≡ DEFINE ∷ id ∷ location ∷ form ∷ (little_bytes 4 offset ++ pieces ∷ rest))
    × (offset < 2 ^ 32)
SpellsCommand payload (Start mask relative reversed id scale) =
    (rest : List ℕ) × (payload ≡ START ∷ mask ∷ relative ∷ reversed ∷ id ∷ (scale ++ rest)) × (length scale ≡ 4)

-- the payload has no byte, or begins as a define or a start does and has fewer than nine
abbrev pub IsShort : List ℕ → Type 0
IsShort [] = ⊤
IsShort (kind ∷ rest) = ((kind ≡ DEFINE) ⊎ (kind ≡ START)) × (length (kind ∷ rest) < COMMAND_BYTES)

-- the payload begins as neither does
abbrev pub IsUnknown : List ℕ → Type 0
IsUnknown [] = ⊥
IsUnknown (kind ∷ rest) = (kind ≢ DEFINE) × (kind ≢ START)

-- what a payload tells a drone, as a function of its bytes
abbrev pub command_of : List ℕ → Result Command CommandFault
command_of [] = Err Short
command_of (kind ∷ rest) =
    if kind == DEFINE
    then (if nat_lt (length rest) 8 then Err Short
    else Ok (Define (slice_index rest 0) (slice_index rest 1) (slice_index rest 2) (little_number 4 (drop 3 rest))
    (slice_index rest 7)))
    else (if kind == START
    then (if nat_lt (length rest) 8 then Err Short
    else Ok (Start (slice_index rest 0) (slice_index rest 1) (slice_index rest 2) (slice_index rest 3)
    (slice_index rest 4 ∷ slice_index rest 5 ∷ slice_index rest 6 ∷ slice_index rest 7 ∷ [])))
    else Err Unknown)
