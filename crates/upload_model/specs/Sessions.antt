-- A session: what is to be uploaded to which place, and the packets that do it, phase by phase
-- (docs/RADIO.md, "The packets of a session").
use Rattle.std.specs.Prelude.{ℕ, ◌+◌, ◌-◌, ◌*◌, ◌/◌, ◌<◌, ◌≤◌, Bool, ◌&&◌, nat_lt, nat_le, ◌==◌, if◌then◌else◌, List}
use Rattle.std.specs.Prelude.{[], length, map, take, drop, slice_index_or}
use Rattle.std.specs.List.{range_with_len}
use Rattle.crtp_packets.specs.Chunks.{chunk_count_of, chunk_start, chunk_of}
use Rattle.crtp_packets.specs.Packets.{write_request_of, read_request_of}
use Rattle.crtp_packets.specs.declared.packet.TheConstants.{READ_BYTES}
use Rattle.crtp_packets.specs.Commands.{define_of, start_of}
use Rattle.crtp_packets.specs.declared.chunks.TheConstants.{MEMORY_BYTES}
use Rattle.whole_numbers.specs.Limits.{most_drones, most_segments}
use Rattle.upload_model.specs.declared.limits.TheConstants.{TABLE_ENTRIES}
use Rattle.upload_model.specs.declared.events.Phase.{Phase}
use Rattle.upload_model.specs.declared.events.Phase.TheVariants.{Loading, Reading, Starting}
use Rattle.upload_model.specs.declared.loads.Load.{Load}

-- What is uploaded: to the memory of this id, from this offset on, under this trajectory id, one
-- load for each drone; whether the memories are read back when all is written; and whether the drones
-- are started when all is there.
pub record Upload : Type 0 where
  pub memory_id : ℕ
  pub offset : ℕ
  pub trajectory_id : ℕ
  pub loads : List Load
  pub readback : Bool
  pub start : Bool

-- What a load has to be: some bytes that fit into the memory after the offset, and 1 to 255
-- segments.
pub record IsLoad (offset : ℕ) (l : Load) : Type 0 where
  pub some_bytes : 1 ≤ length l.bytes
  pub has_room : offset + length l.bytes ≤ MEMORY_BYTES
  pub some_pieces : 1 ≤ l.pieces
  pub few_pieces : l.pieces ≤ most_segments

-- How many drones a session has.
abbrev pub drone_count : Upload → ℕ
drone_count s = length s.loads

-- The load of drone d. Past the last drone it is empty.
abbrev pub load_of : Upload → ℕ → Load
load_of s d = slice_index_or s.loads d (record { bytes = []; pieces = 0 })

-- What a session has to be: 1 to 32 drones, an offset in the memory, a trajectory id of the table,
-- and loads that fit.
pub record IsSession (s : Upload) : Type 0 where
  pub some_drones : 1 ≤ drone_count s
  pub few_drones : drone_count s ≤ most_drones
  pub offset_fits : s.offset < MEMORY_BYTES
  pub id_fits : s.trajectory_id < TABLE_ENTRIES
  pub loads : (d : ℕ) → d < drone_count s → IsLoad s.offset (load_of s d)

-- ---- reads

-- How many parts of 20 bytes a load has, the last of which may be shorter: its length divided by 20,
-- rounded up.
unfoldable pub part_count : Upload → ℕ → ℕ
part_count s d = (length (load_of s d).bytes + (READ_BYTES - 1)) / READ_BYTES

-- The place in a load of the first byte of part k.
abbrev pub read_start : ℕ → ℕ
read_start k = READ_BYTES * k

-- The address at which read k begins.
abbrev pub read_address : Upload → ℕ → ℕ
read_address s k = s.offset + read_start k

-- The bytes that read k of drone d has to find: the load's from there on, 20 or as many as are left.
abbrev pub wanted : Upload → ℕ → ℕ → List ℕ
wanted s d k = take READ_BYTES (drop (read_start k) (load_of s d).bytes)

-- Read k of drone d, as a packet.
abbrev pub read_at : Upload → ℕ → ℕ → List ℕ
read_at s d k = read_request_of s.memory_id (read_address s k) (length (wanted s d k))

-- ---- the packets of a drone, and their numbers

-- How many of the packets of a drone are writes: one for each piece of its load.
unfoldable pub write_count : Upload → ℕ → ℕ
write_count s d = chunk_count_of (length (load_of s d).bytes)

-- How many are writes and define.
abbrev pub load_count : Upload → ℕ → ℕ
load_count s d = write_count s d + 1

-- How many are reads: one for each part of the load, where the memories are read back.
unfoldable pub read_count : Upload → ℕ → ℕ
read_count s d = if s.readback then part_count s d else 0

-- The number of the start: it comes after all else.
abbrev pub start_number : Upload → ℕ → ℕ
start_number s d = load_count s d + read_count s d

-- How many packets a drone has: one of them is the start, where the drones are started.
unfoldable pub packet_count : Upload → ℕ → ℕ
packet_count s d = start_number s d + (if s.start then 1 else 0)

-- Packet k of a drone: a write for each piece, then the define, then a read for each part, then the
-- start. Only numbers below the count name a packet.
unfoldable pub packet_at : Upload → ℕ → ℕ → List ℕ
packet_at s d k =
    if nat_lt k (write_count s d)
    then write_request_of s.memory_id (s.offset + chunk_start k) (chunk_of (load_of s d).bytes k)
    else (if k == write_count s d then define_of s.trajectory_id s.offset (load_of s d).pieces
    else (if nat_lt k (start_number s d) then read_at s d (k - load_count s d)
    else start_of s.trajectory_id))

-- Whether packet k of drone d is a read.
abbrev pub is_read : Upload → ℕ → ℕ → Bool
is_read s d k = nat_le (load_count s d) k && nat_lt k (start_number s d)

-- The packets of a drone, in order.
abbrev pub packets_of : Upload → ℕ → List (List ℕ)
packets_of s d = map (packet_at s d) (range_with_len 0 (packet_count s d))

-- ---- phases

-- The number of the first packet of a drone in a phase.
abbrev pub first_of : Upload → Phase → ℕ → ℕ
first_of s Loading d = 0
first_of s Reading d = load_count s d
first_of s Starting d = start_number s d

-- How many packets a drone has in a phase. One that isn't wanted has none.
abbrev pub count_of : Upload → Phase → ℕ → ℕ
count_of s Loading d = load_count s d
count_of s Reading d = read_count s d
count_of s Starting d = if s.start then 1 else 0
