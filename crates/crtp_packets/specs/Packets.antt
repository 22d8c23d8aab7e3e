-- The messages of memory access, each as the list of its bytes: Bitcraze's CRTP and memory access,
-- restated in docs/RADIO.md, "Messages".
use Rattle.std.specs.Prelude.{ℕ, ◌+◌, ◌*◌, ◌/◌, ◌%◌, List, [], ◌∷◌, ◌++◌, drop, slice_index}
use Rattle.byteorder.specs.Endian.{little_bytes}
use Rattle.crtp_packets.specs.declared.packet.TheConstants.{LINK_BITS, MEMORY_PORT, READ_CHANNEL, WRITE_CHANNEL}

-- a packet's first byte is its header, all else its payload
abbrev pub header_in : List ℕ → ℕ
header_in packet = slice_index packet 0

abbrev pub payload_in : List ℕ → List ℕ
payload_in packet = drop 1 packet

-- the port is in bits 7 to 4 of a header, the channel in bits 1 and 0; the two link bits between
-- them are not read
abbrev pub port : ℕ → ℕ
port header = header / 16

abbrev pub channel : ℕ → ℕ
channel header = header % 4

-- a header as it is written: the link bits are 3
abbrev pub header_of : ℕ → ℕ → ℕ
header_of port channel = 16 * port + (4 * LINK_BITS + channel)

-- a header, a memory id, an address of four bytes, the lowest first, and what follows
abbrev pub memory_message : ℕ → ℕ → ℕ → List ℕ → List ℕ
memory_message header id address rest = header ∷ id ∷ (little_bytes 4 address ++ rest)

-- a request to write these bytes from the address on
abbrev pub write_request_of : ℕ → ℕ → List ℕ → List ℕ
write_request_of id address piece = memory_message (header_of MEMORY_PORT WRITE_CHANNEL) id address piece

-- the answer to it
abbrev pub write_answer_of : ℕ → ℕ → ℕ → List ℕ
write_answer_of id address status = memory_message (header_of MEMORY_PORT WRITE_CHANNEL) id address (status ∷ [])

-- a request for this many bytes from the address on
abbrev pub read_request_of : ℕ → ℕ → ℕ → List ℕ
read_request_of id address len = memory_message (header_of MEMORY_PORT READ_CHANNEL) id address (len ∷ [])

-- the answer to it
abbrev pub read_answer_of : ℕ → ℕ → ℕ → List ℕ → List ℕ
read_answer_of id address status piece = memory_message (header_of MEMORY_PORT READ_CHANNEL) id address (status ∷ piece)
