-- The chunks of a write to a drone's memory: at most 24 bytes each, one after the other.
use Rattle.std.specs.Prelude.{◌≡◌, ℕ, ◌+◌, ◌*◌, ◌-◌, ◌/◌, ◌<◌, ◌≤◌, min, List, length, slice_range}
use Rattle.std.specs.List.{flat_map, range_with_len}
use Rattle.crtp_packets.specs.declared.packet.TheConstants.{WRITE_BYTES}

-- how many chunks `len` bytes make: len divided by 24, rounded up
abbrev pub chunk_count_of : ℕ → ℕ
chunk_count_of len = (len + (WRITE_BYTES - 1)) / WRITE_BYTES

-- the place of the first byte of chunk k
abbrev pub chunk_start : ℕ → ℕ
chunk_start k = WRITE_BYTES * k

-- the place after the last byte of chunk k of `len` bytes
abbrev pub chunk_end : ℕ → ℕ → ℕ
chunk_end len k = min (WRITE_BYTES * k + WRITE_BYTES) len

-- the bytes of chunk k
abbrev pub chunk_of : List ℕ → ℕ → List ℕ
chunk_of bytes k = slice_range bytes (chunk_start k) (chunk_end (length bytes) k)

-- The chunks cover the bytes and don't overlap: one after the other they are the bytes, and each
-- has 1 to 24 of them.
pub record Covers (bytes : List ℕ) : Type 0 where
  pub joined : flat_map (chunk_of bytes) (range_with_len 0 (chunk_count_of (length bytes))) ≡ bytes
  pub some : (k : ℕ) → k < chunk_count_of (length bytes) → 1 ≤ length (chunk_of bytes k)
  pub few : (k : ℕ) → k < chunk_count_of (length bytes) → length (chunk_of bytes k) ≤ WRITE_BYTES
