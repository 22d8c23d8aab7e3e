-- What a drone's memory holds, before and after: whoever wrote it.
use Rattle.std.specs.Prelude.{◌≡◌, ◌≢◌, ℕ, ◌+◌, ◌<◌, ◌≤◌, ◌⊎◌, length, slice_get, slice_index, Some}
use Rattle.crtp_packets.specs.Chunks.{chunk_start, chunk_of}
use Rattle.crtp_packets.specs.declared.chunks.TheConstants.{MEMORY_BYTES}
use Rattle.upload_model.specs.declared.limits.TheConstants.{TABLE_ENTRIES}
use Rattle.upload_model.specs.declared.loads.Load.{Load}
use Rattle.upload_model.specs.Drones.{DroneState}
use Rattle.upload_model.specs.Sessions.{Upload}

-- A drone as it may be at the start: with any memory id, any bytes, any entries, started or not.
pub record IsDrone (d : DroneState) : Type 0 where
  pub memory : length d.memory ≡ MEMORY_BYTES
  pub table : length d.table ≡ TABLE_ENTRIES

-- Place i lies in the range of `len` bytes from the offset on.
abbrev pub IsInside : ℕ → ℕ → ℕ → Type 0
IsInside offset len i = (offset ≤ i) × (i < offset + len)

-- Each byte inside the load's range is the one from before or the load's; all else is as before.
pub record OnlyLoads (s : Upload) (l : Load) (old new : DroneState) : Type 0 where
  pub inside : (i : ℕ) → i < length l.bytes →
      (slice_index new.memory (s.offset + i) ≡ slice_index old.memory (s.offset + i))
      ⊎ (slice_index new.memory (s.offset + i) ≡ slice_index l.bytes i)
  pub outside : (i : ℕ) → (IsInside s.offset (length l.bytes) i → ⊥) →
      slice_index new.memory i ≡ slice_index old.memory i
  pub length_kept : length new.memory ≡ length old.memory
  pub other_entries : (id : ℕ) → id ≢ s.trajectory_id → slice_get new.table id ≡ slice_get old.table id
  pub same_id : new.memory_id ≡ old.memory_id

-- Piece k of the load is in the memory.
abbrev pub HasPiece : Upload → Load → ℕ → DroneState → Type 0
HasPiece s l k d =
    (i : ℕ) → i < length (chunk_of l.bytes k) →
    slice_index d.memory (s.offset + chunk_start k + i) ≡ slice_index (chunk_of l.bytes k) i

-- The table's entry of the session's id is the load's: the session's offset, and the load's segments.
abbrev pub HasEntry : Upload → Load → DroneState → Type 0
HasEntry s l d = slice_get d.table s.trajectory_id ≡ Some (Some (record { offset = s.offset; pieces = l.pieces }))

-- The memory has the whole load.
abbrev pub HasLoad : Upload → Load → DroneState → Type 0
HasLoad s l d = (i : ℕ) → i < length l.bytes → slice_index d.memory (s.offset + i) ≡ slice_index l.bytes i
