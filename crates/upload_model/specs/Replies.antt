-- What an answer says of each packet of a session (docs/RADIO.md, "What an answer matches").
use Rattle.std.specs.Prelude.{ℕ, ◌+◌, ◌-◌, Bool, true, false, not, ◌&&◌, ◌||◌, nat_lt, ◌==◌, if◌then◌else◌, List}
use Rattle.std.specs.Prelude.{length, take, drop, find, slice_index, Option, Some, None, Result, Ok, Err}
use Rattle.std.specs.List.{range_with_len}
use Rattle.std.specs.Str.{bytes_eq}
use Rattle.crtp_packets.specs.Reading.{up_of}
use Rattle.crtp_packets.specs.declared.reading.PacketFault.{PacketFault}
use Rattle.crtp_packets.specs.declared.reading.Up.{Up}
use Rattle.crtp_packets.specs.declared.reading.Up.TheVariants.{WriteAnswer, ReadAnswer, CommandAnswer}
use Rattle.crtp_packets.specs.Chunks.{chunk_start}
use Rattle.upload_model.specs.declared.limits.TheConstants.{ACCEPTED}
use Rattle.upload_model.specs.declared.events.Event.{Event}
use Rattle.upload_model.specs.declared.events.Event.TheVariants as event
use Rattle.upload_model.specs.declared.events.Progress.{Progress}
use Rattle.upload_model.specs.declared.events.Progress.TheVariants.{Going, Refused, Differs}
use Rattle.upload_model.specs.declared.events.Reply.{Reply}
use Rattle.upload_model.specs.declared.events.Reply.TheVariants.{Silent, Good, Ends}
use Rattle.upload_model.specs.Sessions.{Upload, drone_count, write_count, load_count, packet_count, packet_at, is_read}
use Rattle.upload_model.specs.Sessions.{read_address, wanted}

-- ---- which answers match which packets

-- The status that a message carries for packet k of drone d, which is no read, if it matches that
-- packet. A write answer matches the write with the same memory id and address. A commander answer
-- matches the define or the start whose first three payload bytes it carries.
abbrev pub status_in : Upload → ℕ → ℕ → Result Up PacketFault → Option ℕ
status_in s d k (Ok (WriteAnswer id address status)) =
    if nat_lt k (write_count s d) && id == s.memory_id && address == s.offset + chunk_start k then Some status else None
status_in s d k (Ok (CommandAnswer first status)) =
    if not (nat_lt k (write_count s d)) && bytes_eq first (take 3 (drop 1 (packet_at s d k))) then Some status else None
status_in s d k (Ok (ReadAnswer id address status piece)) = None
status_in s d k (Err fault) = None

-- The answer to a read: its status and its bytes.
pub record ReadBack : Type 0 where
  pub status : ℕ
  pub bytes : List ℕ

-- What a message answers to read k of drone d, if it matches that read. A read answer matches the read
-- with the same memory id and address; where its status is 0, it has to have as many bytes as the read
-- asks for.
abbrev pub read_in : Upload → ℕ → ℕ → Result Up PacketFault → Option ReadBack
read_in s d k (Ok (ReadAnswer id address status piece)) =
    if id == s.memory_id && address == read_address s k
    && (not (status == ACCEPTED) || length piece.items == length (wanted s d k))
    then Some (record { status = status; bytes = piece.items }) else None
read_in s d k (Ok (WriteAnswer id address status)) = None
read_in s d k (Ok (CommandAnswer first status)) = None
read_in s d k (Err fault) = None

-- ---- what they say of it

-- A status, if there is one, of packet k of drone d: 0 says that it was carried out, another one
-- refuses it.
abbrev pub status_reply : ℕ → ℕ → Option ℕ → Reply
status_reply d k None = Silent
status_reply d k (Some status) = if status == ACCEPTED then Good else Ends (Refused d k status)

-- The first place at which these bytes differ, if there is one.
abbrev pub first_other : List ℕ → List ℕ → Option ℕ
first_other bytes got = find (λ i. not (slice_index bytes i == slice_index got i)) (range_with_len 0 (length bytes))

-- A read of drone d that begins at this address was to bring these bytes, and brought those, which
-- differ first at this place, if anywhere.
abbrev pub compared : ℕ → ℕ → List ℕ → List ℕ → Option ℕ → Reply
compared d address bytes got None = Good
compared d address bytes got (Some i) = Ends (Differs d (address + i) (slice_index bytes i) (slice_index got i))

-- An answer, if there is one, to read j of drone d, which is packet k: another status refuses it; of
-- other bytes than the load's the first ends the upload.
abbrev pub read_reply : Upload → ℕ → ℕ → ℕ → Option ReadBack → Reply
read_reply s d k j None = Silent
read_reply s d k j (Some r) =
    if r.status == ACCEPTED
    then compared d (read_address s j) (wanted s d j) r.bytes (first_other (wanted s d j) r.bytes)
    else Ends (Refused d k r.status)

-- What a message says of packet k of drone d.
unfoldable pub reply_in : Upload → ℕ → ℕ → Result Up PacketFault → Reply
reply_in s d k m =
    if is_read s d k then read_reply s d k (k - load_count s d) (read_in s d (k - load_count s d) m)
    else status_reply d k (status_in s d k m)

-- The same for an event: only what comes up from drone d itself, and only for a packet of d.
unfoldable pub reply_to : Upload → ℕ → ℕ → Event → Reply
reply_to s d k event.Tick = Silent
reply_to s d k (event.Up from packet) =
    if from == d && nat_lt d (drone_count s) && nat_lt k (packet_count s d) then reply_in s d k (up_of packet)
    else Silent

-- Whether it says that the drone did what was wanted.
abbrev pub is_good : Reply → Bool
is_good Silent = false
is_good Good = true
is_good (Ends p) = false

-- Whether it ends the upload.
abbrev pub is_end : Reply → Bool
is_end Silent = false
is_end Good = false
is_end (Ends p) = true

-- What it ends the upload with, if it does.
abbrev pub end_of : Reply → Progress
end_of Silent = Going
end_of Good = Going
end_of (Ends p) = p
