-- What reading gives: which trajectory bytes begin with, and the first field that is faulty.
use Rattle.std.specs.Prelude.{◌≡◌, ℕ, zero, suc, ◌+◌, ◌*◌, ◌/◌, ◌%◌, ◌^◌, ◌<◌, ◌≤◌, ℤ, List, ◌++◌, length, drop}
use Rattle.std.specs.Prelude.{slice_index, nat_lt, ◌==◌, if◌then◌else◌, Option, Some, None, Result, Ok, Err}
use Rattle.std.specs.List.{flat_map, All}
use Rattle.std.specs.Option.{option_or}
use Rattle.byteorder.specs.Endian.{little_bytes, little_number}
use Rattle.traj_codec.specs.declared.reading.CodecFault.{CodecFault}
use Rattle.traj_codec.specs.declared.reading.CodecFault.TheVariants.{Short, ZeroDuration, Memory}
use Rattle.traj_codec.specs.declared.traj.Element.{Element}
use Rattle.traj_codec.specs.declared.traj.Segment.{Segment}
use Rattle.traj_codec.specs.declared.traj.Traj.{Traj}
use Rattle.traj_codec.specs.Spelling.{numbers, kind, stored, header, bodies, segment, HasDuration, Spells, IsNumber}
use Rattle.traj_codec.specs.Spelling.{IsElement, IsSegment, IsTrajectory}

-- The bytes begin with a spelling of this trajectory, of this many segments, that takes this many bytes.
pub record BeginsWith (bytes : List ℕ) (pieces : ℕ) (t : Traj) (used : ℕ) : Type 0 where
  pub spelled : List ℕ
  pub rest : List ℕ
  pub cut : bytes ≡ spelled ++ rest
  pub spells : Spells spelled t
  pub formed : IsTrajectory t
  pub many : length t.segments ≡ pieces
  pub takes : length spelled ≡ used

-- ---- the first fault: that of the first field, in the order of the bytes, that has one. Places count bytes from 0.

-- a field of this many bytes at a place isn't whole
abbrev pub field_fault : List ℕ → ℕ → ℕ → Option CodecFault
field_fault bytes size at = if nat_lt (length bytes) (at + size) then Some (Short at) else None

-- this many numbers of two bytes from a place on
abbrev pub numbers_fault : List ℕ → ℕ → ℕ → Option CodecFault
numbers_fault bytes zero at = None
numbers_fault bytes (suc n) at = option_or (field_fault bytes 2 at) (numbers_fault bytes n (at + 2))

-- a duration of two bytes at a place: it isn't whole, or it is 0
abbrev pub duration_fault : List ℕ → ℕ → Option CodecFault
duration_fault bytes at =
    option_or (field_fault bytes 2 at) (if little_number 2 (drop at bytes) == 0 then Some (ZeroDuration at) else None)

-- how many numbers an element has whose kind, in a header's two bits, is this
abbrev pub count_of_kind : ℕ → ℕ
count_of_kind k = if k == 0 then 0 else (if k == 1 then 1 else (if k == 2 then 3 else 7))

-- how many numbers the elements have under this header
abbrev pub count_under : ℕ → ℕ
count_under h = count_of_kind (h % 4) + count_of_kind (h / 4 % 4) + count_of_kind (h / 16 % 4) + count_of_kind (h / 64)

-- a segment at a place: its header, of one byte, its duration and its numbers
abbrev pub segment_fault : List ℕ → ℕ → Option CodecFault
segment_fault bytes at =
    option_or (field_fault bytes 1 at)
    (option_or (duration_fault bytes (at + 1)) (numbers_fault bytes (count_under (slice_index bytes at)) (at + 3)))

-- how many bytes the segment at a place takes, by its header
abbrev pub segment_length : List ℕ → ℕ → ℕ
segment_length bytes at = 3 + 2 * count_under (slice_index bytes at)

-- this many segments from a place on
abbrev pub segments_fault : List ℕ → ℕ → ℕ → Option CodecFault
segments_fault bytes zero at = None
segments_fault bytes (suc n) at =
    option_or (segment_fault bytes at) (segments_fault bytes n (at + segment_length bytes at))

-- a trajectory of this many segments: the four numbers of its start, which take 8 bytes, and then the segments
abbrev pub decode_fault : List ℕ → ℕ → Option CodecFault
decode_fault bytes pieces = option_or (numbers_fault bytes 4 0) (segments_fault bytes pieces 8)

-- What `decode` returns: the trajectory that the bytes begin with and how many bytes it takes, or the first fault.
abbrev pub DecodeGives : List ℕ → ℕ → Result (Traj × ℕ) CodecFault → Type 0
DecodeGives bytes pieces (Ok r) = BeginsWith bytes pieces r.0 r.1 × (decode_fault bytes pieces ≡ None)
DecodeGives bytes pieces (Err (Short at)) = decode_fault bytes pieces ≡ Some (Short at)
DecodeGives bytes pieces (Err (ZeroDuration at)) = decode_fault bytes pieces ≡ Some (ZeroDuration at)
DecodeGives bytes pieces (Err Memory) = Unit {0}

-- It is this trajectory and this many bytes, or the program is out of memory.
abbrev pub IsDecoded : Traj → ℕ → Result (Traj × ℕ) CodecFault → Type 0
IsDecoded t used (Ok r) = (r.0 ≡ t) × (r.1 ≡ used)
IsDecoded t used (Err (Short at)) = ⊥
IsDecoded t used (Err (ZeroDuration at)) = ⊥
IsDecoded t used (Err Memory) = Unit {0}

-- ---- what each step of reading gives

-- The bytes from the place `at` to the place `next` are this text.
pub record Spans (bytes : List ℕ) (at next : ℕ) (text : List ℕ) : Type 0 where
  pub within : next ≤ length bytes
  pub here : drop at bytes ≡ text ++ drop next bytes

-- Numbers stand there.
pub record NumbersStand (bytes : List ℕ) (at next : ℕ) (zs : List ℤ) : Type 0 where
  pub each : All IsNumber zs
  pub spans : Spans bytes at next (numbers zs)

-- A duration stands there, which isn't 0.
pub record DurationStands (bytes : List ℕ) (at ms : ℕ) : Type 0 where
  pub some : 0 < ms
  pub small : ms < 2 ^ 16
  pub spans : Spans bytes at (at + 2) (little_bytes 2 ms)

-- An element of this kind stands there.
pub record ElementStands (bytes : List ℕ) (at k : ℕ) (e : Element) (next : ℕ) : Type 0 where
  pub formed : IsElement e
  pub of_kind : kind e ≡ k
  pub spans : Spans bytes at next (numbers (stored e))

-- Elements under this header stand there.
pub record ElementsStand (bytes : List ℕ) (at h : ℕ) (es : List Element) (next : ℕ) : Type 0 where
  pub many : length es ≡ 4
  pub each : All IsElement es
  pub under : header es ≡ h
  pub spans : Spans bytes at next (bodies es)

-- Segments stand there.
pub record SegmentsStand (bytes : List ℕ) (at : ℕ) (segments : List Segment) (next : ℕ) : Type 0 where
  pub each : All IsSegment segments
  pub durations : All HasDuration segments
  pub spans : Spans bytes at next (flat_map segment segments)

-- this many segments, or the first fault
abbrev pub SegmentsGive : List ℕ → ℕ → ℕ → Result (List Segment × ℕ) CodecFault → Type 0
SegmentsGive bytes at pieces (Ok r) = SegmentsStand bytes at r.0 r.1 × (length r.0 ≡ pieces)
SegmentsGive bytes at pieces (Err (Short place)) = segments_fault bytes pieces at ≡ Some (Short place)
SegmentsGive bytes at pieces (Err (ZeroDuration place)) = segments_fault bytes pieces at ≡ Some (ZeroDuration place)
SegmentsGive bytes at pieces (Err Memory) = Unit {0}
