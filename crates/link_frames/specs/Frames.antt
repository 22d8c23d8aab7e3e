-- The frames of a link as bytes, and which frames a list of bytes is (docs/RADIO.md, "Link frames").
use Rattle.std.specs.Prelude.{◌≡◌, ℕ, ◌+◌, ◌≤◌, ◌&&◌, nat_lt, nat_le, ◌==◌, if◌then◌else◌, List, [], ◌∷◌, ◌++◌, length}
use Rattle.std.specs.Prelude.{drop, slice_index}
use Rattle.std.specs.List.{flat_map, All}
use Rattle.whole_numbers.specs.Limits.{most_drones}
use Rattle.link_frames.specs.declared.frame.Frame.{Frame}
use Rattle.link_frames.specs.declared.frame.Frame.TheVariants as frame
use Rattle.link_frames.specs.declared.frame.View.{View}
use Rattle.link_frames.specs.declared.frame.View.TheVariants as view
use Rattle.link_frames.specs.declared.frame.FrameFault.{FrameFault}
use Rattle.link_frames.specs.declared.frame.FrameFault.TheVariants.{Kind, Drone, Length}
use Rattle.link_frames.specs.declared.frame.Fed.{Fed}
use Rattle.link_frames.specs.declared.frame.Fed.TheVariants as fed_is

-- ---- what a frame's bytes are

-- the first byte of a tick, of a packet's frame, and of the frame that ends an upload
abbrev pub tick_byte : ℕ
tick_byte = 0x54

abbrev pub packet_byte : ℕ
packet_byte = 0x50

abbrev pub end_byte : ℕ
end_byte = 0x45

-- a packet has at most this many bytes
abbrev pub most_bytes : ℕ
most_bytes = 31

-- A tick is one byte. A packet's frame has the drone, the packet's length and the packet after its first byte.
abbrev pub frame_bytes : Frame → List ℕ
frame_bytes frame.Tick = tick_byte ∷ []
frame_bytes (frame.Packet drone packet) = packet_byte ∷ drone ∷ length packet ∷ packet

-- the frame that ends an upload, with its status
abbrev pub end_frame : ℕ → List ℕ
end_frame status = end_byte ∷ status ∷ []

-- a frame that may stand on a link: a drone, counted from 1, a packet of 1 to 31 bytes
abbrev pub IsFrame : Frame → Type 0
IsFrame frame.Tick = Unit {0}
IsFrame (frame.Packet drone packet) = (1 ≤ drone) × (drone ≤ most_drones) × (1 ≤ length packet)
    × (length packet ≤ most_bytes)

-- the frame that a view shows
abbrev pub frame_of : View → Frame
frame_of view.Tick = frame.Tick
frame_of (view.Packet drone packet) = frame.Packet drone packet.now

-- frames, one after the other
abbrev pub frames_bytes : List Frame → List ℕ
frames_bytes frames = flat_map frame_bytes frames

-- Bytes that a frame begins with and that aren't all of it; no byte is so too.
pub record IsBegun (bytes : List ℕ) : Type 0 where
  pub frame : Frame
  pub more : List ℕ
  pub formed : IsFrame frame
  pub cut : frame_bytes frame ≡ bytes ++ more
  pub some : 1 ≤ length more

-- The bytes begin with no whole frame: there is none, the first one is unfinished, or one of its bytes has no place.
abbrev pub BeginsNoFrame : List ℕ → Type 0
BeginsNoFrame bytes = (f : Frame) (later : List ℕ) → IsFrame f → bytes ≡ frame_bytes f ++ later → ⊥

-- The bytes begin with this frame, which may stand on a link.
abbrev pub BeginsWithFrame : List ℕ → Frame → Type 0
BeginsWithFrame bytes f = IsFrame f × ((later : List ℕ) × (bytes ≡ frame_bytes f ++ later))

-- ---- one byte more

-- a first byte
abbrev pub fed_kind : ℕ → Fed
fed_kind byte =
    if byte == tick_byte then fed_is.Frame frame.Tick
    else (if byte == packet_byte then fed_is.More else fed_is.Bad Kind)

-- a byte of the packet: the last one makes the frame whole
abbrev pub fed_packet : ℕ → ℕ → List ℕ → ℕ → Fed
fed_packet drone len packet byte =
    if nat_lt (length packet + 1) len then fed_is.More else fed_is.Frame (frame.Packet drone (packet ++ byte ∷ []))

-- What a byte gives after those since the last whole frame: it is the kind, the drone, the length, or one of the
-- packet.
abbrev pub fed : List ℕ → ℕ → Fed
fed begun byte =
    if length begun == 0 then fed_kind byte
    else (if length begun == 1 then (if nat_le 1 byte && nat_le byte most_drones then fed_is.More else fed_is.Bad Drone)
    else (if length begun == 2 then (if nat_le 1 byte && nat_le byte most_bytes then fed_is.More else fed_is.Bad Length)
    else fed_packet (slice_index begun 1) (slice_index begun 2) (drop 3 begun) byte))

-- the bytes since the last whole frame, after one more
abbrev pub next_begun : Fed → List ℕ → ℕ → List ℕ
next_begun fed_is.More begun byte = begun ++ byte ∷ []
next_begun (fed_is.Frame f) begun byte = []
next_begun (fed_is.Bad why) begun byte = begun ++ byte ∷ []

-- ---- what that means

-- What `fed` tells is what frames are, and bytes are one list of frames alone.
pub record FrameLaw : Type 0 where
  -- before any byte
  pub none : IsBegun []
  -- a byte with which the frame isn't whole yet
  pub more : (begun : List ℕ) (byte : ℕ) → IsBegun begun → fed begun byte ≡ fed_is.More → IsBegun (begun ++ byte ∷ [])
  -- a byte with which it is
  pub whole : (begun : List ℕ) (byte : ℕ) (f : Frame) → IsBegun begun → fed begun byte ≡ fed_is.Frame f →
      IsFrame f × (frame_bytes f ≡ begun ++ byte ∷ [])
  -- a byte with which no frame begins so, however it goes on
  pub bad : (begun later : List ℕ) (byte : ℕ) (why : FrameFault) → IsBegun begun → fed begun byte ≡ fed_is.Bad why →
      BeginsNoFrame (begun ++ byte ∷ later)
  -- a frame that is begun is no whole one
  pub begun : (bytes : List ℕ) → IsBegun bytes → BeginsNoFrame bytes
  -- bytes that begin with a frame begin with no other
  pub step : (f g : Frame) (later after : List ℕ) →
      frame_bytes f ++ later ≡ frame_bytes g ++ after → (f ≡ g) × (later ≡ after)
  -- bytes are one list of frames with less than a frame, or a faulty one, after it
  pub one : (frames others : List Frame) (rest left : List ℕ) → All IsFrame frames → All IsFrame others →
      BeginsNoFrame rest → BeginsNoFrame left →
      frames_bytes frames ++ rest ≡ frames_bytes others ++ left → (frames ≡ others) × (rest ≡ left)
