-- The frames between a bridge and the flight director, as bytes (docs/PROMISES.md, "Its frames").
use Rattle.std.specs.Prelude.{◌≡◌, ⊤, ℕ, ◌+◌, ◌*◌, ◌/◌, ◌%◌, ◌^◌, ◌<◌, ◌≤◌, Bool, true, false, nat_le, nat_lt, ◌==◌}
use Rattle.std.specs.Prelude.{if◌then◌else◌, List, [], ◌∷◌, ◌++◌, length, drop, slice_index, Option, Some, None, Result}
use Rattle.std.specs.Prelude.{Ok, Err, ℤ, FitsSigned}
use Rattle.std.specs.Int.{w16, cast_signed, cast_unsigned}
use Rattle.byteorder.specs.Endian.{little_bytes, little_number}
use Rattle.flight_model.specs.declared.events.Order.{Order}
use Rattle.flight_model.specs.declared.events.Order.TheVariants as order
use Rattle.flight_model.specs.declared.events.Sample.{Sample}
use Rattle.flight_model.specs.declared.events.Signal.{Signal}
use Rattle.flight_model.specs.declared.events.Signal.TheVariants as signal
use Rattle.flight_model.specs.declared.events.Event.{Event}
use Rattle.flight_model.specs.declared.events.Event.TheVariants.{Clock, Seen, Answered, Said}
use Rattle.flight_model.specs.declared.events.Fault.{Fault}
use Rattle.flight_model.specs.declared.events.Fault.TheVariants.{Silent, Astray, Lost, Refused, Late, Unsure, Outside}
use Rattle.flight_model.specs.declared.events.Fault.TheVariants.{Uncovered}
use Rattle.flight_model.specs.declared.events.Frame.{Frame}
use Rattle.flight_model.specs.declared.events.Frame.TheVariants.{To, ToAll, Noted, Over}
use Rattle.flight_model.specs.Ours.{flight_group}
use Rattle.flight_link.specs.declared.events.FrameFault.{FrameFault}
use Rattle.flight_link.specs.declared.events.FrameFault.TheVariants as fault

-- a signed number of two bytes in two's complement, the lower byte first
abbrev pub signed : ℤ → List ℕ
signed z = little_bytes 2 (cast_unsigned w16 z)

-- ---- events come in

abbrev pub bit : Bool → ℕ
bit true = 1
bit false = 0

-- a sample's flags in one byte
abbrev pub flags : Sample → ℕ
flags x =
    bit x.ready + 2 * bit x.armed + 4 * bit x.lost + 8 * bit x.down + 16 * bit x.flying + 32 * bit x.sure

abbrev pub signal_byte : Signal → ℕ
signal_byte signal.Go = 0
signal_byte signal.Land = 1
signal_byte signal.Stop = 2

-- An event's frame: its kind, and then a time; a drone with its sample; a drone with a status; or a signal.
abbrev pub event_bytes : Event → List ℕ
event_bytes (Clock ms) = 1 ∷ little_bytes 2 ms
event_bytes (Seen d x) = 2 ∷ d ∷ (little_bytes 2 x.age ++ (signed x.x ++ (signed x.y ++ (signed x.z ++ flags x ∷ []))))
event_bytes (Answered d status) = 3 ∷ d ∷ status ∷ []
event_bytes (Said s) = 4 ∷ signal_byte s ∷ []

-- a sample that a frame may carry
pub record IsSample (x : Sample) : Type 0 where
  pub age : x.age < 2 ^ 16
  pub x_fits : FitsSigned w16 x.x
  pub y_fits : FitsSigned w16 x.y
  pub z_fits : FitsSigned w16 x.z

-- an event that a frame may carry, in a flight of `drones` drones
abbrev pub IsEvent : ℕ → Event → Type 0
IsEvent drones (Clock ms) = ms < 2 ^ 16
IsEvent drones (Seen d x) = (d < drones) × IsSample x
IsEvent drones (Answered d status) = d < drones
IsEvent drones (Said s) = ⊤

-- ---- what bytes are as an event

-- how many bytes the frame has that begins with this one
abbrev pub length_of : ℕ → Option ℕ
length_of kind =
    if kind == 1 then Some 3
    else (if kind == 2 then Some 11
    else (if kind == 3 then Some 3
    else (if kind == 4 then Some 2 else None)))

abbrev pub bit_at : ℕ → ℕ → Bool
bit_at weight flags = (flags / weight) % 2 == 1

-- a sample of these numbers and flags
abbrev pub sample_from : ℕ → ℤ → ℤ → ℤ → ℕ → Sample
sample_from age x y z flags = record {
  age = age;
  x = x;
  y = y;
  z = z;
  ready = bit_at 1 flags;
  armed = bit_at 2 flags;
  lost = bit_at 4 flags;
  down = bit_at 8 flags;
  flying = bit_at 16 flags;
  sure = bit_at 32 flags;
}

-- the signed number of two bytes from a place on
abbrev pub signed_at : ℕ → List ℕ → ℤ
signed_at place bytes = cast_signed w16 (little_number 2 (drop place bytes))

-- the sample of a frame without its kind
abbrev pub seen_of : List ℕ → Sample
seen_of bytes =
    sample_from (little_number 2 (drop 1 bytes)) (signed_at 3 bytes) (signed_at 5 bytes) (signed_at 7 bytes)
    (slice_index bytes 9)

abbrev pub clock_in : List ℕ → Result Event FrameFault
clock_in bytes = if length bytes == 2 then Ok (Clock (little_number 2 bytes)) else Err fault.Length

-- the drone is judged before the flags
abbrev pub sample_in : ℕ → List ℕ → Result Event FrameFault
sample_in drones bytes =
    if length bytes == 10
    then (if nat_le drones (slice_index bytes 0) then Err fault.Drone
    else (if nat_lt 63 (slice_index bytes 9) then Err fault.Flags else Ok (Seen (slice_index bytes 0) (seen_of bytes))))
    else Err fault.Length

abbrev pub answer_in : ℕ → List ℕ → Result Event FrameFault
answer_in drones bytes =
    if length bytes == 2
    then (if nat_le drones (slice_index bytes 0) then Err fault.Drone
    else Ok (Answered (slice_index bytes 0) (slice_index bytes 1)))
    else Err fault.Length

abbrev pub signal_in : ℕ → Result Event FrameFault
signal_in byte =
    if byte == 0 then Ok (Said signal.Go)
    else (if byte == 1 then Ok (Said signal.Land)
    else (if byte == 2 then Ok (Said signal.Stop) else Err fault.Signal))

abbrev pub said_in : List ℕ → Result Event FrameFault
said_in bytes = if length bytes == 1 then signal_in (slice_index bytes 0) else Err fault.Length

-- the event of a frame, or why it is none: by its kind, then its length, its drone, and the rest
abbrev pub event_in : ℕ → List ℕ → Result Event FrameFault
event_in drones [] = Err fault.Kind
event_in drones (kind ∷ rest) =
    if kind == 1 then clock_in rest
    else (if kind == 2 then sample_in drones rest
    else (if kind == 3 then answer_in drones rest
    else (if kind == 4 then said_in rest else Err fault.Kind)))

-- ---- what the director says goes out

abbrev pub position : ℤ → ℤ → ℤ → List ℕ
position x y z = signed x ++ (signed y ++ signed z)

-- an order: its kind, and the numbers that it has; a start and a group have the group's mask
abbrev pub order_bytes : Order → List ℕ
order_bytes order.Arm = 0 ∷ []
order_bytes (order.Rise z ms) = 1 ∷ (signed z ++ little_bytes 4 ms)
order_bytes (order.Go x y z yaw ms) = 2 ∷ (position x y z ++ (signed yaw ++ little_bytes 4 ms))
order_bytes (order.Land z ms) = 3 ∷ (signed z ++ little_bytes 4 ms)
order_bytes order.Start = 4 ∷ flight_group ∷ []
order_bytes order.Halt = 5 ∷ []
order_bytes order.Disarm = 6 ∷ []
order_bytes order.Group = 7 ∷ flight_group ∷ []

abbrev pub fault_byte : Fault → ℕ
fault_byte Silent = 0
fault_byte Astray = 1
fault_byte Lost = 2
fault_byte Refused = 3
fault_byte Late = 4
fault_byte Unsure = 5
fault_byte Outside = 6
fault_byte Uncovered = 7

abbrev pub over_byte : Bool → Bool → ℕ
over_byte flown kept = bit flown + 2 * bit kept

-- What goes out: an order to one drone, one to all, a note, or the end.
abbrev pub output_bytes : Frame → List ℕ
output_bytes (To d o) = 1 ∷ d ∷ order_bytes o
output_bytes (ToAll o) = 2 ∷ order_bytes o
output_bytes (Noted n) = 3 ∷ n.drone ∷ fault_byte n.fault ∷ []
output_bytes (Over flown kept) = 4 ∷ over_byte flown kept ∷ []

-- an order whose numbers fit their bytes
abbrev pub IsOrder : Order → Type 0
IsOrder order.Arm = ⊤
IsOrder (order.Rise z ms) = FitsSigned w16 z × (ms < 2 ^ 32)
IsOrder (order.Go x y z yaw ms) =
    FitsSigned w16 x × FitsSigned w16 y × FitsSigned w16 z × FitsSigned w16 yaw × (ms < 2 ^ 32)
IsOrder (order.Land z ms) = FitsSigned w16 z × (ms < 2 ^ 32)
IsOrder order.Start = ⊤
IsOrder order.Halt = ⊤
IsOrder order.Disarm = ⊤
IsOrder order.Group = ⊤

-- the order of bytes that are one
abbrev pub height_in : (ℤ → ℕ → Order) → List ℕ → Order
height_in make bytes = make (cast_signed w16 (little_number 2 bytes)) (little_number 4 (drop 2 bytes))

abbrev pub go_in : List ℕ → Order
go_in bytes =
    order.Go (cast_signed w16 (little_number 2 bytes)) (cast_signed w16 (little_number 2 (drop 2 bytes)))
    (cast_signed w16 (little_number 2 (drop 4 bytes))) (cast_signed w16 (little_number 2 (drop 6 bytes)))
    (little_number 4 (drop 8 bytes))

abbrev pub order_in : List ℕ → Option Order
order_in [] = None
order_in (kind ∷ rest) =
    if kind == 0 then Some order.Arm
    else (if kind == 1 then Some (height_in order.Rise rest)
    else (if kind == 2 then Some (go_in rest)
    else (if kind == 3 then Some (height_in order.Land rest)
    else (if kind == 4 then Some order.Start
    else (if kind == 5 then Some order.Halt
    else (if kind == 6 then Some order.Disarm else Some order.Group))))))

abbrev pub fault_in : ℕ → Fault
fault_in byte =
    if byte == 0 then Silent
    else (if byte == 1 then Astray
    else (if byte == 2 then Lost
    else (if byte == 3 then Refused
    else (if byte == 4 then Late
    else (if byte == 5 then Unsure
    else (if byte == 6 then Outside else Uncovered))))))

-- what the director said, where the numbers fit their bytes
abbrev pub IsOutput : Frame → Type 0
IsOutput (To d o) = IsOrder o
IsOutput (ToAll o) = IsOrder o
IsOutput (Noted n) = ⊤
IsOutput (Over flown kept) = ⊤

abbrev pub to_in : ℕ → Option Order → Option Frame
to_in d None = None
to_in d (Some o) = Some (To d o)

abbrev pub all_in : Option Order → Option Frame
all_in None = None
all_in (Some o) = Some (ToAll o)

-- what was said, from bytes that say something
abbrev pub output_in : List ℕ → Option Frame
output_in [] = None
output_in (kind ∷ rest) =
    if kind == 1 then to_in (slice_index rest 0) (order_in (drop 1 rest))
    else (if kind == 2 then all_in (order_in rest)
    else (if kind == 3 then Some (Noted (record { drone = slice_index rest 0; fault = fault_in (slice_index rest 1) }))
    else Some (Over (bit_at 1 (slice_index rest 0)) (bit_at 2 (slice_index rest 0)))))

-- ---- what holds of all frames

pub record FrameLaw : Type 0 where
  -- an event's frame is read as the event
  pub read : (drones : ℕ) (e : Event) → IsEvent drones e → event_in drones (event_bytes e) ≡ Ok e
  -- bytes that are read as an event are its frame
  pub only : (drones : ℕ) (bytes : List ℕ) (e : Event) → ((i : ℕ) → slice_index bytes i < 256) →
      event_in drones bytes ≡ Ok e →
      IsEvent drones e × (bytes ≡ event_bytes e)
  -- a frame has the length that its first byte says
  pub lasts : (e : Event) → length_of (slice_index (event_bytes e) 0) ≡ Some (length (event_bytes e))
  -- what is said can be told from its bytes, so no two frames are alike
  pub said : (f : Frame) → IsOutput f → output_in (output_bytes f) ≡ Some f
