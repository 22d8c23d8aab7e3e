-- The frame that names the first cause why three shows are no flight (docs/PROMISES.md, "Its frames").
use Rattle.std.specs.Prelude.{◌≡◌, ℕ, ◌+◌, ◌*◌, ◌/◌, ◌%◌, ◌<◌, ◌==◌, if◌then◌else◌, List, [], ◌∷◌, ◌++◌, slice_index}
use Rattle.std.specs.Prelude.{Some}
use Rattle.choreo_show.specs.Plain.{PlainShow}
use Rattle.link_frames.specs.Frames.{end_frame}
use Rattle.flight_steps.specs.declared.faults.FlightFault.{FlightFault}
use Rattle.flight_steps.specs.declared.faults.FlightFault.TheVariants as fault
use Rattle.flight_steps.specs.declared.faults.Seam.{Seam}
use Rattle.flight_steps.specs.declared.faults.Seam.TheVariants as seam
use Rattle.flight_steps.specs.declared.faults.Way.{Way}
use Rattle.flight_steps.specs.declared.faults.Way.TheVariants as way
use Rattle.command_words.specs.declared.flight.FlightOptions.{FlightOptions}
use Rattle.show_direct.specs.Exchanges.{Accepts}
use Rattle.show_direct.specs.Flights.{fault_of}

-- ---- its bytes

-- the first byte, with which neither an end frame nor an output of the director begins
abbrev pub no_flight_byte : ℕ
no_flight_byte = 5

abbrev pub way_byte : Way → ℕ
way_byte way.Up = 0
way_byte way.Down = 1

abbrev pub seam_byte : Seam → ℕ
seam_byte seam.UpToShow = 0
seam_byte seam.ShowToDown = 1
seam_byte seam.DownToUp = 2

-- After its first byte the frame has the cause, the way or the seam, the drone, and the cue in two bytes, the lower one
-- first. Drones and cues are counted from 0.
abbrev pub cause_bytes : ℕ → ℕ → ℕ → ℕ → List ℕ
cause_bytes cause place drone cue = no_flight_byte ∷ cause ∷ place ∷ drone % 256 ∷ cue % 256 ∷ (cue / 256) % 256 ∷ []

-- What a cause lacks is 0. How near drones have to be to their pads, and how far they may stray, is in no frame: the
-- reader gave both numbers.
abbrev pub fault_frame : FlightFault → List ℕ
fault_frame (fault.OtherDrone w d) = cause_bytes 0 (way_byte w) d 0
fault_frame (fault.Gap s d) = cause_bytes 1 (seam_byte s) d 0
fault_frame (fault.Restless w d cue) = cause_bytes 2 (way_byte w) d cue
fault_frame (fault.Still w d) = cause_bytes 3 (way_byte w) d 0
fault_frame (fault.Slanted w d) = cause_bytes 4 (way_byte w) d 0
fault_frame (fault.Narrow near stray) = cause_bytes 5 0 0 0
fault_frame (fault.OtherEllipsoid w) = cause_bytes 6 (way_byte w) 0 0

-- what is written of three shows that are no flight: the first cause, and the end
abbrev pub no_flight_bytes : FlightFault → List ℕ
no_flight_bytes f = fault_frame f ++ end_frame 19

-- ---- what the bytes say

abbrev pub way_in : ℕ → Way
way_in byte = if byte == 0 then way.Up else way.Down

abbrev pub seam_in : ℕ → Seam
seam_in byte = if byte == 0 then seam.UpToShow else (if byte == 1 then seam.ShowToDown else seam.DownToUp)

-- the cause of this number, where drones may stand so far from their pads, and stray so far from their way up
abbrev pub fault_from : (near stray cause place drone cue : ℕ) → FlightFault
fault_from near stray cause place drone cue =
    if cause == 0 then fault.OtherDrone (way_in place) drone
    else (if cause == 1 then fault.Gap (seam_in place) drone
    else (if cause == 2 then fault.Restless (way_in place) drone cue
    else (if cause == 3 then fault.Still (way_in place) drone
    else (if cause == 4 then fault.Slanted (way_in place) drone
    else (if cause == 5 then fault.Narrow near stray
    else fault.OtherEllipsoid (way_in place))))))

-- the cause that a frame names
abbrev pub fault_in : ℕ → ℕ → List ℕ → FlightFault
fault_in near stray bytes =
    fault_from near stray (slice_index bytes 1) (slice_index bytes 2) (slice_index bytes 3)
    (slice_index bytes 4 + 256 * slice_index bytes 5)

-- the cause can be named: its numbers fit their bytes, and those of a narrow way up are these
abbrev pub IsNamed : ℕ → ℕ → FlightFault → Type 0
IsNamed near stray (fault.OtherDrone w d) = d < 256
IsNamed near stray (fault.Gap s d) = d < 256
IsNamed near stray (fault.Restless w d cue) = (d < 256) × (cue < 256 * 256)
IsNamed near stray (fault.Still w d) = d < 256
IsNamed near stray (fault.Slanted w d) = d < 256
IsNamed near stray (fault.Narrow n s) = (n ≡ near) × (s ≡ stray)
IsNamed near stray (fault.OtherEllipsoid w) = Unit {0}

-- What holds of the frame.
pub record FaultFrameLaw : Type 0 where
  -- the bytes of a cause that can be named say which it is
  pub one : (near stray : ℕ) (f : FlightFault) → IsNamed near stray f → fault_in near stray (fault_frame f) ≡ f
  -- the first cause against three shows that are accepted can be named
  pub named : (o : FlightOptions) (first second third : List ℕ) (up show down : PlainShow) (f : FlightFault) →
      Accepts o.depth first up → Accepts o.depth second show → Accepts o.depth third down →
      fault_of o up show down ≡ Some f → IsNamed o.near up.settings.stray f
