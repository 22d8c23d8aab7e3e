-- Three shows by hand that are a flight, and beside them some that are none.
use Rattle.show_direct.proofs.Prelude.{◌≡◌, ℕ, ◌*◌, true, List, [], ◌∷◌, Some, None, refl, arith, All-nil, codes, pos, negsuc, PlainShow, FlightGives, outcome, FlightOptions, flight_exchange, course_of, fault_of, flight_of, room_in, fault_frame, fault_in}
use Rattle.choreo_show.specs.declared.parts.Act.TheVariants as act
use Rattle.choreo_show.specs.declared.parts.Point.{Point}
use Rattle.choreo_show.specs.Plain as plain
use Rattle.choreo_show.specs.declared.show.ActLine.TheVariants as on
unfoldable use Rattle.figure_expand.specs.Expanded.{expanded}
unfoldable use Rattle.figure_expand.specs.Written.{end_of}
unfoldable use Rattle.flight_model.specs.Rooms.{room_of}
unfoldable use Rattle.traj_codec.specs.Joined.{joined_from}
use Rattle.flight_steps.specs.declared.faults.FlightFault.TheVariants as fault
use Rattle.flight_steps.specs.declared.faults.Seam.TheVariants as seam
use Rattle.flight_steps.specs.declared.faults.Way.TheVariants as way
use Rattle.flight_link.specs.Frames.{IsEvent}
unfoldable use Rattle.flight_link.specs.Sends.{ended, sent_over}

-- so near to the pads
abbrev within : ℕ → FlightOptions
within near = record { near = near; at_place = 80; silence = 1000; floor = pos 0; descent = 4000; then_land = true; depth = 6 }

-- a place on x and z, in metres
abbrev place : ℕ → ℕ → Point
place x z = record { x = pos (x * 1000000); y = pos 0; z = pos (z * 1000000); yaw = pos 0 }

-- a millimetre below the floor
abbrev under : ℕ → Point
under x = record { x = pos (x * 1000000); y = pos 0; z = negsuc 999; yaw = pos 0 }

abbrev moves : List ℕ → List Point → plain.Body
moves name [] = plain.Done
moves name (p ∷ ps) = plain.Cue 4 2000 (on.One 5 (record { items = name }) (act.Move p) ∷ []) (moves name ps)

-- a show of one drone that moves from place to place
abbrev alone : List ℕ → Point → List Point → PlainShow
alone name from ps = record {
  settings = record { memory_id = 2; offset = 0; trajectory_id = 0; r = 120; h = 300; stray = 100; late = 0 };
  drones = record { line = 3; name = record { items = name }; at = from } ∷ [];
  formations = [];
  figures = [];
  body = moves name ps;
}

-- the same drones in an ellipsoid of these half axes
abbrev sized : ℕ → ℕ → PlainShow → PlainShow
sized r h s = record s { settings = record { memory_id = 2; offset = 0; trajectory_id = 0; r = r; h = h; stray = 100; late = 0 } }

-- up a metre; a metre along x, and back; and down
abbrev up : PlainShow
up = alone (codes "a") (place 0 0) (place 0 1 ∷ [])

abbrev there_and_back : List ℕ → PlainShow
there_and_back name = alone name (place 0 1) (place 1 1 ∷ place 0 1 ∷ [])

abbrev down : PlainShow
down = alone (codes "a") (place 0 1) (place 0 0 ∷ [])

record FaultRows : Type 0 where
  none : fault_of (within 100) up (there_and_back (codes "a")) down ≡ None
  other : fault_of (within 100) up (there_and_back (codes "b")) down ≡ Some (fault.OtherDrone way.Up 0)
  apart : fault_of (within 100) up up down ≡ Some (fault.Gap seam.UpToShow 0)
  below : fault_of (within 100) up (there_and_back (codes "a")) up ≡ Some (fault.Gap seam.ShowToDown 0)
  slanted : fault_of (within 100) (alone (codes "a") (place 0 0) (place 1 0 ∷ place 0 1 ∷ [])) (there_and_back (codes "a")) down ≡ Some (fault.Slanted way.Up 0)
  -- other half axes are no fault where all three have them; those of a way that aren't the show's are one
  all_smaller : fault_of (within 100) (sized 60 90 up) (sized 60 90 (there_and_back (codes "a"))) (sized 60 90 down) ≡ None
  smaller_up : fault_of (within 100) (sized 60 300 up) (there_and_back (codes "a")) down ≡ Some (fault.OtherEllipsoid way.Up)
  higher_up : fault_of (within 100) (sized 120 301 up) (there_and_back (codes "a")) (sized 60 300 down) ≡ Some (fault.OtherEllipsoid way.Up)
  smaller_down : fault_of (within 100) up (there_and_back (codes "a")) (sized 119 300 down) ≡ Some (fault.OtherEllipsoid way.Down)
  turned_show : fault_of (within 100) up (sized 300 120 (there_and_back (codes "a"))) down ≡ Some (fault.OtherEllipsoid way.Up)
  -- at first up and not down, at last down and not up
  rises_first : fault_of (within 100) (alone (codes "a") (place 0 0) (place 0 2 ∷ place 0 1 ∷ [])) (there_and_back (codes "a")) (alone (codes "a") (place 0 1) (place 0 2 ∷ place 0 0 ∷ [])) ≡ None
  falls_first : fault_of (within 100) (alone (codes "a") (place 0 0) (under 0 ∷ place 0 1 ∷ [])) (there_and_back (codes "a")) down ≡ Some (fault.Slanted way.Up 0)
  rises_last : fault_of (within 100) up (there_and_back (codes "a")) (alone (codes "a") (place 0 1) (under 0 ∷ place 0 0 ∷ [])) ≡ Some (fault.Slanted way.Down 0)
  narrow : fault_of (within 101) up (there_and_back (codes "a")) down ≡ Some (fault.Narrow 101 100)
  -- without any frame: the end frame of 8 after three shows that are a flight; after others the cause, and the end frame
  -- of 19
  ended_early : (flight_exchange (within 100) up (there_and_back (codes "a")) down).gives [] (outcome 8 (0x45 ∷ 8 ∷ []))
  no_flight : (flight_exchange (within 100) up up down).gives [] (outcome 19 (5 ∷ 1 ∷ 0 ∷ 0 ∷ 0 ∷ 0 ∷ 0x45 ∷ 19 ∷ []))

-- the frames of causes, with numbers of one byte and of two
record FrameRows : Type 0 where
  other : fault_frame (fault.OtherDrone way.Down 3) ≡ 5 ∷ 0 ∷ 1 ∷ 3 ∷ 0 ∷ 0 ∷ []
  gap : fault_frame (fault.Gap seam.DownToUp 31) ≡ 5 ∷ 1 ∷ 2 ∷ 31 ∷ 0 ∷ 0 ∷ []
  restless : fault_frame (fault.Restless way.Down 2 999) ≡ 5 ∷ 2 ∷ 1 ∷ 2 ∷ 231 ∷ 3 ∷ []
  still : fault_frame (fault.Still way.Up 7) ≡ 5 ∷ 3 ∷ 0 ∷ 7 ∷ 0 ∷ 0 ∷ []
  slanted : fault_frame (fault.Slanted way.Down 0) ≡ 5 ∷ 4 ∷ 1 ∷ 0 ∷ 0 ∷ 0 ∷ []
  narrow : fault_frame (fault.Narrow 101 100) ≡ 5 ∷ 5 ∷ 0 ∷ 0 ∷ 0 ∷ 0 ∷ []
  ellipsoid : fault_frame (fault.OtherEllipsoid way.Down) ≡ 5 ∷ 6 ∷ 1 ∷ 0 ∷ 0 ∷ 0 ∷ []
  read : fault_in 101 100 (5 ∷ 2 ∷ 1 ∷ 2 ∷ 231 ∷ 3 ∷ []) ≡ fault.Restless way.Down 2 999
  read_narrow : fault_in 101 100 (5 ∷ 5 ∷ 0 ∷ 0 ∷ 0 ∷ 0 ∷ []) ≡ fault.Narrow 101 100
  read_ellipsoid : fault_in 101 100 (5 ∷ 6 ∷ 1 ∷ 0 ∷ 0 ∷ 0 ∷ []) ≡ fault.OtherEllipsoid way.Down

frame_rows : FrameRows
frame_rows = record { other = refl; gap = refl; restless = refl; still = refl; slanted = refl; narrow = refl; ellipsoid = refl; read = refl; read_narrow = refl; read_ellipsoid = refl }

-- a show that allows its drones to be so late
abbrev late_by : ℕ → PlainShow → PlainShow
late_by ms s = record s { settings = record (s.settings) { late = ms } }

-- on a way a drone may be as late as its text says, and as an order
record LateRows : Type 0 where
  none : (course_of (late_by 0 up)).late ≡ 300
  less : (course_of (late_by 299 up)).late ≡ 300
  more : (course_of (late_by 301 down)).late ≡ 301

late_rows : LateRows
late_rows = record { none = refl; less = refl; more = refl }

-- a show that allows its drones to stray so far
abbrev strayed : ℕ → PlainShow → PlainShow
strayed mm s = record s { settings = record (s.settings) { stray = mm } }

abbrev aside : PlainShow
aside = there_and_back (codes "a")

-- the room of a metre up, a metre along x and back, and down, and how far outside of it the texts allow drones to be
record RoomRows : Type 0 where
  around : room_in up aside down ≡ record { x = record { low = pos 0; high = pos 1000 }; y = record { low = pos 0; high = pos 0 }; z = record { low = pos 0; high = pos 1000 }; margin = 300 }
  by_up : (room_in (strayed 101 up) aside down).margin ≡ 301
  by_show : (room_in up (strayed 101 aside) down).margin ≡ 301
  by_down : (room_in up aside (strayed 101 down)).margin ≡ 301
  least : (room_in (strayed 0 up) (strayed 0 aside) (strayed 0 down)).margin ≡ 200

room_rows : RoomRows
unfolding room_of joined_from expanded end_of
room_rows = record { around = refl; by_up = refl; by_show = refl; by_down = refl; least = refl }

early : FlightGives (flight_of (within 100) up (there_and_back (codes "a")) down) [] 8 (0x45 ∷ 8 ∷ [])
unfolding ended sent_over expanded end_of
early = record {
  items = [];
  rest = [];
  takes = record { cut = refl; each = All-nil (IsEvent 1); few = omega arith; going = λ n under. absurd (omega (arith, under)) };
  ends = refl;
  sends = refl;
}

rows : FaultRows
unfolding expanded end_of
rows = record { none = refl; other = refl; apart = refl; below = refl; slanted = refl; all_smaller = refl; smaller_up = refl; higher_up = refl; smaller_down = refl; turned_show = refl; rises_first = refl; falls_first = refl; rises_last = refl; narrow = refl; ended_early = early; no_flight = refl }
