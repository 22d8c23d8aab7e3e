-- What the flight director says in a small flight, and where it comes to: two drones, one leg up, a show of one cue,
-- one leg down.
use Rattle.std.specs.Prelude.{◌≡◌, ◌∷◌, ◌++◌, [], List, Bool, true, false, None, Some, ℕ, ℤ, pos, negsuc}
use Rattle.flight_model.specs.declared.events.Order.{Order}
use Rattle.flight_model.specs.declared.events.Event.{Event}
use Rattle.flight_model.specs.declared.events.Event.TheVariants.{Clock, Seen, Answered, Said}
use Rattle.flight_model.specs.declared.events.Fault.{Fault}
use Rattle.flight_model.specs.declared.events.Frame.{Frame}
use Rattle.flight_model.specs.declared.events.Frame.TheVariants.{To, ToAll, Noted, Over}
use Rattle.flight_model.specs.Samples.{is_fit}
use Rattle.definition_tests.specs.FlightRejected.{at_origin, standing}
use Rattle.flight_model.specs.Directors.{start, sent, after, State}
use Rattle.flight_model.specs.declared.states.Track.{Track}
use Rattle.flight_model.specs.declared.states.Phase.TheVariants.{Steps, Landing, Off}
use Rattle.flight_model.specs.Law.{ordered}
use Rattle.flight_model.specs.Example.{sample, flight}
use Rattle.definition_tests.specs.FlightExample.{both, half, go, lift_off, show, way_down}
use Rattle.flight_model.specs.declared.events.Order.TheVariants as order
use Rattle.flight_model.specs.declared.events.Signal.TheVariants as signal
use Rattle.flight_model.specs.declared.events.Fault.TheVariants as fault

abbrev pub second : ℤ → Bool → Bool → List Event
second z armed down = both (pos 0) z armed down ++ half z armed down ++ half z armed down

abbrev pub ready : List Event
ready = lift_off ++ (Clock 2000 ∷ second (pos 1000) true false)

abbrev pub seen_at : ℤ → ℤ → Track
seen_at x z = record { seen = Some (sample x (pos 0) z true false); off = None; unsure = None; outside = false }

unfoldable pub fits : ℤ → ℤ → ℤ → Bool
fits x y z = is_fit 500 at_origin (Some (standing x y z))

-- both hover at their first places, and have done so for a second
abbrev pub at_ready : State
at_ready = record {
  phase = Steps;
  next = 3;
  waited = 3000;
  steady = 1000;
  stood = 0;
  showing = false;
  kept = true;
  wanted = false;
  tracks = seen_at (pos 0) (pos 1000) ∷ seen_at (pos 2000) (pos 1000) ∷ [];
  answered = false ∷ false ∷ [];
}

-- the show is over, with both at its last places
abbrev pub at_last : State
at_last = record at_ready { next = 4; waited = 1000; steady = 0; showing = true }

unfoldable pub says_all : Bool → State → List Event → List Frame
says_all flies_on s events = sent (flight flies_on) s events

unfoldable pub comes_to : State → List Event → State
comes_to s events = after (flight true) s events

unfoldable pub begun : State
begun = start (flight true)

unfoldable pub plan : ℕ → List Order
plan d = ordered d (flight true).steps

-- both are told to rise, and are armed on their pads
abbrev pub climbing : State
climbing = record at_ready {
  waited = 0;
  steady = 0;
  tracks = seen_at (pos 0) (pos 0) ∷ seen_at (pos 2000) (pos 0) ∷ [];
}

-- the first one is 200 mm higher than its pad
abbrev pub leaping : List Event
leaping = Seen 0 (sample (pos 0) (pos 0) (pos 200) true false) ∷ []

-- the second one leaves its place
abbrev pub drifting : List Event
drifting = Seen 0 (sample (pos 0) (pos 0) (pos 1000) true false)
    ∷ Seen 1 (sample (pos 2101) (pos 0) (pos 1000) true false) ∷ []

-- off, and at its place
abbrev pub off_at : ℤ → Track
off_at x = record (seen_at x (pos 1000)) { off = Some 200; unsure = Some 7 }

-- a landing, with both in the air
abbrev pub at_landing : State
at_landing = record at_last { phase = Landing; waited = 0; showing = false }

-- a drone on the floor, z mm high
abbrev pub on_floor : ℕ → ℤ → Bool → Bool → Event
on_floor d z down flying = Seen d (record (sample (pos 0) (pos 0) z true down) { flying = flying })

-- both stand there, and say that they fly
abbrev pub turning : List Event
turning = on_floor 0 (pos 0) true true ∷ on_floor 1 (pos 0) true true ∷ []

-- the first drone is heard there
abbrev pub at_place : ℤ → ℤ → ℤ → List Event
at_place x y z = Seen 0 (sample x y z true false) ∷ []

-- a drone hovers, and isn't sure where
abbrev pub doubts : List Event
doubts = Seen 0 (record (sample (pos 0) (pos 0) (pos 1000) true false) { sure = false }) ∷ []

abbrev pub note : ℕ → Fault → Frame
note d fault = Noted (record { drone = d; fault = fault })

abbrev pub all_land : List Frame
all_land = To 0 (order.Land (pos 0) 4000) ∷ To 1 (order.Land (pos 0) 4000) ∷ []

pub record SaidRows : Type 0 where
  -- the orders to a drone
  pub planned : plan 1 ≡
      order.Group ∷ order.Arm ∷ order.Rise (pos 1000) 2000 ∷ order.Start ∷ order.Land (pos 0) 2500 ∷ order.Disarm ∷ []
  -- in the group at once; nothing more before go; arm at go; rise once both are armed
  pub rises : says_all true begun lift_off ≡
      To 0 order.Group ∷ To 1 order.Group ∷ To 0 order.Arm ∷ To 1 order.Arm ∷ To 0 (order.Rise (pos 1000) 2000)
      ∷ To 1 (order.Rise (pos 1000) 2000) ∷ []
  pub readies : comes_to begun ready ≡ at_ready
  -- the show, at the operator's go
  pub starts : says_all true at_ready (go ++ show) ≡ ToAll order.Start ∷ []
  pub shows : comes_to at_ready (go ++ show) ≡ at_last
  -- down, off, and the end
  pub downs : says_all true at_last way_down ≡
      To 0 (order.Land (pos 0) 2500) ∷ To 1 (order.Land (pos 0) 2500) ∷ ToAll order.Disarm ∷ Over true true ∷ []
  -- the operator's land in the middle, and stop after it
  pub lands : says_all true at_last (Said signal.Land ∷ Said signal.Go ∷ Said signal.Stop ∷ Said signal.Land ∷ []) ≡
      all_land ++ ToAll order.Halt ∷ []
  -- disarmed once both are down, on the floor or a pad, and don't say that they fly
  pub high : says_all true at_landing (both (pos 0) (pos 121) true true) ≡ []
  pub low : says_all true at_landing (both (pos 0) (pos 120) true true) ≡ ToAll order.Disarm ∷ []
  pub one_high : says_all true at_landing (on_floor 0 (pos 0) true false ∷ on_floor 1 (pos 121) true false ∷ []) ≡ []
  -- or five seconds later, whatever they say
  pub turns : says_all true at_landing (turning ++ Clock 400 ∷ turning) ≡ []
  pub turned : says_all true (record (comes_to at_landing turning) { stood = 4500 }) (Clock 500 ∷ []) ≡
      ToAll order.Disarm ∷ []
  pub turned_early : says_all true (record (comes_to at_landing turning) { stood = 4500 }) (Clock 499 ∷ turning) ≡ []
  -- too early
  pub early : says_all true (record at_ready { steady = 999 }) go ≡ []
  -- a drone that is silent is noted, and the show goes on; it isn't kept
  pub silent : says_all true at_ready (go ++ Clock 400 ∷ Seen 0 (sample (pos 0) (pos 216) (pos 1000) true false)
      ∷ Clock 200 ∷ Clock 100 ∷ []) ≡
      ToAll order.Start ∷ note 1 fault.Silent ∷ []
  pub unkept : (comes_to at_ready (go ++ Clock 600 ∷ [])).kept ≡ false
  pub leapt : (comes_to at_ready (go ++ Clock 5000 ∷ [])).kept ≡ false
  -- one astray: all land after 300 ms of it, where the show doesn't fly on
  pub astray : says_all false at_ready (go ++ Clock 100 ∷ both (pos 150) (pos 1000) true false ++ Clock 299
      ∷ both (pos 150) (pos 1000) true false ++ Clock 1 ∷ both (pos 150) (pos 1000) true false) ≡
      ToAll order.Start ∷ note 0 fault.Astray ∷ all_land
  -- one that rises faster than it is told to: the same on the way up, whatever the show does, after 300 ms and not less
  pub leaps : says_all true climbing (Clock 20 ∷ leaping ++ Clock 299 ∷ leaping ++ Clock 1 ∷ leaping) ≡
      note 0 fault.Astray ∷ all_land
  pub leaps_on : says_all true climbing (Clock 20 ∷ leaping ++ Clock 299 ∷ leaping) ≡ []
  -- from a step on it is counted anew
  pub renews : (comes_to (record at_ready { tracks = off_at (pos 0) ∷ off_at (pos 2000) ∷ [] }) go).tracks ≡
      seen_at (pos 0) (pos 1000) ∷ seen_at (pos 2000) (pos 1000) ∷ []
  -- one that leaves while the operator is asked for the start
  pub drifts : says_all true at_ready (drifting ++ Clock 300 ∷ drifting) ≡ note 1 fault.Astray ∷ all_land
  -- one that isn't sure of where it is: the same
  pub unsure : says_all false at_ready (go ++ doubts ++ Clock 299 ∷ doubts ++ Clock 1 ∷ doubts) ≡
      ToAll order.Start ∷ note 0 fault.Unsure ∷ all_land
  pub unsure_waiting : says_all true at_ready (doubts ++ go ++ Clock 300 ∷ doubts) ≡ note 0 fault.Unsure ∷ all_land
  pub unsure_on : says_all true at_ready (go ++ doubts ++ Clock 300 ∷ doubts) ≡
      ToAll order.Start ∷ note 0 fault.Unsure ∷ []
  pub unsure_unkept : (comes_to at_ready (go ++ doubts)).kept ≡ false
  -- one that is heard in the room, and one that is heard a millimetre outside: all land at once
  pub in_room : says_all true climbing (Clock 20 ∷ at_place (pos 2300) (negsuc 299) (pos 1300)) ≡ []
  pub past_right : says_all true climbing (Clock 20 ∷ at_place (pos 2301) (pos 0) (pos 0)) ≡
      note 0 fault.Outside ∷ all_land
  pub past_near : says_all true climbing (Clock 20 ∷ at_place (pos 0) (negsuc 300) (pos 0)) ≡
      note 0 fault.Outside ∷ all_land
  pub past_top : says_all true climbing (Clock 20 ∷ at_place (pos 0) (pos 0) (pos 1301)) ≡
      note 0 fault.Outside ∷ all_land
  -- while the operator is asked for the start, and in a show that doesn't fly on
  pub past_waiting : says_all true at_ready (at_place (pos 0) (pos 601) (pos 1000)) ≡ note 0 fault.Outside ∷ all_land
  pub past_showing : says_all false at_ready (go ++ at_place (negsuc 300) (pos 0) (pos 1000)) ≡
      ToAll order.Start ∷ note 0 fault.Outside ∷ all_land
  -- in one that flies on and in a landing it is told each time that it leaves the room
  pub past_flying : says_all true at_ready (go ++ at_place (pos 2301) (pos 0) (pos 1000)
      ++ at_place (pos 2301) (pos 0) (pos 1000) ++ at_place (pos 2300) (pos 0) (pos 1000)
      ++ at_place (pos 2301) (pos 0) (pos 1000)) ≡
      ToAll order.Start ∷ note 0 fault.Outside ∷ note 0 fault.Outside ∷ []
  pub past_landing : says_all true at_landing (at_place (pos 2301) (pos 0) (pos 500)
      ++ at_place (pos 2302) (pos 0) (pos 500)) ≡ note 0 fault.Outside ∷ []
  -- nobody was told to rise yet, and motors are off
  pub past_armed : says_all true (record climbing { next = 2 }) (at_place (pos 2301) (pos 0) (pos 0)) ≡ []
  pub past_off : says_all true (record at_landing { phase = Off }) (at_place (pos 2301) (pos 0) (pos 0)) ≡ []
  -- one that refuses an order: all land
  pub refuses : says_all true at_ready (Answered 1 5 ∷ []) ≡ note 1 fault.Refused ∷ all_land
  -- one that doesn't come to its place
  pub lates : says_all true (record at_last { showing = false; next = 4 }) (both (pos 51) (pos 1000) true false
      ++ Clock 8999 ∷ Clock 1 ∷ []) ≡
      note 0 fault.Silent ∷ note 1 fault.Silent ∷ note 0 fault.Late ∷ all_land
  -- near a position is a distance, not one by axis
  pub near : fits (pos 48) (pos 64) (pos 0) ≡ true
  pub past : fits (pos 80) (pos 1) (pos 0) ≡ false
  pub corner : fits (pos 60) (negsuc 59) (pos 0) ≡ false
