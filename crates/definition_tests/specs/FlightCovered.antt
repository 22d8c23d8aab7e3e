-- When a landing is covered, and what is said while it is waited for, in a small flight by hand: each value beside one
-- that differs.
use Rattle.std.specs.Prelude.{◌≡◌, ℕ, Bool, true, false, List, [], ◌∷◌, ◌++◌, pos, Option, Some, None}
use Rattle.flight_model.specs.declared.events.Order.TheVariants as order
use Rattle.flight_model.specs.declared.events.Signal.TheVariants as signal
use Rattle.flight_model.specs.declared.events.Event.{Event}
use Rattle.flight_model.specs.declared.events.Event.TheVariants.{Clock, Said}
use Rattle.flight_model.specs.declared.events.Fault.TheVariants.{Uncovered}
use Rattle.flight_model.specs.declared.events.Frame.{Frame}
use Rattle.flight_model.specs.declared.events.Frame.TheVariants.{To, ToAll, Noted}
use Rattle.flight_model.specs.declared.flights.Window.{Window}
use Rattle.flight_model.specs.declared.flights.Flight.{Flight}
use Rattle.flight_model.specs.declared.states.Track.{Track}
use Rattle.flight_model.specs.Directors.{State, may_land, sent}
use Rattle.flight_model.specs.Example.{flight, sample}
use Rattle.definition_tests.specs.FlightExample.{half}
use Rattle.flight_model.specs.Rows.{since}

-- the small flight, in which all may land in these windows alone
abbrev pub only_in : List Window → Flight
only_in windows = record (flight true) { windows = Some windows }

-- its drones are on their way up, which lasts two seconds, and were heard so long ago
abbrev pub heard_ago : ℕ → Track
heard_ago age = record {
  seen = Some (record (sample (pos 0) (pos 0) (pos 500) true false) { age = age });
  off = None;
  unsure = None;
  outside = false;
}

abbrev pub rising_for : ℕ → List Track → State
rising_for waited tracks = record (since 3 waited) { tracks = tracks }

abbrev pub ago : ℕ → ℕ → List Track
ago first second = heard_ago first ∷ heard_ago second ∷ []

-- the windows from 1,000 to 2,000 ms after that step
abbrev pub window : Option ℕ → Window
window deaf = record { step = 3; from = 1000; to = 2000; deaf = deaf }

abbrev pub with_one : List Window
with_one = window None ∷ window (Some 1) ∷ []

abbrev pub with_two : List Window
with_two = window (Some 0) ∷ with_one

unfoldable pub may : List Window → State → Bool
may windows s = may_land (only_in windows) s

-- what is said to these events, a millisecond before the windows
unfoldable pub said_before : List Event → List Frame
said_before events = sent (only_in (window None ∷ [])) (rising_for 999 (ago 0 0)) events

-- people are told that a landing is waited for
abbrev pub awaits : Frame
awaits = Noted (record { drone = 2; fault = Uncovered })

-- both drones land
abbrev pub both_land : List Frame
both_land = To 0 (order.Land (pos 0) 4000) ∷ To 1 (order.Land (pos 0) 4000) ∷ []

-- for a second and a half both are heard where their way up ends
abbrev pub waiting : List Event
waiting = half (pos 1000) true false ++ half (pos 1000) true false ++ half (pos 1000) true false

-- what is said to these events, at the end of their way up, with no window
unfoldable pub said_late : List Event → List Frame
said_late events = sent (only_in []) (rising_for 2000 (ago 0 0)) events

pub record CoveredRows : Type 0 where
  -- no windows are listed, and a list of none
  pub unlisted : may_land (flight true) (rising_for 1500 (ago 0 0)) ≡ true
  pub no_window : may [] (rising_for 1500 (ago 0 0)) ≡ false
  -- nobody was told to rise yet
  pub on_pads : may [] (record (rising_for 1500 (ago 0 0)) { next = 2 }) ≡ true
  -- each end of a window, and a millisecond beside it
  pub from : may (window None ∷ []) (rising_for 1000 (ago 0 0)) ≡ true
  pub sooner : may (window None ∷ []) (rising_for 999 (ago 0 0)) ≡ false
  pub to : may (window None ∷ []) (rising_for 2000 (ago 0 0)) ≡ true
  pub later : may (window None ∷ []) (rising_for 2001 (ago 0 0)) ≡ false
  -- a window of the step before, and of the one after
  pub step_before : may (record (window None) { step = 2 } ∷ []) (rising_for 1500 (ago 0 0)) ≡ false
  pub step_after : may (record (window None) { step = 4 } ∷ []) (rising_for 1500 (ago 0 0)) ≡ false
  -- the second of two windows
  pub second : may (record (window None) { step = 2 } ∷ window None ∷ []) (rising_for 1500 (ago 0 0)) ≡ true
  -- a drone that was heard 300 ms ago hears; a millisecond later it may be deaf
  pub hears : may (window None ∷ []) (rising_for 1500 (ago 300 300)) ≡ true
  pub deaf : may (window None ∷ []) (rising_for 1500 (ago 300 301)) ≡ false
  -- it lands or flies on: a window for each, and for this drone
  pub either : may with_one (rising_for 1500 (ago 300 301)) ≡ true
  pub only_deaf : may (window (Some 1) ∷ []) (rising_for 1500 (ago 300 301)) ≡ false
  pub other_deaf : may with_one (rising_for 1500 (ago 301 300)) ≡ false
  -- that window covers nothing where all hear
  pub nobody_deaf : may (window (Some 1) ∷ []) (rising_for 1500 (ago 0 0)) ≡ false
  -- two may be deaf: each has a window, at this instant, and so has the landing of both
  pub two_deaf : may with_two (rising_for 1500 (ago 301 301)) ≡ true
  pub first_lacks : may with_one (rising_for 1500 (ago 301 301)) ≡ false
  pub second_lacks : may (window None ∷ window (Some 0) ∷ []) (rising_for 1500 (ago 301 301)) ≡ false
  pub both_lack : may (window None ∷ []) (rising_for 1500 (ago 301 301)) ≡ false
  pub none_hears : may (window (Some 0) ∷ window (Some 1) ∷ []) (rising_for 1500 (ago 301 301)) ≡ false
  pub second_over : may (record (window (Some 1)) { to = 1499 } ∷ window (Some 0) ∷ window None ∷ [])
      (rising_for 1500 (ago 301 301)) ≡ false
  -- one of the two may be
  pub one_of_two : may with_two (rising_for 1500 (ago 301 300)) ≡ true
  -- one that was never heard may be deaf; one that wasn't told to rise is told nothing
  pub unheard : may (window None ∷ [])
      (rising_for 1500 (heard_ago 0 ∷ record (heard_ago 0) { seen = None } ∷ [])) ≡ false
  pub unrisen : may (window None ∷ []) (rising_for 1500 (ago 0 0 ++ heard_ago 301 ∷ [])) ≡ true
  -- the operator's land waits for the window, and goes out with it
  pub waits : said_before (Said signal.Land ∷ []) ≡ awaits ∷ []
  pub lands : said_before (Said signal.Land ∷ Clock 1 ∷ []) ≡ awaits ∷ both_land
  pub at_once : said_before (Clock 1 ∷ Said signal.Land ∷ []) ≡ both_land
  -- it is wanted still where it is said again, and where the operator says go
  pub said_twice : said_before (Said signal.Land ∷ Said signal.Land ∷ Said signal.Go ∷ Clock 1 ∷ []) ≡
      awaits ∷ both_land
  -- stop waits for nothing
  pub stops : said_before (Said signal.Land ∷ Said signal.Stop ∷ []) ≡ awaits ∷ ToAll order.Halt ∷ []
  -- while it is wanted no step begins: a go is heard in vain
  pub no_start : said_late (Said signal.Land ∷ waiting ++ Said signal.Go ∷ []) ≡ awaits ∷ []
  pub starts : said_late (waiting ++ Said signal.Go ∷ []) ≡ ToAll order.Start ∷ []
