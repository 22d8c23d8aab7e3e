-- The legs and the end of a flight, at the value beside which a weaker definition answers otherwise.
use Rattle.std.specs.Prelude.{◌≡◌, ℕ, List, [], ◌∷◌, Option, Some, None, pos, true, false, map}
use Rattle.choreo_show.specs.Plain.{PlainShow}
use Rattle.link_dialogue.specs.Dialogues.{BeginsNone, EndsGoing}
use Rattle.flight_model.specs.declared.flights.Leg.{Leg}
use Rattle.flight_model.specs.Legs.{Routes, leg, leg_count, leg_ms, up_condition, up_step}
use Rattle.flight_model.specs.declared.events.Frame.TheVariants.{Over}
use Rattle.flight_link.specs.Sends.{end_of}
use Rattle.show_direct.specs.Flights.{AreFlight, flight_of}
use Rattle.command_words.specs.declared.flight.FlightOptions.{FlightOptions}
use Rattle.definition_tests.specs.Headlines.{stay}
use Rattle.definition_tests.specs.Small.{over}

-- options with this silence
abbrev pub after_silence : ℕ → FlightOptions
after_silence ms = record {
  near = 100;
  at_place = 80;
  silence = ms;
  floor = pos 0;
  descent = 4000;
  then_land = true;
  depth = 6;
}

-- no drone's routes
abbrev pub no_routes : Routes
no_routes = record { up = []; show = []; down = []; stray = 0; near = 0; at_place = 0 }

-- up a metre in two seconds
abbrev pub rising : Leg
rising = record {
  from = pos 0 ∷ pos 0 ∷ pos 0 ∷ pos 0 ∷ [];
  to = pos 0 ∷ pos 0 ∷ pos 1000 ∷ pos 0 ∷ [];
  ms = 2000;
}

-- the same show with half axes of 2,000 mm
abbrev pub wide : PlainShow
wide = record stay { settings = record (stay.settings) { r = 2000; h = 2000 } }

pub record LegRows : Type 0 where
  -- no drone has no leg, and none that lasts; past its last leg nothing lasts
  pub no_drone : leg_count [] ≡ 0
  pub none_lasts : leg_ms [] 0 ≡ 0
  pub past_the_last : (leg (rising ∷ []) 1).ms ≡ 0
  -- who is to rise in the first leg has to be armed for it, and rises as soon as that is so
  pub armed : (up_condition no_routes 0 (rising ∷ [])).armed ≡ true
  pub at_once : (up_step no_routes [] 0).after ≡ 0
  -- a silence counts as long as it is, up to 999,999,999 ms
  pub silence : (up show down : PlainShow) → (flight_of (after_silence 1000) up show down).silence ≡ 1000
  pub most_silence : (up show down : PlainShow) →
      (flight_of (after_silence 1000000000) up show down).silence ≡ 999999999
  -- flown to the last step and kept is 0, and no less than that
  pub flown : map end_of (Over true true ∷ Over true false ∷ Over false true ∷ [])
      ≡ Some 0 ∷ Some 20 ∷ Some 20 ∷ []
  -- a way of other half axes than the show's is no flight with it
  pub other_up : (o : FlightOptions) → AreFlight o wide stay stay → ⊥
  pub other_down : (o : FlightOptions) → AreFlight o stay stay wide → ⊥
  -- no byte begins with an item, and two bytes do
  pub none_begun : BeginsNone over []
  pub begun : BeginsNone over (1 ∷ 2 ∷ []) → ⊥
  -- as many items as are taken end with 13
  pub full : EndsGoing over true [] 13
