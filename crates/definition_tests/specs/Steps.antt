-- What the definitions of a flight's steps, of the bytes of its events and of its end say of small ones.
use Rattle.std.specs.Prelude.{◌≡◌, ℕ, ℤ, ◌∷◌, ◌++◌, [], List, Bool, false, true, map, pos, negsuc, Some, None}
use Rattle.traj_codec.specs.declared.traj.Traj.{Traj}
use Rattle.flight_model.specs.declared.events.Event.{Event}
use Rattle.flight_model.specs.declared.events.Event.TheVariants.{Clock, Seen, Answered, Said}
use Rattle.flight_model.specs.declared.events.Order.TheVariants as order
use Rattle.flight_model.specs.declared.events.Sample.{Sample}
use Rattle.flight_model.specs.declared.events.Signal.TheVariants as signal
use Rattle.flight_model.specs.declared.flights.Condition.{Condition}
use Rattle.flight_model.specs.declared.flights.Leg.{Leg}
use Rattle.flight_model.specs.declared.flights.Orders.TheVariants.{Each, All as ToEach}
use Rattle.flight_model.specs.declared.flights.Position.{Position}
use Rattle.flight_model.specs.declared.flights.Stretch.TheVariants as stretch
use Rattle.flight_model.specs.declared.events.Frame.TheVariants.{To}
use Rattle.flight_model.specs.declared.flights.Flight.{Flight}
use Rattle.flight_model.specs.declared.states.Track.{Track}
use Rattle.flight_model.specs.Directors.{State, all_seen, end_step, falls_silent, frames_from, in_show, is_disarmed}
use Rattle.flight_model.specs.Legs.{Routes, arm_condition, arm_order, arm_step, down_bound, down_condition, down_order}
use Rattle.flight_model.specs.Legs.{down_step, group_step, has_moved, hold_in, last_condition, last_step, lasts}
use Rattle.flight_model.specs.Legs.{ms_before, ms_until, position_of, start_condition, start_step, steps_between}
use Rattle.flight_model.specs.Legs.{up_bound, up_condition, up_order, up_step, will_move}
use Rattle.flight_link.specs.Sends.{events_bytes, first_of_two}
use Rattle.definition_tests.specs.Flights.{flight}
use Rattle.definition_tests.specs.Legs.{no_routes, rising}

-- a place on x, y and z, and a yaw
abbrev pub at_rest : ℕ → ℕ → ℕ → ℕ → List ℤ
at_rest x y z yaw = pos x ∷ pos y ∷ pos z ∷ pos yaw ∷ []

-- a second on the pad, then up a metre in two; then aside, and turned by 3 degrees, in one and a half
abbrev pub waits : Leg
waits = record { from = at_rest 0 0 0 0; to = at_rest 0 0 0 0; ms = 1000 }

abbrev pub aside : Leg
aside = record { from = at_rest 0 0 1000 0; to = at_rest 100 200 1000 30; ms = 1500 }

-- back in half a second, and down in three
abbrev pub returns : Leg
returns = record { from = at_rest 100 200 1000 30; to = at_rest 0 0 1000 0; ms = 500 }

abbrev pub falls : Leg
falls = record { from = at_rest 0 0 1000 0; to = at_rest 0 0 0 0; ms = 3000 }

abbrev pub ups : List Leg
ups = rising ∷ aside ∷ []

abbrev pub downs : List Leg
downs = returns ∷ falls ∷ []

-- a drone that is to be within 50 mm of its pad, and within 80 of a place in the air; its show is ten milliseconds from
-- 100 to 110 mm, and so is its way down
abbrev pub routes : Routes
routes = record no_routes {
  show = flight (pos 100) (pos 110) ∷ [];
  down = flight (pos 100) (pos 110) ∷ [];
  near = 50;
  at_place = 80;
}

-- a condition on x, with this bound, without more
abbrev pub is_at : ℕ → ℕ → ℕ → ℕ → Condition
is_at x y z bound = record {
  position = record { x = pos x; y = pos y; z = pos z };
  bound = bound;
  ready = false;
  armed = false;
  down = false;
}

pub record StepRows : Type 0 where
  pub moved : map (has_moved (waits ∷ ups)) (0 ∷ 1 ∷ 2 ∷ []) ≡ false ∷ false ∷ true ∷ []
  pub moving : map (will_move (falls ∷ waits ∷ [])) (0 ∷ 1 ∷ []) ≡ true ∷ false ∷ []
  -- it is armed for its first move, rises by that, and is told each leg's end from then on
  pub arms : map (arm_order (waits ∷ ups)) (0 ∷ 1 ∷ 2 ∷ []) ≡ None ∷ Some order.Arm ∷ None ∷ []
  pub up : map (up_order (waits ∷ ups)) (0 ∷ 1 ∷ 2 ∷ [])
      ≡ None ∷ Some (order.Rise (pos 1000) 2000) ∷ Some (order.Go (pos 100) (pos 200) (pos 1000) (pos 30) 1500) ∷ []
  -- its last move is a landing, and nothing comes after it
  pub down : map (down_order (downs ++ waits ∷ [])) (0 ∷ 1 ∷ 2 ∷ [])
      ≡ Some (order.Go (pos 0) (pos 0) (pos 1000) (pos 0) 500) ∷ Some (order.Land (pos 0) 3000) ∷ None ∷ []
  pub axes : position_of (at_rest 1 2 3 4) ≡ record { x = pos 1; y = pos 2; z = pos 3 }
  pub before : map (ms_before 7 (ups ∷ [])) (0 ∷ 1 ∷ 2 ∷ []) ≡ 7 ∷ 2000 ∷ 1500 ∷ []
  pub until : map (ms_until (ups ∷ [])) (0 ∷ 1 ∷ 2 ∷ []) ≡ 0 ∷ 2000 ∷ 3500 ∷ []
  pub holds : hold_in stretch.Down 5 7 ≡ Some (record { stretch = stretch.Down; from = 5; ms = 7 })
  -- near to its pad before its first move and where it has just risen, and where it has landed
  pub bounds_up : map (up_bound routes ups) (0 ∷ 1 ∷ 2 ∷ []) ≡ 50 ∷ 50 ∷ 80 ∷ []
  pub bounds_down : map (down_bound routes downs) (0 ∷ 1 ∷ 2 ∷ []) ≡ 80 ∷ 80 ∷ 50 ∷ []
  pub ready : arm_condition routes 0 ups ≡ record (is_at 0 0 0 50) { ready = true }
  pub risen : arm_condition routes 1 ups ≡ record (is_at 0 0 1000 50) { armed = true }
  pub rises : up_condition routes 0 ups ≡ record (is_at 0 0 0 50) { armed = true }
  pub stays : up_condition routes 0 (waits ∷ []) ≡ is_at 0 0 0 50
  pub in_the_air : down_condition routes 0 downs ≡ record (is_at 100 200 1000 80) { armed = true }
  pub landed : down_condition routes 1 (falls ∷ waits ∷ []) ≡ is_at 0 0 0 50
  pub begins : start_condition routes 80 (flight (pos 100) (pos 110)) ≡ record (is_at 100 0 0 80) { armed = true }
  pub ends : last_condition routes (flight (pos 100) (pos 110)) ≡ record (is_at 110 0 0 50) { down = true }
  -- the first arm step waits for the operator and for answers, each later one for the leg before and a second more
  pub first_arm : arm_step routes (ups ∷ []) 0 ≡ record {
    asked = true;
    after = 0;
    settle = 0;
    answered = true;
    conditions = arm_condition routes 0 ups ∷ [];
    orders = Each (Some order.Arm ∷ []);
    holds = hold_in stretch.Up 0 0;
  }
  pub later_arm : arm_step routes (ups ∷ []) 1 ≡ record {
    asked = false;
    after = 2000;
    settle = 1000;
    answered = false;
    conditions = arm_condition routes 1 ups ∷ [];
    orders = Each (None ∷ []);
    holds = hold_in stretch.Up 2000 0;
  }
  pub leg_up : up_step routes (ups ∷ []) 1 ≡ record {
    asked = false;
    after = 0;
    settle = 0;
    answered = false;
    conditions = up_condition routes 1 ups ∷ [];
    orders = Each (up_order ups 1 ∷ []);
    holds = hold_in stretch.Up 2000 1500;
  }
  pub start : start_step routes 9000 (ups ∷ []) ≡ record {
    asked = true;
    after = 1500;
    settle = 1000;
    answered = false;
    conditions = record (is_at 100 0 0 80) { armed = true } ∷ [];
    orders = ToEach order.Start;
    holds = hold_in stretch.Show 0 9000;
  }
  pub leg_down : down_step routes 9000 (downs ∷ []) 1 ≡ record {
    asked = false;
    after = 500;
    settle = 1000;
    answered = false;
    conditions = down_condition routes 1 downs ∷ [];
    orders = Each (Some (order.Land (pos 0) 3000) ∷ []);
    holds = hold_in stretch.Down 500 3000;
  }
  pub after_show : (down_step routes 9000 (downs ∷ []) 0).after ≡ 9000
  pub last : last_step routes (downs ∷ []) ≡ record {
    asked = false;
    after = 3000;
    settle = 1000;
    answered = false;
    conditions = record (is_at 110 0 0 50) { down = true } ∷ [];
    orders = ToEach order.Disarm;
    holds = None;
  }
  pub ten : lasts (flight (pos 0) (pos 0) ∷ flight (pos 0) (pos 0) ∷ []) ≡ 10
  pub in_order : steps_between routes (ups ∷ []) (downs ∷ []) ≡ group_step (ups ∷ [])
      ∷ arm_step routes (ups ∷ []) 0 ∷ up_step routes (ups ∷ []) 0
      ∷ arm_step routes (ups ∷ []) 1 ∷ up_step routes (ups ∷ []) 1 ∷ start_step routes 10 (ups ∷ [])
      ∷ down_step routes 10 (downs ∷ []) 0 ∷ down_step routes 10 (downs ∷ []) 1 ∷ last_step routes (downs ∷ []) ∷ []

-- a sample by its flags
abbrev pub flagged : Bool → Bool → Bool → Bool → Bool → Bool → Sample
flagged ready armed lost down flying sure = record {
  age = 258;
  x = pos 1;
  y = negsuc 0;
  z = pos 772;
  ready = ready;
  armed = armed;
  lost = lost;
  down = down;
  flying = flying;
  sure = sure;
}

-- the frame of a sample of drone 9, up to its flags: its kind, the drone, the age, x, y and z
abbrev pub sampled : List ℕ
sampled = 2 ∷ 9 ∷ 2 ∷ 1 ∷ 1 ∷ 0 ∷ 255 ∷ 255 ∷ 4 ∷ 3 ∷ []

pub record EventRows : Type 0 where
  pub times : events_bytes (Clock 258 ∷ Clock 0 ∷ []) ≡ 1 ∷ 2 ∷ 1 ∷ 1 ∷ 0 ∷ 0 ∷ []
  pub answers : events_bytes (Answered 9 5 ∷ []) ≡ 3 ∷ 9 ∷ 5 ∷ []
  pub signals : events_bytes (Said signal.Go ∷ Said signal.Land ∷ Said signal.Stop ∷ [])
      ≡ 4 ∷ 0 ∷ 4 ∷ 1 ∷ 4 ∷ 2 ∷ []
  -- each flag has its own bit
  pub flags : map (λ (x : Sample). events_bytes (Seen 9 x ∷ []))
      (flagged false false false false false false ∷ flagged true false false false false false
      ∷ flagged false true false false false false ∷ flagged false false true false false false
      ∷ flagged false false false true false false ∷ flagged false false false false true false
      ∷ flagged false false false false false true ∷ [])
      ≡ map (λ (b : ℕ). sampled ++ b ∷ []) (0 ∷ 1 ∷ 2 ∷ 4 ∷ 8 ∷ 16 ∷ 32 ∷ [])
  -- the first end counts
  pub first_end : first_of_two (Some 0) (Some 20) ∷ first_of_two None (Some 20) ∷ [] ≡ Some 0 ∷ Some 20 ∷ []

-- a disarmed drone, seen so long ago
abbrev pub seen_before : ℕ → Sample
seen_before age = record (flagged true false false true false true) { age = age }

abbrev pub track_before : ℕ → Track
track_before age = record { seen = Some (seen_before age); off = None; unsure = None; outside = false }

-- Of any flight with these steps, or with a show of 100 ms, in any state.
pub record DirectorRows : Type 0 where
  -- a drone falls silent once, where its sample becomes older than 500 ms
  pub silent : map (λ (age : ℕ). falls_silent 500 1 (Some (seen_before age))) (499 ∷ 500 ∷ 501 ∷ [])
      ≡ false ∷ true ∷ false ∷ []
  -- who is silent isn't seen
  pub seen : map (λ (age : ℕ). all_seen 500 is_disarmed (track_before age ∷ [])) (500 ∷ 501 ∷ []) ≡ true ∷ false ∷ []
  -- a sample of the show's last millisecond is in it, and one after it isn't
  pub in_it : (f : Flight) (s : State) → in_show (record f { show_ms = 100 })
      (record s { showing = true; waited = 110 }) (seen_before 10) ≡ true
  pub after_it : (f : Flight) (s : State) → in_show (record f { show_ms = 100 })
      (record s { showing = true; waited = 110 }) (seen_before 9) ≡ false
  pub the_end : (f : Flight) →
      end_step (record f { steps = group_step [] ∷ last_step routes [] ∷ [] }) ≡ Some (last_step routes [])
  -- drones are counted also where one has no order
  pub numbered : frames_from 0 (None ∷ Some order.Arm ∷ []) ≡ To 1 order.Arm ∷ []
