-- Whom packets for a group reach, and when drones are armed, by hand: each value beside one that differs.
use Rattle.std.specs.Prelude.{◌≡◌, ℕ, true, false, List, [], ◌∷◌, ◌++◌, pos}
use Rattle.flight_model.specs.declared.events.Order.TheVariants as order
use Rattle.flight_model.specs.declared.events.Event.{Event}
use Rattle.flight_model.specs.declared.events.Event.TheVariants.{Answered}
use Rattle.flight_model.specs.declared.events.Fault.TheVariants.{Refused}
use Rattle.flight_model.specs.declared.events.Frame.{Frame}
use Rattle.flight_model.specs.declared.events.Frame.TheVariants.{To, ToAll, Noted}
use Rattle.flight_model.specs.Directors.{start, sent}
use Rattle.flight_model.specs.Law.{orders_to}
use Rattle.flight_model.specs.Example.{flight}
use Rattle.definition_tests.specs.FlightExample.{both, go, said}
use Rattle.flight_model.specs.Ours.{is_for, Drone, obeys_all, overheard}

-- a drone in these groups, of which nothing was asked
abbrev pub idle : ℕ → Drone
idle group = record { group = group; obeyed = [] }

-- the two drones of the small flight stand on their pads
abbrev pub standing : List Event
standing = both (pos 0) (pos 0) false true

-- what is said at these events, from the beginning of the small flight
unfoldable pub said_at : List Event → List Frame
said_at events = sent (flight true) (start (flight true)) events

abbrev pub grouped : List Frame
grouped = To 0 order.Group ∷ To 1 order.Group ∷ []

abbrev pub armed : List Frame
armed = grouped ++ To 0 order.Arm ∷ To 1 order.Arm ∷ []

pub record GroupRows : Type 0 where
  -- a packet for no group reaches a drone in none, and one in all
  pub to_all : is_for 0 0 ≡ true
  pub to_everybody : is_for 0 255 ≡ true
  -- one for the first group
  pub to_none : is_for 1 0 ≡ false
  pub to_first : is_for 1 1 ≡ true
  pub to_second : is_for 1 2 ≡ false
  pub to_both : is_for 1 3 ≡ true
  -- one for the second and the third, and one for the last
  pub to_third : is_for 6 4 ≡ true
  pub beside : is_for 6 9 ≡ false
  pub to_last : is_for 128 128 ≡ true
  pub before_last : is_for 128 127 ≡ false
  -- in the small flight a drone that isn't of it stays; one that was left in the flight's group starts
  pub stays : obeys_all (idle 0) (overheard said) ≡ idle 0
  pub stays_in_another : obeys_all (idle 254) (overheard said) ≡ idle 254
  pub leaps : obeys_all (idle 1) (overheard said) ≡ record { group = 1; obeyed = order.Start ∷ [] }
  -- and a halt is for all
  pub falls : obeys_all (idle 0) (overheard (said ++ ToAll order.Halt ∷ []))
      ≡ record { group = 0; obeyed = order.Halt ∷ [] }
  -- its own second drone
  pub flies : obeys_all (idle 0) (orders_to 1 said) ≡ record {
    group = 1;
    obeyed = order.Group ∷ order.Arm ∷ order.Rise (pos 1000) 2000 ∷ order.Start ∷ order.Land (pos 0) 2500
        ∷ order.Disarm ∷ [];
  }
  -- one that doesn't hear of the group doesn't start
  pub deaf : obeys_all (idle 0) (order.Arm ∷ order.Start ∷ []) ≡ record { group = 0; obeyed = order.Arm ∷ [] }
  -- both have answered, and the operator says go
  pub answered : said_at (standing ++ Answered 0 0 ∷ Answered 1 0 ∷ go) ≡ armed
  pub answered_by_turns : said_at (Answered 1 0 ∷ standing ++ Answered 1 0 ∷ Answered 0 0 ∷ go) ≡ armed
  -- one has, or one of them twice
  pub one_answer : said_at (standing ++ Answered 0 0 ∷ go) ≡ grouped
  pub one_twice : said_at (standing ++ Answered 0 0 ∷ Answered 0 0 ∷ go) ≡ grouped
  -- an answer from before the order
  pub old_answer : said_at (Answered 0 0 ∷ standing ++ Answered 1 0 ∷ go) ≡ grouped
  -- a go from before the second answer
  pub early_go : said_at (standing ++ Answered 0 0 ∷ go ++ Answered 1 0 ∷ []) ≡ grouped
  -- a drone that isn't of the flight
  pub other_answer : said_at (standing ++ Answered 0 0 ∷ Answered 2 0 ∷ go) ≡ grouped
  -- one that refuses: the flight is broken off, and as all stand they are disarmed
  pub refuses : said_at (standing ++ Answered 0 0 ∷ Answered 1 5 ∷ go)
      ≡ grouped ++ Noted (record { drone = 1; fault = Refused }) ∷ ToAll order.Disarm ∷ []
