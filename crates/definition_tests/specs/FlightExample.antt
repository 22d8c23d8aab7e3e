-- The events of a small flight from pad to pad, and what is said at them. The premises of the flight director's laws
-- hold of it.
use Rattle.std.specs.Prelude.{◌≡◌, Bool, true, false, List, [], ◌∷◌, ◌++◌, ℤ, pos}
use Rattle.flight_model.specs.declared.events.Order.TheVariants as order
use Rattle.flight_model.specs.declared.events.Signal.TheVariants as signal
use Rattle.flight_model.specs.declared.events.Event.{Event}
use Rattle.flight_model.specs.declared.events.Event.TheVariants.{Clock, Seen, Answered, Said}
use Rattle.flight_model.specs.declared.events.Frame.{Frame}
use Rattle.flight_model.specs.declared.events.Frame.TheVariants.{To, ToAll, Over}
use Rattle.flight_model.specs.Legs.{IsFlight}
use Rattle.flight_model.specs.Directors.{start, sent}
use Rattle.flight_model.specs.Law.{AllQuiet}
use Rattle.flight_model.specs.Kept.{HasShow, IsKeptShow}
use Rattle.flight_model.specs.Example.{flight, sample, routes}

-- both drones are heard, y mm aside and z mm high
abbrev pub both : ℤ → ℤ → Bool → Bool → List Event
both y z armed down = Seen 0 (sample (pos 0) y z armed down) ∷ Seen 1 (sample (pos 2000) y z armed down) ∷ []

-- half a second later both are heard, z mm high: on a way that is where their curves are, in whole millimetres
abbrev pub half : ℤ → Bool → Bool → List Event
half z armed down = Clock 500 ∷ both (pos 0) z armed down

abbrev pub go : List Event
go = Said signal.Go ∷ []

-- both are in the group
abbrev pub joined : List Event
joined = Answered 0 0 ∷ Answered 1 0 ∷ []

-- on the pads: both are in the group, the operator says go, and both are armed
abbrev pub lift_off : List Event
lift_off = both (pos 0) (pos 0) false true ++ joined ++ go ++ both (pos 0) (pos 0) true true

abbrev pub rising : List Event
rising =
    half (pos 71) true false ++ half (pos 500) true false ++ half (pos 929) true false ++ half (pos 1000) true false

abbrev pub hovering : List Event
hovering = half (pos 1000) true false ++ half (pos 1000) true false ++ half (pos 1000) true false

abbrev pub show : List Event
show =
    both (pos 0) (pos 1000) true false ++ (Clock 500 ∷ both (pos 225) (pos 1000) true false)
    ++ half (pos 1000) true false

abbrev pub sinking : List Event
sinking =
    half (pos 967) true false ++ half (pos 710) true false ++ half (pos 290) true false ++ half (pos 33) true false

abbrev pub way_down : List Event
way_down =
    half (pos 1000) true false ++ half (pos 1000) true false ++ sinking ++ half (pos 0) true true
    ++ half (pos 0) true true
    ++ half (pos 0) true true ++ both (pos 0) (pos 0) false true

-- from pad to pad
abbrev pub whole : List Event
whole = lift_off ++ rising ++ hovering ++ go ++ show ++ way_down

-- What is said at them: each drone is told its six orders, and the flight was flown and kept.
abbrev pub said : List Frame
said =
    To 0 order.Group ∷ To 1 order.Group ∷ To 0 order.Arm ∷ To 1 order.Arm ∷ To 0 (order.Rise (pos 1000) 2000)
    ∷ To 1 (order.Rise (pos 1000) 2000)
    ∷ ToAll order.Start
    ∷ To 0 (order.Land (pos 0) 2500) ∷ To 1 (order.Land (pos 0) 2500) ∷ ToAll order.Disarm ∷ Over true true ∷ []

-- The three ways are a flight, nothing is wrong with these events, and so the laws of flown, kept and quiet flights say
-- something.
pub record ExampleLaw : Type 0 where
  pub is_flight : IsFlight routes
  pub has_show : HasShow (flight true)
  pub quiet : AllQuiet (flight true) 100 (start (flight true)) whole
  pub says : sent (flight true) (start (flight true)) whole ≡ said
  pub kept : IsKeptShow (flight true) whole
