-- How near to a leg's beginning drones have to be, by hand: each bound beside one that differs.
use Rattle.std.specs.Prelude.{ℕ, List, [], ◌∷◌, pos}
use Rattle.flight_model.specs.declared.flights.Leg.{Leg}
use Rattle.flight_model.specs.Example.{routes}
use Rattle.flight_model.specs.Turns.{IsUpBound, IsDownBound}

-- a leg on z alone
abbrev pub from_to : ℕ → ℕ → Leg
from_to a b = record {
  from = pos 0 ∷ pos 0 ∷ pos a ∷ pos 0 ∷ [];
  to = pos 0 ∷ pos 0 ∷ pos b ∷ pos 0 ∷ [];
  ms = 1000;
}

-- It waits on its pad, rises, and rises further; and it sinks, lands, and waits there.
abbrev pub rising : List Leg
rising = from_to 0 0 ∷ from_to 0 500 ∷ from_to 500 1000 ∷ []

abbrev pub sinking : List Leg
sinking = from_to 1000 500 ∷ from_to 500 0 ∷ from_to 0 0 ∷ []

-- In the small flight: 100 mm from a pad, and 50 from a place in the air.
pub record BoundRows : Type 0 where
  pub waits : IsUpBound routes rising 1 100
  pub waits_close : IsUpBound routes rising 1 50 → ⊥
  pub has_risen : IsUpBound routes rising 2 100
  pub has_risen_close : IsUpBound routes rising 2 50 → ⊥
  pub flies : IsUpBound routes rising 3 50
  pub flies_far : IsUpBound routes rising 3 100 → ⊥
  pub lands : IsDownBound routes sinking 1 50
  pub lands_far : IsDownBound routes sinking 1 100 → ⊥
  pub has_landed : IsDownBound routes sinking 2 100
  pub has_landed_close : IsDownBound routes sinking 2 50 → ⊥
