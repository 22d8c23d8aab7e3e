-- Each landing is covered; and one that is wanted goes out at the first event at which all may land.
use Rattle.std.specs.Prelude.{◌≡◌, ◌≢◌, ◌⊎◌, ℕ, true, false, List, [], ◌∷◌, ℤ, None, Contains}
use Rattle.flight_model.specs.declared.events.Order.TheVariants as order
use Rattle.flight_model.specs.declared.events.Signal.TheVariants as signal
use Rattle.flight_model.specs.declared.events.Event.{Event}
use Rattle.flight_model.specs.declared.events.Event.TheVariants.{Said}
use Rattle.flight_model.specs.declared.flights.Flight.{Flight}
use Rattle.flight_model.specs.Directors.{State, Steps, Landing, is_fault, start, heard, happens, says, after, sent}
use Rattle.flight_model.specs.Hears.{MayLand}
use Rattle.flight_model.specs.Law.{Lands, LandsOrWaits, MayBegin, orders_to}

-- In every state of every flight.
pub record CoveredLaw : Type 0 where
  -- an order to land is that of a step which may begin; or all that have risen may land
  pub orders : (f : Flight) (s : State) (e : Event) (d : ℕ) (z : ℤ) (ms : ℕ) →
      Contains (orders_to d (says f s e)) (order.Land z ms) → MayBegin f s e ⊎ MayLand f (heard f s e)
  -- and only where they may the way is left for a landing
  pub leaves : (f : Flight) (s : State) (e : Event) → s.phase ≡ Steps → (happens f s e).phase ≡ Landing →
      MayLand f (heard f s e)

-- On the way a landing is wanted.
pub record IsWanted (s : State) : Type 0 where
  pub phase : s.phase ≡ Steps
  pub wanted : s.wanted ≡ true

-- At none of these events all may land, and none is the operator's stop.
abbrev pub NoneMay : Flight → State → List Event → Type 0
NoneMay f s [] = Unit {0}
NoneMay f s (e ∷ es) = (e ≢ Said signal.Stop) × (MayLand f (heard f s e) → ⊥) × NoneMay f (happens f s e) es

-- Of every flight, in every state but where the beginning is named.
pub record WantedLaw : Type 0 where
  -- A landing is wanted from the operator's land on, or from a grave fault on, if all may not land at once.
  pub begins : (f : Flight) (s : State) (e : Event) → s.wanted ≡ false → (happens f s e).wanted ≡ true →
      ((e ≡ Said signal.Land) ⊎ (is_fault f s e ≡ true)) × (MayLand f (heard f s e) → ⊥)
  -- While it is wanted no step begins, whatever happens.
  pub no_step : (f : Flight) (s : State) (e : Event) → s.wanted ≡ true → (happens f s e).next ≡ s.next
  -- At each event but the operator's stop all land, or it goes on to be wanted.
  pub goes_on : (f : Flight) (s : State) (e : Event) → IsWanted s → e ≢ Said signal.Stop → LandsOrWaits f s e
  -- Nobody is told anything until the first event at which all may land, and at that event they do.
  pub first : (f : Flight) (s : State) (events : List Event) (e : Event) → IsWanted s → NoneMay f s events →
      e ≢ Said signal.Stop → MayLand f (heard f (after f s events) e) →
      ((d : ℕ) → orders_to d (sent f s events) ≡ []) × Lands f (after f s events) e
  -- Where no windows are listed none is ever waited for.
  pub never : (f : Flight) (events : List Event) → f.windows ≡ None → (after f (start f) events).wanted ≡ false
