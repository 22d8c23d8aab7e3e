-- When a show was kept, said of the list of events alone (docs/PROMISES.md, "The flight director").
use Rattle.std.specs.Prelude.{◌≡◌, ℕ, suc, ◌+◌, ◌-◌, ◌<◌, ◌≤◌, Bool, true, List, [], ◌∷◌, ◌++◌, length, slice_get, Some}
use Rattle.std.specs.Prelude.{Contains}
use Rattle.flight_model.specs.declared.events.Order.TheVariants as order
use Rattle.flight_model.specs.declared.events.Sample.{Sample}
use Rattle.flight_model.specs.declared.events.Signal.TheVariants as signal
use Rattle.flight_model.specs.declared.events.Event.{Event}
use Rattle.flight_model.specs.declared.events.Event.TheVariants.{Seen, Said}
use Rattle.flight_model.specs.declared.events.Frame.TheVariants.{Over}
use Rattle.flight_model.specs.declared.flights.Orders.TheVariants.{All as ToEach}
use Rattle.flight_model.specs.declared.flights.Step.{Step}
use Rattle.flight_model.specs.declared.flights.Flight.{Flight}
use Rattle.flight_model.specs.Samples.{is_kept}
use Rattle.flight_model.specs.Directors.{drones, most_ms, passed, start, sent, after}
use Rattle.flight_model.specs.Law.{orders_to}
use Rattle.flight_model.specs.Legs.{Routes, IsFlight, lasts, steps_of}

-- how much time passes in these events
abbrev pub time : List Event → ℕ
time [] = 0
time (e ∷ es) = passed e + time es

-- At the instant `ms` of these events drone d isn't silent: a sample was heard of it by then, which was taken at most
-- `silence` before.
pub record IsHeard (silence : ℕ) (events : List Event) (d ms : ℕ) : Type 0 where
  pub earlier : List Event
  pub sample : Sample
  pub since : List Event
  pub are : events ≡ earlier ++ Seen d sample ∷ since
  pub by_then : time earlier ≤ ms
  pub fresh : ms + sample.age ≤ time earlier + silence

-- The show was flown from the operator's go to its end, each drone was at its curve, and sure of that, in every sample
-- that was taken in it and heard by the next step, and none was silent.
pub record IsKeptShow (f : Flight) (events : List Event) : Type 0 where
  pub before : List Event
  pub during : List Event
  pub last : Event
  pub rest : List Event
  pub are : events ≡ before ++ Said signal.Go ∷ (during ++ last ∷ rest)
  -- at this go each drone was told to start, and up to the end of `during` nothing else
  pub started : (d : ℕ) →
      orders_to d (sent f (start f) (before ++ Said signal.Go ∷ during))
      ≡ orders_to d (sent f (start f) before) ++ order.Start ∷ []
  -- with the next event the next step begins
  pub moves_on :
      (after f (start f) (before ++ Said signal.Go ∷ (during ++ last ∷ []))).next
      ≡ suc (after f (start f) (before ++ Said signal.Go ∷ during)).next
  -- that ends the show, or comes after it
  pub whole : f.show_ms ≤ time (during ++ last ∷ [])
  -- each sample that was taken in the show was at its drone's curve, and sure; times are counted up to twelve days
  pub at_curve : (earlier since : List Event) (d : ℕ) (x : Sample) → during ++ last ∷ [] ≡ earlier ++ Seen d x ∷ since →
      time earlier ≤ most_ms → x.age ≤ time earlier → time earlier - x.age ≤ f.show_ms →
      (is_kept f d (time earlier - x.age) x ≡ true) × (x.sure ≡ true)
  -- no drone was silent, from the start to the show's end
  pub heard : (d ms : ℕ) → d < drones f → ms ≤ f.show_ms →
      IsHeard f.silence (before ++ Said signal.Go ∷ during) d (time before + ms)

-- The steps of f fly its show: one starts it at the operator's go, and asks something of each drone; the next one waits
-- for the show's end. Show and silence are shorter than twelve days.
pub record HasShow (f : Flight) : Type 0 where
  pub number : ℕ
  pub starting : Step
  pub next : Step
  pub is_starting : slice_get f.steps number ≡ Some starting
  pub is_next : slice_get f.steps (suc number) ≡ Some next
  pub starts : starting.orders ≡ ToEach order.Start
  pub asked : starting.asked ≡ true
  pub each : length starting.conditions ≡ drones f
  pub waits : f.show_ms ≤ next.after
  pub short : f.show_ms ≤ most_ms
  pub heard : f.silence < most_ms

pub record KeptLaw : Type 0 where
  -- Where the end says that the show was kept, it was.
  pub kept : (f : Flight) (events : List Event) → HasShow f → Contains (sent f (start f) events) (Over true true) →
      IsKeptShow f events
  -- Nothing is said to be kept that wasn't flown.
  pub flown : (f : Flight) (events : List Event) (flown : Bool) → Contains (sent f (start f) events) (Over flown true) →
      flown ≡ true
  -- The steps of a flight fly its show.
  pub has_show : (f : Flight) (w : Routes) → IsFlight w → f.steps ≡ steps_of w → f.curves ≡ w.show →
      f.show_ms ≡ lasts w.show →
      f.show_ms ≤ most_ms → f.silence < most_ms → HasShow f
