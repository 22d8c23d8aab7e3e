-- Where drones rise from: so near to the beginning of their way up as the proof of that way allows for.
use Rattle.std.specs.Prelude.{◌≡◌, ℕ, slice_get, Some, ℤ, Contains}
use Rattle.traj_codec.specs.declared.traj.Traj.{Traj}
use Rattle.flight_model.specs.declared.events.Order.TheVariants as order
use Rattle.flight_model.specs.declared.events.Sample.{Sample}
use Rattle.flight_model.specs.declared.events.Event.{Event}
use Rattle.flight_model.specs.declared.flights.Position.{Position}
use Rattle.flight_model.specs.declared.flights.Flight.{Flight}
use Rattle.flight_model.specs.Legs.{Routes, IsFlight, way_begins, position_of, steps_of}
use Rattle.flight_model.specs.Directors.{Track, State, heard, says}
use Rattle.flight_model.specs.Law.{orders_to, IsNear}

-- With the event e the last sample of drone d is at most so far from the position.
pub record StandsNear (f : Flight) (s : State) (e : Event) (d most : ℕ) (p : Position) : Type 0 where
  pub track : Track
  pub sample : Sample
  pub is_track : slice_get (heard f s e).tracks d ≡ Some track
  pub is_sample : track.seen ≡ Some sample
  pub near : IsNear most p sample

-- A drone of a flight is told to rise only where it stands within `stray` of where its way up begins, in a straight
-- line. From there it goes straight up, as its way does: so it begins no farther from its way than `FlyApart` allows.
abbrev pub RiseLaw : Type 0
RiseLaw =
    (f : Flight) (w : Routes) → IsFlight w → f.steps ≡ steps_of w → (s : State) (e : Event) (d : ℕ) (up : Traj) →
    slice_get w.up d ≡ Some up → (z : ℤ) (ms : ℕ) → Contains (orders_to d (says f s e)) (order.Rise z ms) →
    StandsNear f s e d w.stray (position_of (way_begins up))
