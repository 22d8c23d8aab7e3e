-- What the machine's functions are given.
use Rattle.std.specs.Prelude.{◌≡◌, ℕ, ◌≤◌, ◌<◌, Bool, List, length, Option, Some, None, slice_get, All}
use Rattle.whole_numbers.specs.Limits.{most_drones}
use Rattle.integer_player.specs.Played.{IsPlayable, duration_of}
use Rattle.traj_codec.specs.declared.traj.Traj.{Traj}
use Rattle.flight_model.specs.declared.flights.Orders.{Orders}
use Rattle.flight_model.specs.declared.flights.Orders.TheVariants.{Each, All as ToEach}
use Rattle.flight_model.specs.declared.flights.Course.{Course}
use Rattle.flight_model.specs.declared.flights.Step.{Step}
use Rattle.flight_model.specs.declared.flights.Flight.{Flight}
use Rattle.flight_model.specs.declared.events.Event.{Event}
use Rattle.flight_model.specs.declared.events.Event.TheVariants.{Clock, Seen, Answered, Said}
use Rattle.flight_model.specs.Directors.{State, drones}
use Rattle.flight_model.specs.declared.states.Track.{Track}

-- one order for each drone of a show at most
abbrev pub AreFew : Orders → Type 0
AreFew (Each orders) = length orders ≤ most_drones
AreFew (ToEach o) = Unit {0}

-- The curve may be played for so long.
pub record IsCurve (ms : ℕ) (t : Traj) : Type 0 where
  pub playable : IsPlayable t
  pub lasts : ms ≤ duration_of t

-- Each curve of the way may be played, up to its end.
pub record IsCourse (c : Course) : Type 0 where
  pub short : c.ms ≤ 1000000000
  pub curves : All (IsCurve c.ms) c.curves

-- A flight that fits the machine: as few drones as a show, and curves that last as long as the show and the ways.
pub record IsHeld (f : Flight) : Type 0 where
  pub few : drones f ≤ most_drones
  pub short : f.show_ms ≤ 1000000000
  pub orders : All (λ (step : Step). AreFew step.orders) f.steps
  pub conditions : All (λ (step : Step). length step.conditions ≤ most_drones) f.steps
  pub curves : All (IsCurve f.show_ms) f.curves
  pub up : IsCourse f.up
  pub down : IsCourse f.down

-- the director as a contract sees it
pub record Directed : Type 0 where
  pub flight : Flight
  pub state : State

-- the state, with these tracks
abbrev pub with_tracks : State → List Track → State
with_tracks s tracks = record s { tracks = tracks }

-- the same, where these have answered
abbrev pub with_answered : State → List Bool → State
with_answered s answered = record s { answered = answered }
