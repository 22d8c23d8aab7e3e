-- What `flight_model` calls the routes of a flight.
use Rattle.std.specs.Prelude.{◌≡◌, length}
use Rattle.flight_model.specs.Legs.{Routes, lasts}
use Rattle.flight_steps.specs.declared.ways.Ways.{Ways}
use Rattle.flight_steps.specs.declared.ways.Crews.{Crews}

-- the routes of these ways
abbrev pub routes : Ways → Routes
routes w =
    record {
      up = w.up.now;
      show = w.show.now;
      down = w.down.now;
      stray = w.stray;
      near = w.near;
      at_place = w.at_place;
    }

-- Each show has a trajectory for each of its names, and the show lasts as long as is said; those of fitted shows are
-- so.
pub record AreFitted (crews : Crews) (w : Ways) : Type 0 where
  pub up : length w.up.now ≡ length crews.up.names.now
  pub show : length w.show.now ≡ length crews.show.names.now
  pub down : length w.down.now ≡ length crews.down.names.now
  pub duration : lasts w.show.now ≡ w.show_ms
