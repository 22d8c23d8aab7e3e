-- A small flight from pad to pad: two drones, one leg up, a show of one cue, one leg down.
use Rattle.std.specs.Prelude.{ℕ, Bool, true, false, not, List, [], ◌∷◌, ℤ, pos, None}
use Rattle.traj_codec.specs.declared.traj.Traj.{Traj}
use Rattle.traj_codec.specs.declared.traj.Element.{Element}
use Rattle.traj_codec.specs.declared.traj.Element.TheVariants.{Constant, Cubic, Seven}
use Rattle.flight_model.specs.declared.events.Sample.{Sample}
use Rattle.flight_model.specs.declared.flights.Course.{Course}
use Rattle.flight_model.specs.declared.flights.Flight.{Flight}
use Rattle.flight_model.specs.declared.flights.Room.{Room}
use Rattle.flight_model.specs.Legs.{Routes, steps_of}

-- a move from rest to rest, from a to b
abbrev pub rest : ℤ → ℤ → Element
rest a b = Seven (a ∷ a ∷ a ∷ b ∷ b ∷ b ∷ b ∷ [])

-- up to a metre in two seconds
abbrev pub up_at : ℤ → Traj
up_at x = record {
  start = x ∷ pos 0 ∷ pos 0 ∷ pos 0 ∷ [];
  segments = record { ms = 2000; elements = Constant ∷ Constant ∷ rest (pos 0) (pos 1000) ∷ Constant ∷ [] } ∷ [];
}

-- aside by 225 mm and back again, in a second
abbrev pub show_at : ℤ → Traj
show_at x = record {
  start = x ∷ pos 0 ∷ pos 1000 ∷ pos 0 ∷ [];
  segments = record {
    ms = 1000;
    elements = Constant ∷ Cubic (pos 300 ∷ pos 300 ∷ pos 0 ∷ []) ∷ Constant ∷ Constant ∷ [];
  } ∷ [];
}

abbrev pub down_at : ℤ → Traj
down_at x = record {
  start = x ∷ pos 0 ∷ pos 1000 ∷ pos 0 ∷ [];
  segments = record { ms = 2500; elements = Constant ∷ Constant ∷ rest (pos 1000) (pos 0) ∷ Constant ∷ [] } ∷ [];
}

-- one drone at the origin, one two metres aside
abbrev pub two : (ℤ → Traj) → List Traj
two t = t (pos 0) ∷ t (pos 2000) ∷ []

abbrev pub routes : Routes
routes = record { up = two up_at; show = two show_at; down = two down_at; stray = 100; near = 100; at_place = 50 }

-- 100 mm aside and a fifth of a second late
abbrev pub course : (ℤ → Traj) → ℕ → Course
course t ms = record { curves = two t; ms = ms; stray = 100; late = 200 }

-- around the control points of all curves, with 200 mm beside the 100 mm that drones may stray on the ways
abbrev pub room : Room
room = record {
  x = record { low = pos 0; high = pos 2000 };
  y = record { low = pos 0; high = pos 300 };
  z = record { low = pos 0; high = pos 1000 };
  margin = 300;
}

unfoldable pub flight : Bool → Flight
unfolding steps_of
flight flies_on = record {
  steps = steps_of routes;
  curves = two show_at;
  show_ms = 1000;
  stray = 30;
  late = 2;
  up = course up_at 2000;
  down = course down_at 2500;
  room = room;
  silence = 500;
  flies_on = flies_on;
  floor = pos 0;
  descent = 4000;
  windows = None;
}

-- a drone there
abbrev pub sample : ℤ → ℤ → ℤ → Bool → Bool → Sample
sample x y z armed down =
    record {
      age = 0;
      x = x;
      y = y;
      z = z;
      ready = true;
      armed = armed;
      lost = false;
      down = down;
      flying = not down;
      sure = true;
    }
