-- What three shows are as a flight: their routes, the first cause why they are none, and the flight.
use Rattle.std.specs.Prelude.{◌≡◌, ℕ, ◌+◌, ◌++◌, min, max, not, Option, None}
use Rattle.std.specs.Option.{option_or}
use Rattle.choreo_show.specs.Plain.{PlainShow}
use Rattle.choreo_show.specs.declared.show.Settings.{Settings}
use Rattle.flight_model.specs.declared.flights.Course.{Course}
use Rattle.flight_model.specs.declared.flights.Flight.{Flight}
use Rattle.flight_model.specs.declared.flights.Room.{Room}
use Rattle.flight_model.specs.Legs.{IsFlight, Routes, lasts, steps_of}
use Rattle.flight_model.specs.Rooms.{room_of}
use Rattle.flight_steps.specs.declared.faults.FlightFault.{FlightFault}
use Rattle.flight_steps.specs.declared.faults.Way.TheVariants as way
use Rattle.flight_steps.specs.declared.ways.Ellipsoid.{Ellipsoid}
use Rattle.flight_steps.specs.Faults.{first_other, other_drone, route_fault, size_fault}
use Rattle.show_judge.specs.Shows.{names_of, sent_of, trajectories_of, words_of}
use Rattle.command_words.specs.declared.flight.FlightOptions.{FlightOptions}

-- The routes of a way up, a show and a way down, one segment a cue. How far drones may stray from their way up is what
-- the settings of that show say.
abbrev pub routes_of : FlightOptions → PlainShow → PlainShow → PlainShow → Routes
routes_of o up show down = record {
  up = trajectories_of up;
  show = trajectories_of show;
  down = trajectories_of down;
  stray = up.settings.stray;
  near = o.near;
  at_place = o.at_place;
}

-- the ellipsoid around each drone of a show
abbrev pub ellipsoid_in : Settings → Ellipsoid
ellipsoid_in e = record { r = e.r; h = e.h }

abbrev pub ellipsoid_of : PlainShow → Ellipsoid
ellipsoid_of s = ellipsoid_in s.settings

-- The first cause why the three are no flight: of their names, then of their ellipsoids, and then of their ways.
abbrev pub fault_of : FlightOptions → PlainShow → PlainShow → PlainShow → Option FlightFault
fault_of o up show down =
    option_or (option_or (option_or (other_drone way.Up (first_other 0 (names_of up) (names_of show)))
    (other_drone way.Down (first_other 0 (names_of down) (names_of show))))
    (size_fault (ellipsoid_of up) (ellipsoid_of show) (ellipsoid_of down)))
    (route_fault (routes_of o up show down))

-- The three are a flight: the same drones, by name, in the same order; one ellipsoid, so that in all three the same
-- drones are apart; and their ways are a flight.
pub record AreFlight (o : FlightOptions) (up show down : PlainShow) : Type 0 where
  pub up_names : words_of up ≡ words_of show
  pub down_names : words_of down ≡ words_of show
  pub up_ellipsoid : ellipsoid_of up ≡ ellipsoid_of show
  pub down_ellipsoid : ellipsoid_of down ≡ ellipsoid_of show
  pub flight : IsFlight (routes_of o up show down)

-- The director counts times up to 1,000,000,000 ms, so a longer silence than this is none that it would find.
abbrev pub most_silence : ℕ
most_silence = 999999999

-- How late an order may reach its drone where the text of its way says less: a way that is judged stage by stage, each
-- begun once all are there, is a text without lateness.
abbrev pub order_ms : ℕ
order_ms = 300

-- A way as it is watched: what its drones would be sent, and what its settings say of stray and lateness.
abbrev pub course_of : PlainShow → Course
course_of s = record {
  curves = sent_of s;
  ms = lasts (trajectories_of s);
  stray = s.settings.stray;
  late = max s.settings.late order_ms;
}

-- how far outside of the control points of its curves a drone in the air may be, beside what its text has it stray
abbrev pub room_mm : ℕ
room_mm = 200

-- The room: around what the drones would be sent for all three, with the largest of their strays and 200 mm.
abbrev pub room_in : PlainShow → PlainShow → PlainShow → Room
room_in up show down =
    room_of (max (max up.settings.stray show.settings.stray) down.settings.stray + room_mm)
    (sent_of up ++ (sent_of show ++ sent_of down))

-- The flight. Its curves are what the drones were sent for the show, and how far drones may be from them is what the
-- show's settings say; so it is of the ways.
abbrev pub flight_of : FlightOptions → PlainShow → PlainShow → PlainShow → Flight
flight_of o up show down = record {
  steps = steps_of (routes_of o up show down);
  curves = sent_of show;
  show_ms = lasts (trajectories_of show);
  stray = show.settings.stray;
  late = show.settings.late;
  up = course_of up;
  down = course_of down;
  room = room_in up show down;
  silence = min o.silence most_silence;
  flies_on = not o.then_land;
  floor = o.floor;
  descent = o.descent;
  windows = None;
}
