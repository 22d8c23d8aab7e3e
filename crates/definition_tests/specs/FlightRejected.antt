-- What `IsFit` and `IsKeptShow` reject, each beside a neighbour that they accept.
use Rattle.std.specs.Prelude.{ℕ, Bool, true, false, not, List, [], ◌∷◌, ◌++◌, None, ℤ, pos, negsuc}
use Rattle.flight_model.specs.declared.events.Order.TheVariants as order
use Rattle.flight_model.specs.declared.events.Sample.{Sample}
use Rattle.flight_model.specs.declared.events.Signal.TheVariants as signal
use Rattle.flight_model.specs.declared.events.Event.{Event}
use Rattle.flight_model.specs.declared.events.Event.TheVariants.{Clock, Seen, Said}
use Rattle.flight_model.specs.declared.flights.Condition.{Condition}
use Rattle.flight_model.specs.declared.flights.Orders.TheVariants.{All as ToEach}
use Rattle.flight_model.specs.declared.flights.Course.{Course}
use Rattle.flight_model.specs.declared.flights.Flight.{Flight}
use Rattle.flight_model.specs.declared.flights.Step.{Step}
use Rattle.flight_model.specs.Law.{IsFit}
use Rattle.flight_model.specs.Kept.{IsKeptShow}
use Rattle.flight_model.specs.Example.{show_at}

-- ---- near a position

-- at most 80 mm from the origin, with nothing else asked
abbrev pub at_origin : Condition
at_origin = record {
  position = record { x = pos 0; y = pos 0; z = pos 0 };
  bound = 80;
  ready = false;
  armed = false;
  down = false;
}

-- a drone stands there
abbrev pub standing : ℤ → ℤ → ℤ → Sample
standing x y z =
    record {
      age = 0;
      x = x;
      y = y;
      z = z;
      ready = true;
      armed = false;
      lost = false;
      down = true;
      flying = false;
      sure = true;
    }

-- The bound is a distance: what is within it on each axis may be too far.
pub record NearRows : Type 0 where
  pub on_an_axis : IsFit 500 at_origin (standing (pos 0) (negsuc 79) (pos 0))
  pub off_it : IsFit 500 at_origin (standing (pos 1) (negsuc 79) (pos 0)) → ⊥
  -- 48 and 64 make 80
  pub aslant : IsFit 500 at_origin (standing (pos 48) (pos 64) (pos 0))
  pub farther : IsFit 500 at_origin (standing (pos 48) (pos 65) (pos 0)) → ⊥
  pub in_a_corner : IsFit 500 at_origin (standing (pos 60) (pos 60) (pos 0)) → ⊥
  -- on all three axes: 6,372 and 6,457, where the bound has 6,400
  pub in_space : IsFit 500 at_origin (standing (pos 48) (pos 48) (pos 42))
  pub higher : IsFit 500 at_origin (standing (pos 48) (pos 48) (pos 43)) → ⊥

-- ---- down

-- the same, where it has to be down; its bound is wide
abbrev pub on_its_pad : Condition
on_its_pad = record at_origin { bound = 500; down = true }

-- it says that it isn't down, or that it flies
abbrev pub hanging : Sample
hanging = record (standing (pos 0) (pos 0) (pos 0)) { down = false }

abbrev pub turning : Sample
turning = record (standing (pos 0) (pos 0) (pos 0)) { flying = true }

-- A drone is down from 120 mm below its pad to 120 mm above it, where it says so and doesn't say that it flies.
pub record DownRows : Type 0 where
  pub on_it : IsFit 500 on_its_pad (standing (pos 300) (pos 0) (pos 0))
  pub above : IsFit 500 on_its_pad (standing (pos 0) (pos 0) (pos 120))
  pub higher : IsFit 500 on_its_pad (standing (pos 0) (pos 0) (pos 121)) → ⊥
  pub below : IsFit 500 on_its_pad (standing (pos 0) (pos 0) (negsuc 119))
  pub deeper : IsFit 500 on_its_pad (standing (pos 0) (pos 0) (negsuc 120)) → ⊥
  pub hangs : IsFit 500 on_its_pad hanging → ⊥
  pub turns : IsFit 500 on_its_pad turning → ⊥
  -- where that isn't asked
  pub unasked : IsFit 500 at_origin turning

-- ---- sure

-- a drone that stands there, and isn't sure of that
abbrev pub doubtful : Sample
doubtful = record (standing (pos 0) (pos 0) (pos 0)) { sure = false }

pub record SureRows : Type 0 where
  pub sure : IsFit 500 at_origin (standing (pos 0) (pos 0) (pos 0))
  pub unsure : IsFit 500 at_origin doubtful → ⊥

-- ---- a kept show

-- the drone near to where its show begins
abbrev pub hovering : Condition
hovering = record {
  position = record { x = pos 0; y = pos 0; z = pos 1000 };
  bound = 300;
  ready = false;
  armed = false;
  down = false;
}

-- the start, and the end that waits so long
abbrev pub begins : Step
begins = record {
  asked = true;
  after = 0;
  settle = 0;
  answered = false;
  conditions = hovering ∷ [];
  orders = ToEach order.Start;
  holds = None;
}

abbrev pub ends : ℕ → Step
ends ms = record {
  asked = false;
  after = ms;
  settle = 0;
  answered = false;
  conditions = hovering ∷ [];
  orders = ToEach order.Disarm;
  holds = None;
}

-- a way without curves
abbrev pub no_course : Course
no_course = record { curves = []; ms = 0; stray = 0; late = 0 }

-- A show of one drone, for a second: the start, and then the end. It may be 30 mm and a millisecond off. Its steps
-- watch nobody: what is kept is said of the show alone.
abbrev pub brief : Flight
brief = record {
  steps = begins ∷ ends 1000 ∷ [];
  curves = show_at (pos 0) ∷ [];
  show_ms = 1000;
  stray = 30;
  late = 2;
  up = no_course;
  down = no_course;
  room = record {
    x = record { low = pos 0; high = pos 0 };
    y = record { low = pos 0; high = pos 300 };
    z = record { low = pos 1000; high = pos 1000 };
    margin = 230;
  };
  silence = 500;
  flies_on = true;
  floor = pos 0;
  descent = 4000;
  windows = None;
}

-- the drone y mm aside
abbrev pub sample_at : ℕ → ℤ → Bool → Sample
sample_at age y armed =
    record {
      age = age;
      x = pos 0;
      y = y;
      z = pos 1000;
      ready = true;
      armed = armed;
      lost = false;
      down = not armed;
      flying = armed;
      sure = true;
    }

-- it is heard there
abbrev pub heard_at : ℕ → ℤ → Bool → Event
heard_at age y armed = Seen 0 (sample_at age y armed)

-- The show is flown from here on: after `first` ms the drone is heard, and again after `second` more.
abbrev pub flown_by : ℕ → ℕ → ℤ → ℕ → List Event
flown_by age first y second =
    Clock first ∷ heard_at age y true ∷ Clock second ∷ heard_at 0 (pos 0) true ∷ heard_at 0 (pos 0) false ∷ []

-- After 500 ms it is heard at its curve, but isn't sure.
abbrev pub flown_unsure : List Event
flown_unsure = Clock 500 ∷ Seen 0 (record (sample_at 0 (pos 225) true) { sure = false }) ∷ []

-- it is heard, and the operator says go
abbrev pub begun : List Event → List Event
begun events = heard_at 0 (pos 0) true ∷ Said signal.Go ∷ events

-- the same flight, whose end waits for another 200 ms
abbrev pub unhurried : Flight
unhurried = record brief { steps = begins ∷ ends 1200 ∷ [] }

-- A sample that was taken after 900 ms of the show is heard after 1,100, where the drone should be 81 mm aside.
abbrev pub late_news : ℤ → List Event
late_news y =
    Clock 500 ∷ heard_at 0 (pos 225) true ∷ Clock 500 ∷ heard_at 0 (pos 0) true ∷ Clock 100 ∷ heard_at 200 y true
    ∷ Clock 100 ∷ heard_at 0 (pos 0) true ∷ heard_at 0 (pos 0) false ∷ []

-- Halfway through its show the drone is 225 mm aside.
pub record KeptRows : Type 0 where
  -- 30 mm off
  pub kept : IsKeptShow brief (begun (flown_by 0 500 (pos 255) 500))
  -- 31 mm off
  pub astray : IsKeptShow brief (begun (flown_by 0 500 (pos 256) 500)) → ⊥
  -- at its curve, and not sure of that
  pub unsure : IsKeptShow brief (begun (flown_unsure ++ flown_by 0 250 (pos 169) 250)) → ⊥
  -- 30 mm off, and 31 mm off, where that is heard after the show
  pub late_kept : IsKeptShow unhurried (begun (late_news (pos 111)))
  pub late_astray : IsKeptShow unhurried (begun (late_news (pos 112))) → ⊥
  -- its last sample is 2 ms older than that
  pub silent : IsKeptShow brief (begun (flown_by 2 500 (pos 225) 500)) → ⊥
  -- one clock leaps over the show
  pub leapt : IsKeptShow brief (begun (flown_by 0 1000 (pos 0) 0)) → ⊥
  -- a millisecond of the show is left
  pub unfinished : IsKeptShow brief (begun (flown_by 0 500 (pos 255) 499)) → ⊥
  -- the operator doesn't say go
  pub no_go : IsKeptShow brief (heard_at 0 (pos 0) true ∷ flown_by 0 500 (pos 255) 500) → ⊥
  -- the operator says go before the drone is heard
  pub early_go : IsKeptShow brief (Said signal.Go ∷ heard_at 0 (pos 0) true ∷ flown_by 0 500 (pos 255) 500) → ⊥

pub record RejectedLaw : Type 0 where
  pub positions : NearRows
  pub down : DownRows
  pub sure : SureRows
  pub shows : KeptRows
