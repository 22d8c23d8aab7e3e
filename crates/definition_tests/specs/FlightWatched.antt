-- Where drones are watched on their way: whom `is_off_hold` finds off in a small flight, by hand, each beside a
-- neighbour that it doesn't.
use Rattle.std.specs.Prelude.{◌≡◌, true, false, pos, negsuc}
use Rattle.flight_model.specs.declared.states.Phase.TheVariants.{Landing}
use Rattle.flight_model.specs.Rows.{since, is_off_at}

-- On its way up and down a drone may be 100 mm from where its curve was within the last 200 ms; in the show 30 mm, a
-- millisecond sooner or later. Heights: a way up of a metre in two seconds is at 289.79 mm after 800 ms, and at
-- 997.27 mm after 1,800; the way down, in 2.5 seconds, at 670.59 mm after 1,050.
pub record WatchedRows : Type 0 where
  -- put into the group alone: nowhere yet
  pub joined : is_off_at (since 1 700) 0 (pos 2000) (pos 0) (pos 5000) ≡ false
  -- armed, and told nothing more: on its pad
  pub armed : is_off_at (since 2 700) 0 (pos 2000) (pos 0) (pos 100) ≡ false
  pub hops : is_off_at (since 2 700) 0 (pos 2000) (pos 0) (pos 101) ≡ true
  -- halfway up: at 500 mm, and no higher
  pub high : is_off_at (since 3 1000) 0 (pos 2000) (pos 0) (pos 600) ≡ false
  pub higher : is_off_at (since 3 1000) 0 (pos 2000) (pos 0) (pos 601) ≡ true
  -- where it was 200 ms before
  pub low : is_off_at (since 3 1000) 0 (pos 2000) (pos 0) (pos 190) ≡ false
  pub lower : is_off_at (since 3 1000) 0 (pos 2000) (pos 0) (pos 189) ≡ true
  -- a distance in space, also aside
  pub aside : is_off_at (since 3 1000) 0 (pos 2000) (negsuc 99) (pos 500) ≡ false
  pub farther : is_off_at (since 3 1000) 0 (pos 2000) (negsuc 100) (pos 500) ≡ true
  pub aslant : is_off_at (since 3 1000) 0 (pos 2060) (pos 80) (pos 500) ≡ false
  pub corner : is_off_at (since 3 1000) 0 (pos 2061) (pos 80) (pos 500) ≡ true
  -- the curve of its own number
  pub other : is_off_at (since 3 1000) 0 (pos 0) (pos 0) (pos 500) ≡ true
  -- the same, seen 300 ms late
  pub late : is_off_at (since 3 1300) 300 (pos 2000) (pos 0) (pos 600) ≡ false
  pub later : is_off_at (since 3 1300) 300 (pos 2000) (pos 0) (pos 601) ≡ true
  -- a sample from before the step says nothing of it
  pub earlier : is_off_at (since 3 1000) 1001 (pos 2000) (pos 0) (pos 5000) ≡ false
  pub just : is_off_at (since 3 1000) 1000 (pos 2000) (pos 0) (pos 101) ≡ true
  -- where its way up ends, for as long as nobody says go
  pub waits : is_off_at (since 3 3000) 0 (pos 2000) (pos 0) (pos 1100) ≡ false
  pub climbs : is_off_at (since 3 3000) 0 (pos 2000) (pos 0) (pos 1101) ≡ true
  pub sinks : is_off_at (since 3 90000) 0 (pos 2000) (pos 0) (pos 898) ≡ false
  pub falls : is_off_at (since 3 90000) 0 (pos 2000) (pos 0) (pos 897) ≡ true
  -- halfway through the show: 225 mm aside
  pub shows : is_off_at (since 4 500) 0 (pos 2000) (pos 255) (pos 1000) ≡ false
  pub strays : is_off_at (since 4 500) 0 (pos 2000) (pos 256) (pos 1000) ≡ true
  -- where the show ends, until the way down begins
  pub ends : is_off_at (since 4 2000) 0 (pos 2000) (pos 30) (pos 1000) ≡ false
  pub leaves : is_off_at (since 4 2000) 0 (pos 2000) (pos 31) (pos 1000) ≡ true
  -- halfway down
  pub down_low : is_off_at (since 5 1250) 0 (pos 2000) (pos 0) (pos 400) ≡ false
  pub down_lower : is_off_at (since 5 1250) 0 (pos 2000) (pos 0) (pos 399) ≡ true
  pub down_high : is_off_at (since 5 1250) 0 (pos 2000) (pos 0) (pos 770) ≡ false
  pub down_higher : is_off_at (since 5 1250) 0 (pos 2000) (pos 0) (pos 771) ≡ true
  -- nobody is watched before the first step, nor once the way was left
  pub before : is_off_at (since 0 1000) 0 (pos 0) (pos 0) (pos 5000) ≡ false
  pub lands : is_off_at (record (since 3 1000) { phase = Landing }) 0 (pos 2000) (pos 0) (pos 5000) ≡ false
