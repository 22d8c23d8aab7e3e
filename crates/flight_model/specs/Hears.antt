-- Who may be deaf to a landing, and when one is covered: by shows that were accepted beforehand, whoever of these hears
-- of it.
use Rattle.std.specs.Prelude.{◌≡◌, ◌⊎◌, ℕ, ◌<◌, ◌≤◌, true, false, List, slice_get, Option, Some, None, Contains}
use Rattle.flight_model.specs.declared.events.Sample.{Sample}
use Rattle.flight_model.specs.declared.flights.Window.{Window}
use Rattle.flight_model.specs.declared.flights.Flight.{Flight}
use Rattle.flight_model.specs.Directors.{Track, State, any_risen, has_risen}

-- Drone d was told to rise, and may be deaf to an order: its last sample is older than 300 ms, if there is one.
pub record MayBeDeaf (f : Flight) (s : State) (d : ℕ) : Type 0 where
  pub track : Track
  pub is_track : slice_get s.tracks d ≡ Some track
  pub risen : has_risen f s.next d ≡ true
  pub old : (x : Sample) → track.seen ≡ Some x → 300 < x.age

-- One of these windows is of the step that began last, covers this instant, and has this drone deaf, or none.
pub record HasWindow (windows : List Window) (s : State) (who : Option ℕ) : Type 0 where
  pub window : Window
  pub is_listed : Contains windows window
  pub step : window.step ≡ s.next
  pub from : window.from ≤ s.waited
  pub to : s.waited ≤ window.to
  pub deaf : window.deaf ≡ who

-- Who may be deaf may hear all the same: a window covers that all hear of the landing, and for each drone that may be
-- deaf another one covers that this one doesn't. That is enough, however many don't hear of it, since apart is said of
-- any two drones. Of two that have risen both land, as in the window of none; or one flies on, as in its own window; or
-- both do, as in the text that they fly.
pub record IsCovered (f : Flight) (windows : List Window) (s : State) : Type 0 where
  pub by_all : HasWindow windows s None
  pub without : (d : ℕ) → MayBeDeaf f s d → HasWindow windows s (Some d)

-- All that have risen may land now: no windows are listed, or nobody has risen, or a landing is covered.
abbrev pub MayLand : Flight → State → Type 0
MayLand f s =
    (f.windows ≡ None)
    ⊎ ((any_risen f s.next ≡ false)
    ⊎ ((windows : List Window) × (f.windows ≡ Some windows) × IsCovered f windows s))
