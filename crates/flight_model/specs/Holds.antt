-- Where drones are told to be after each step of three ways, and that all land where one isn't there for 300 ms.
use Rattle.std.specs.Prelude.{◌≡◌, ℕ, suc, ◌+◌, ◌<◌, ◌≤◌, true, List, [], ◌∷◌, ◌++◌, length, map}
use Rattle.flight_model.specs.declared.events.Sample.{Sample}
use Rattle.flight_model.specs.declared.events.Event.{Event}
use Rattle.flight_model.specs.declared.events.Event.TheVariants.{Seen}
use Rattle.flight_model.specs.declared.flights.Stretch.TheVariants as stretch
use Rattle.flight_model.specs.declared.flights.Flight.{Flight}
use Rattle.flight_model.specs.Legs.{Routes, hold_in, lasts, leg_count, leg_ms, legs_of, ms_until, steps_of}
use Rattle.flight_model.specs.Directors.{State, is_off_hold, last_hold, most_ms, start, happens, after}
use Rattle.flight_model.specs.Law.{LandsOrWaits}
use Rattle.flight_model.specs.Alarms.{IsToLand}
use Rattle.flight_model.specs.Kept.{time}
use Rattle.flight_model.specs.Turns.{twice}

-- At none of these events a step begins, and each sample of drone d is off where it is told to be.
abbrev pub StaysOff : Flight → ℕ → State → List Event → Type 0
StaysOff f d s [] = Unit {0}
StaysOff f d s (e ∷ es) =
    ((x : Sample) → e ≡ Seen d x → is_off_hold f s d x ≡ true)
    × ((happens f s e).next ≡ s.next)
    × StaysOff f d (happens f s e) es

-- After some events drone d is seen off where it is told to be, and is so in each sample up to one that was taken at
-- least 300 ms later. Times are counted up to twelve days.
pub record IsOffFor (f : Flight) (d : ℕ) (earlier between : List Event) (first last : Sample) : Type 0 where
  pub known : d < length (after f (start f) earlier).tracks
  pub to_land : IsToLand f (after f (start f) earlier)
  pub stays : StaysOff f d (after f (start f) earlier) (Seen d first ∷ between)
  pub still : is_off_hold f (after f (start f) (earlier ++ Seen d first ∷ between)) d last ≡ true
  pub long : 300 + last.age ≤ first.age + time between
  pub counted : 300 + last.age ≤ most_ms

-- Of every flight and every list of events.
pub record HoldLaw : Type 0 where
  -- Of three ways: once the drones of leg k are armed, all are where it begins; then on their way up, from where it is
  -- after the legs before it; at the start in the show; and at last on their way down, leg by leg.
  pub armed : (f : Flight) (w : Routes) → f.steps ≡ steps_of w → (k : ℕ) → k < leg_count (map legs_of w.up) →
      last_hold f (suc (suc (twice k))) ≡ hold_in stretch.Up (ms_until (map legs_of w.up) k) 0
  pub up : (f : Flight) (w : Routes) → f.steps ≡ steps_of w → (k : ℕ) → k < leg_count (map legs_of w.up) →
      last_hold f (suc (suc (suc (twice k))))
      ≡ hold_in stretch.Up (ms_until (map legs_of w.up) k) (leg_ms (map legs_of w.up) k)
  pub show : (f : Flight) (w : Routes) → f.steps ≡ steps_of w →
      last_hold f (suc (suc (twice (leg_count (map legs_of w.up))))) ≡ hold_in stretch.Show 0 (lasts w.show)
  pub down : (f : Flight) (w : Routes) → f.steps ≡ steps_of w → (k : ℕ) → k < leg_count (map legs_of w.down) →
      last_hold f (suc (suc (twice (leg_count (map legs_of w.up)) + suc k)))
      ≡ hold_in stretch.Down (ms_until (map legs_of w.down) k) (leg_ms (map legs_of w.down) k)
  -- Who is off there for 300 ms has all land, in the very event of the sample that shows it, or as soon as they may.
  pub lands : (f : Flight) (d : ℕ) (earlier between : List Event) (first last : Sample) →
      IsOffFor f d earlier between first last →
      LandsOrWaits f (after f (start f) (earlier ++ Seen d first ∷ between)) (Seen d last)
