-- In whose turn each order goes out: what the steps of three ways ask before drones are armed, rise, start, are
-- disarmed or halted. Law.antt says it of the steps of any flight; these laws name the steps.
use Rattle.std.specs.Prelude.{◌≡◌, ◌⊎◌, ℕ, zero, suc, ◌+◌, ◌<◌, ◌≤◌, true, false, List, map, slice_get, Some, ℤ}
use Rattle.std.specs.Prelude.{Contains}
use Rattle.traj_codec.specs.declared.traj.Traj.{Traj}
use Rattle.flight_model.specs.declared.events.Order.TheVariants as order
use Rattle.flight_model.specs.declared.events.Sample.{Sample}
use Rattle.flight_model.specs.declared.events.Signal.TheVariants as signal
use Rattle.flight_model.specs.declared.events.Event.{Event}
use Rattle.flight_model.specs.declared.events.Event.TheVariants.{Said}
use Rattle.flight_model.specs.declared.flights.Flight.{Flight}
use Rattle.flight_model.specs.Legs.{Routes, Leg, legs_of, leg, leg_count, leg_ms, ms_before, lasts, way_begins}
use Rattle.flight_model.specs.Legs.{way_ends, moves, position_of, steps_of}
use Rattle.flight_model.specs.declared.flights.Position.{Position}
use Rattle.flight_model.specs.Directors.{Track, State, Landing, heard, happens, says}
use Rattle.flight_model.specs.Law.{orders_to, IsNear, StandsAt}

-- With the event e this is the last sample of drone d.
pub record IsLastSample (f : Flight) (s : State) (e : Event) (d : ℕ) (x : Sample) : Type 0 where
  pub track : Track
  pub is_track : slice_get (heard f s e).tracks d ≡ Some track
  pub is_sample : track.seen ≡ Some x

-- The drone is ready, and within `near` of its pad: where its way up begins.
pub record MayArm (f : Flight) (w : Routes) (s : State) (e : Event) (d : ℕ) (up : Traj) : Type 0 where
  pub sample : Sample
  pub is_last : IsLastSample f s e d sample
  pub ready : sample.ready ≡ true
  pub near : IsNear w.near (position_of (way_begins up)) sample

-- The drone is armed.
pub record MayRise (f : Flight) (s : State) (e : Event) (d : ℕ) : Type 0 where
  pub sample : Sample
  pub is_last : IsLastSample f s e d sample
  pub armed : sample.armed ≡ true

-- Drone k is armed, and within `at_place` of where its show begins.
pub record IsAtShow (f : Flight) (w : Routes) (s : State) (e : Event) (k : ℕ) (show : Traj) : Type 0 where
  pub sample : Sample
  pub is_last : IsLastSample f s e k sample
  pub armed : sample.armed ≡ true
  pub near : IsNear w.at_place (position_of (way_begins show)) sample

-- The operator says go; the last leg up is over; the drones have been at their places for a second; and each is.
pub record MayStart (f : Flight) (w : Routes) (s : State) (e : Event) : Type 0 where
  pub go : e ≡ Said signal.Go
  pub over : ms_before 0 (map legs_of w.up) (leg_count (map legs_of w.up)) ≤ (heard f s e).waited
  pub settled : 1000 ≤ (heard f s e).steady
  pub each : (k : ℕ) (show : Traj) → slice_get w.show k ≡ Some show → IsAtShow f w s e k show

-- Drone k stands within `near` of its pad, where its way down ends, and doesn't say that it flies.
pub record IsAtPad (f : Flight) (w : Routes) (s : State) (e : Event) (k : ℕ) (down : Traj) : Type 0 where
  pub sample : Sample
  pub is_last : IsLastSample f s e k sample
  pub near : IsNear w.near (position_of (way_ends down)) sample
  pub stands : StandsAt (position_of (way_ends down)).z sample
  pub still : sample.flying ≡ false

-- The last leg down is over; the drones have been at their pads for a second; and each is.
pub record AtPads (f : Flight) (w : Routes) (s : State) (e : Event) : Type 0 where
  pub over : ms_before 0 (map legs_of w.down) (leg_count (map legs_of w.down)) ≤ (heard f s e).waited
  pub settled : 1000 ≤ (heard f s e).steady
  pub each : (k : ℕ) (down : Traj) → slice_get w.down k ≡ Some down → IsAtPad f w s e k down

-- The last sample is fresh, and says that its drone stands, on the floor or at the height of its pad. It doesn't say
-- that the drone flies; or all have stood for five seconds.
pub record IsSeenDown (f : Flight) (stood : ℕ) (down : Traj) (t : Track) : Type 0 where
  pub sample : Sample
  pub is_sample : t.seen ≡ Some sample
  pub fresh : sample.age ≤ f.silence
  pub stands : StandsAt f.floor sample ⊎ StandsAt (position_of (way_ends down)).z sample
  pub still : (sample.flying ≡ false) ⊎ (5000 ≤ stood)

-- All have landed after the flight was broken off: each drone has a pad, and is seen down.
pub record AllDown (f : Flight) (w : Routes) (s : State) (e : Event) : Type 0 where
  pub landing : s.phase ≡ Landing
  pub each : (k : ℕ) (t : Track) → slice_get (heard f s e).tracks k ≡ Some t →
      (down : Traj) × (slice_get w.down k ≡ Some down) × IsSeenDown f (heard f s e).stood down t

-- Drone d is within `bound` of a position.
pub record IsThere (f : Flight) (s : State) (e : Event) (d bound : ℕ) (p : Position) : Type 0 where
  pub sample : Sample
  pub is_last : IsLastSample f s e d sample
  pub near : IsNear bound p sample

-- The drone holds in each leg before leg k.
abbrev pub HoldsUntil : List Leg → ℕ → Type 0
HoldsUntil legs k = (j : ℕ) → j < k → moves (leg legs j) ≡ false

-- How near to where leg k of its way up begins a drone has to be: as near as to its pad while it stands there, and
-- where it has just risen; and as near as to a place in the air once it has moved in an earlier leg.
pub record IsUpBound (w : Routes) (legs : List Leg) (k bound : ℕ) : Type 0 where
  pub on_pad : HoldsUntil legs k → bound ≡ w.near
  -- its first move was the leg before
  pub risen : (j : ℕ) → k ≡ suc j → HoldsUntil legs j → moves (leg legs j) ≡ true → bound ≡ w.near
  pub in_the_air : (j : ℕ) → suc j < k → moves (leg legs j) ≡ true → bound ≡ w.at_place

-- And of its way down: as near as to a place in the air while it moves in that leg or a later one; and once it has
-- landed, as near as to its pad.
pub record IsDownBound (w : Routes) (legs : List Leg) (k bound : ℕ) : Type 0 where
  pub in_the_air : (j : ℕ) → k ≤ j → moves (leg legs j) ≡ true → bound ≡ w.at_place
  pub landed : ((j : ℕ) → k ≤ j → moves (leg legs j) ≡ false) → bound ≡ w.near

-- The leg before leg k lasts so long, and is over; the drones have been at their places for a second; and each is
-- within its bound of where leg k begins.
pub record MayGoOn (f : Flight) (s : State) (e : Event) (ms : ℕ) (ways : List Traj) (k : ℕ)
    (IsBound : List Leg → ℕ → Type 0) : Type 0 where
  pub over : ms ≤ (heard f s e).waited
  pub settled : 1000 ≤ (heard f s e).steady
  pub each : (d : ℕ) (t : Traj) → slice_get ways d ≡ Some t →
      (bound : ℕ) × IsBound (legs_of t) bound × IsThere f s e d bound (position_of (leg (legs_of t) k).from)

abbrev pub twice : ℕ → ℕ
twice zero = 0
twice (suc n) = suc (suc (twice n))

-- In every state, of every flight whose steps are those of three ways.
pub record TurnLaw : Type 0 where
  -- the first step puts drones into the group; the second one begins at the operator's go alone
  pub first : (f : Flight) (w : Routes) → f.steps ≡ steps_of w → (s : State) (e : Event) → s.next ≤ 1 →
      ((happens f s e).next ≤ 1) ⊎ (e ≡ Said signal.Go)
  pub arm : (f : Flight) (w : Routes) → f.steps ≡ steps_of w → (s : State) (e : Event) (d : ℕ) (up : Traj) →
      slice_get w.up d ≡ Some up → Contains (orders_to d (says f s e)) order.Arm → MayArm f w s e d up
  pub rise : (f : Flight) (w : Routes) → f.steps ≡ steps_of w → (s : State) (e : Event) (d : ℕ) (up : Traj) →
      slice_get w.up d ≡ Some up → (z : ℤ) (ms : ℕ) → Contains (orders_to d (says f s e)) (order.Rise z ms) →
      MayRise f s e d
  -- leg k + 1 of the way up has the steps 2 k + 3, which arms, and 2 k + 4
  pub leg_up : (f : Flight) (w : Routes) → f.steps ≡ steps_of w → (s : State) (e : Event) (k : ℕ) →
      suc k < leg_count (map legs_of w.up) → s.next ≡ suc (twice (suc k)) →
      ((happens f s e).next ≡ s.next)
      ⊎ MayGoOn f s e (leg_ms (map legs_of w.up) k) w.up (suc k) (λ legs. IsUpBound w legs (suc k))
  pub start : (f : Flight) (w : Routes) → f.steps ≡ steps_of w → (s : State) (e : Event) (d : ℕ) →
      Contains (orders_to d (says f s e)) order.Start → MayStart f w s e
  -- after n legs up and the start, leg k of the way down has the step 2 n + 2 + k
  pub leg_down : (f : Flight) (w : Routes) → f.steps ≡ steps_of w → (s : State) (e : Event) (k : ℕ) →
      k < leg_count (map legs_of w.down) → s.next ≡ suc (twice (leg_count (map legs_of w.up)) + suc k) →
      ((happens f s e).next ≡ s.next)
      ⊎ MayGoOn f s e (ms_before (lasts w.show) (map legs_of w.down) k) w.down k (λ legs. IsDownBound w legs k)
  -- motors stop where each drone was seen down, or each stands at its pad
  pub disarm : (f : Flight) (w : Routes) → f.steps ≡ steps_of w → (s : State) (e : Event) (d : ℕ) →
      Contains (orders_to d (says f s e)) order.Disarm → AllDown f w s e ⊎ AtPads f w s e
  -- or at the operator's stop
  pub halt : (f : Flight) (w : Routes) → f.steps ≡ steps_of w → (s : State) (e : Event) (d : ℕ) →
      Contains (orders_to d (says f s e)) order.Halt → e ≡ Said signal.Stop
