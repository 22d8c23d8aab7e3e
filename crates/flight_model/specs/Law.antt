-- The laws of the flight director: each holds of every flight and every list of events. Kept.antt has one more.
use Rattle.std.specs.Prelude.{◌≡◌, ◌≢◌, ◌⊎◌, ℕ, ◌<◌, ◌≤◌, Bool, true, false, ◌==◌, if◌then◌else◌, List, [], ◌∷◌, ◌++◌}
use Rattle.std.specs.Prelude.{length, map, take, slice_get, Option, Some, None, ℤ, pos, ◌+ℤ◌, ◌-ℤ◌, ◌≤ℤ◌, All, Contains}
use Rattle.std.specs.Prelude.{◌+◌, suc}
use Rattle.std.specs.List.{flat_map, list_any}
use Rattle.flight_model.specs.declared.events.Order.{Order}
use Rattle.flight_model.specs.declared.events.Order.TheVariants as order
use Rattle.flight_model.specs.declared.events.Sample.{Sample}
use Rattle.flight_model.specs.declared.events.Signal.TheVariants as signal
use Rattle.flight_model.specs.declared.events.Event.{Event}
use Rattle.flight_model.specs.declared.events.Event.TheVariants.{Seen, Answered, Said}
use Rattle.flight_model.specs.declared.events.Note.{Note}
use Rattle.flight_model.specs.declared.events.Frame.{Frame}
use Rattle.flight_model.specs.declared.events.Frame.TheVariants.{To, ToAll, Noted, Over}
use Rattle.flight_model.specs.declared.flights.Position.{Position}
use Rattle.flight_model.specs.declared.flights.Condition.{Condition}
use Rattle.flight_model.specs.declared.flights.Step.{Step}
use Rattle.flight_model.specs.declared.flights.Flight.{Flight}
use Rattle.flight_model.specs.Samples.{square}
use Rattle.flight_model.specs.Directors.{Phase, is_off, is_off_hold, next_step, is_silent, all_fit, Steps, Landing, Off, Halted}
use Rattle.flight_model.specs.Directors.{all_answered, are_aloft, awaited}
use Rattle.flight_model.specs.Hears.{MayLand}
use Rattle.flight_model.specs.Rooms.{IsInRoom}
use Rattle.flight_model.specs.Directors.{Ended, Track, State, start, drones, order_in, land_order, landings}
use Rattle.flight_model.specs.Directors.{frames_from, has_risen, heard, notes, is_fault, happens, says, after, sent}

-- ---- only: what a drone is told

-- what a frame tells drone d
abbrev pub told_by : ℕ → Frame → List Order
told_by d (To drone o) = if drone == d then o ∷ [] else []
told_by d (ToAll o) = o ∷ []
told_by d (Noted n) = []
told_by d (Over flown kept) = []

-- what frames tell drone d, in order
abbrev pub orders_to : ℕ → List Frame → List Order
orders_to d frames = flat_map (told_by d) frames

abbrev pub in_step : Option (Option Order) → List Order
in_step None = []
in_step (Some None) = []
in_step (Some (Some o)) = o ∷ []

-- the orders of these steps to drone d, in order
abbrev pub ordered : ℕ → List Step → List Order
ordered d steps = flat_map (λ (step : Step). in_step (order_in step.orders d)) steps

abbrev pub only_if : Bool → Order → List Order
only_if b o = if b then o ∷ [] else []

-- Nothing else and nothing twice: the orders to a drone are those of the first n steps, then possibly the landing, then
-- possibly disarm, then possibly halt.
pub record OnlyOrders (f : Flight) (d : ℕ) (orders : List Order) : Type 0 where
  pub n : ℕ
  pub landed : Bool
  pub disarmed : Bool
  pub halted : Bool
  pub are :
      orders ≡ ordered d (take n f.steps)
      ++ (only_if landed (land_order f) ++ (only_if disarmed order.Disarm ++ only_if halted order.Halt))

abbrev pub OnlyLaw : Type 0
OnlyLaw = (f : Flight) (events : List Event) (d : ℕ) → OnlyOrders f d (orders_to d (sent f (start f) events))

-- ---- due: when a step begins

-- The sample is at most so far from the position, in a straight line: the squares on the three axes add up to at most
-- the square of that.
abbrev pub IsNear : ℕ → Position → Sample → Type 0
IsNear most p x = (square (x.x -ℤ p.x) +ℤ square (x.y -ℤ p.y) +ℤ square (x.z -ℤ p.z)) ≤ℤ square (pos most)

-- The sample says that its drone stands, and it is at most 120 mm above or below this height.
pub record StandsAt (height : ℤ) (x : Sample) : Type 0 where
  pub down : x.down ≡ true
  pub low : x.z ≤ℤ (height +ℤ pos 120)
  pub high : height ≤ℤ (x.z +ℤ pos 120)

-- The sample is fresh and meets the condition: it is within the bound and sure of that, not lost, and ready, armed and
-- down where asked.
pub record IsFit (silence : ℕ) (w : Condition) (x : Sample) : Type 0 where
  pub fresh : x.age ≤ silence
  pub near : IsNear w.bound w.position x
  pub sure : x.sure ≡ true
  pub not_lost : x.lost ≡ false
  pub ready : w.ready ≡ true → x.ready ≡ true
  pub armed : w.armed ≡ true → x.armed ≡ true
  pub down : w.down ≡ true → StandsAt w.position.z x
  pub still : w.down ≡ true → x.flying ≡ false

-- With the event e the next step of the state s may begin: the flight is on its way; the operator says go, where the
-- step waits for that; the step before is over; the drones have settled; each was heard, and meets its condition; and
-- each has answered since the step before began, where the step waits for that.
pub record MayBegin (f : Flight) (s : State) (e : Event) : Type 0 where
  pub flying : s.phase ≡ Steps
  pub step : Step
  pub is_next : slice_get f.steps s.next ≡ Some step
  pub asked : step.asked ≡ true → e ≡ Said signal.Go
  pub time : step.after ≤ (heard f s e).waited
  pub settled : step.settle ≤ (heard f s e).steady
  pub fit : (d : ℕ) (w : Condition) → slice_get step.conditions d ≡ Some w →
      (t : Track) × (x : Sample) × (slice_get (heard f s e).tracks d ≡ Some t) × (t.seen ≡ Some x) × IsFit f.silence w x
  pub answered : step.answered ≡ true → (d : ℕ) (b : Bool) → slice_get (heard f s e).answered d ≡ Some b → b ≡ true

-- the orders that only steps give
pub data IsOnward : Order → Type 0 where
  Arms : IsOnward order.Arm
  Rises : (z : ℤ) (ms : ℕ) → IsOnward (order.Rise z ms)
  Goes : (x y z yaw : ℤ) (ms : ℕ) → IsOnward (order.Go x y z yaw ms)
  Starts : IsOnward order.Start

-- In every state an event that tells a drone to arm, rise, go or start begins a step that may begin; and no other event
-- begins one.
pub record DueLaw : Type 0 where
  pub orders : (f : Flight) (s : State) (e : Event) (d : ℕ) (o : Order) → IsOnward o →
      Contains (orders_to d (says f s e)) o → MayBegin f s e
  pub steps : (f : Flight) (s : State) (e : Event) → ((happens f s e).next ≡ s.next) ⊎ MayBegin f s e

-- ---- land, fault and halt: at once, or as soon as a landing is covered

-- All land: what goes out at the event ends with the landing of each drone that has risen, and the director has left
-- the way.
abbrev pub Lands : Flight → State → Event → Type 0
Lands f s e =
    (says f s e ≡ map Noted (notes f s e) ++ frames_from 0 (landings f s.next)) × ((happens f s e).phase ≡ Landing)

-- Nobody is told anything at the event: the step that began last is flown on, and a landing is wanted from then on. At
-- the first such event people are told so.
pub record Waits (f : Flight) (s : State) (e : Event) : Type 0 where
  pub nothing : (d : ℕ) → orders_to d (says f s e) ≡ []
  pub phase : (happens f s e).phase ≡ Steps
  pub next : (happens f s e).next ≡ s.next
  pub wanted : (happens f s e).wanted ≡ true
  pub noted : s.wanted ≡ false → Contains (says f s e) (Noted (awaited f))

-- All land where they may, in the state that has heard the event, and else it is waited for. Where no windows are
-- listed they always may.
pub record LandsOrWaits (f : Flight) (s : State) (e : Event) : Type 0 where
  pub lands : MayLand f (heard f s e) → Lands f s e
  pub waits : (MayLand f (heard f s e) → ⊥) → Waits f s e

-- disarm or halt
abbrev pub IsLast : Order → Type 0
IsLast o = (o ≡ order.Disarm) ⊎ (o ≡ order.Halt)

pub record LandLaw : Type 0 where
  pub now : (f : Flight) (s : State) → s.phase ≡ Steps → LandsOrWaits f s (Said signal.Land)
  -- off the way a drone is told nothing but disarm and halt, whatever comes
  pub afterwards : (f : Flight) (s : State) → s.phase ≢ Steps → (events : List Event) (d : ℕ) →
      All IsLast (orders_to d (sent f s events))
  -- the landing reaches each drone that has risen
  pub each : (f : Flight) (n d : ℕ) → has_risen f n d ≡ true → d < drones f →
      orders_to d (frames_from 0 (landings f n)) ≡ land_order f ∷ []

abbrev pub FaultLaw : Type 0
FaultLaw =
    (f : Flight) (s : State) (e : Event) → s.phase ≡ Steps → e ≢ Said signal.Stop → is_fault f s e ≡ true →
    LandsOrWaits f s e

-- The operator's stop goes out at once, in every phase before a halt or the end; and after it nothing does.
pub record HaltLaw : Type 0 where
  pub now : (f : Flight) (s : State) → (s.phase ≡ Steps) ⊎ ((s.phase ≡ Landing) ⊎ (s.phase ≡ Off)) →
      (d : ℕ) → orders_to d (says f s (Said signal.Stop)) ≡ order.Halt ∷ []
  pub afterwards : (f : Flight) (s : State) (events : List Event) (d : ℕ) →
      orders_to d (sent f (happens f s (Said signal.Stop)) events) ≡ []

-- ---- over: the end

-- A flight that is said to be flown was flown: all steps have begun, and each drone was told all of them, and nothing
-- else.
abbrev pub OverLaw : Type 0
OverLaw =
    (f : Flight) → 1 ≤ length f.steps → (events : List Event) (kept : Bool) →
    Contains (sent f (start f) events) (Over true kept) →
    (d : ℕ) → orders_to d (sent f (start f) events) ≡ ordered d f.steps

-- ---- quiet: no false alarm

-- the notes of frames
abbrev pub noted_by : Frame → List Note
noted_by (To d o) = []
noted_by (ToAll o) = []
noted_by (Noted n) = n ∷ []
noted_by (Over flown kept) = []

abbrev pub notes_in : List Frame → List Note
notes_in frames = flat_map noted_by frames

-- Nothing is wrong at the event e in the state s: an answer is good; the operator says neither land nor stop; a sample
-- is of a drone that isn't lost, is sure, is where it is told to be, in the show at its curve, and in the room while
-- drones are in the air; no drone is silent;
-- and from `slack` after the end of the step before on, each drone meets its condition for the next one, where that
-- waits for no go, and has answered, where that waits for answers.
pub record IsQuiet (f : Flight) (slack : ℕ) (s : State) (e : Event) : Type 0 where
  pub answer : (d status : ℕ) → e ≡ Answered d status → status ≡ 0
  pub no_land : e ≢ Said signal.Land
  pub no_stop : e ≢ Said signal.Stop
  pub sample : (d : ℕ) (x : Sample) → e ≡ Seen d x →
      (x.lost ≡ false) × (is_off f s d x ≡ false) × (x.sure ≡ true) × (is_off_hold f s d x ≡ false)
      × (are_aloft f s ≡ true → IsInRoom f.room x)
  pub fresh : list_any (λ (t : Track). is_silent f.silence t.seen) (heard f s e).tracks ≡ false
  pub in_time : (step : Step) → next_step f s ≡ Some step → step.asked ≡ false →
      step.after + slack ≤ (heard f s e).waited →
      all_fit f.silence step.conditions (heard f s e).tracks ≡ true
  pub answers : (step : Step) → next_step f s ≡ Some step → step.asked ≡ false →
      step.after + slack ≤ (heard f s e).waited → step.answered ≡ true → all_answered (heard f s e).answered ≡ true

abbrev pub AllQuiet : Flight → ℕ → State → List Event → Type 0
AllQuiet f slack s [] = Unit {0}
AllQuiet f slack s (e ∷ es) = IsQuiet f slack s e × AllQuiet f slack (happens f s e) es

-- on the way, or off, or at the end
abbrev pub is_on_course : Phase → Bool
is_on_course Steps = true
is_on_course Landing = false
is_on_course Off = true
is_on_course Halted = false
is_on_course Ended = true

-- Where nothing is wrong, with a slack of 8 seconds at most, nobody is told of a fault, the flight isn't broken off,
-- the show is kept, and no step is held up: one that waits for no go begins once its time is over and the drones have
-- settled.
pub record QuietLaw : Type 0 where
  pub noted : (f : Flight) (slack : ℕ) (events : List Event) → slack ≤ 8000 → AllQuiet f slack (start f) events →
      notes_in (sent f (start f) events) ≡ []
  pub goes_on : (f : Flight) (slack : ℕ) (events : List Event) → slack ≤ 8000 → AllQuiet f slack (start f) events →
      is_on_course (after f (start f) events).phase ≡ true
  pub kept : (f : Flight) (slack : ℕ) (events : List Event) → slack ≤ 8000 → AllQuiet f slack (start f) events →
      (after f (start f) events).kept ≡ true
  pub prompt : (f : Flight) (slack : ℕ) (events : List Event) (e : Event) (step : Step) → slack ≤ 8000 →
      AllQuiet f slack (start f) (events ++ e ∷ []) →
      (after f (start f) events).phase ≡ Steps → next_step f (after f (start f) events) ≡ Some step →
      step.asked ≡ false →
      step.after + slack + step.settle ≤ (heard f (after f (start f) events) e).waited →
      (after f (start f) (events ++ e ∷ [])).next ≡ suc (after f (start f) events).next
