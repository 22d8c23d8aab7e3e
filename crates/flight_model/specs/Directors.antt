-- The flight director as a function of all that happened to it: its state after a list of events, and what it said.
-- `happens` and `says` at the end of this file are one event; all above them is in the order in which an event passes.
use Rattle.std.specs.Prelude.{ℕ, zero, suc, ◌+◌, ◌-◌, Bool, true, false, not, ◌&&◌, ◌||◌, nat_le, nat_lt, ◌==◌}
use Rattle.std.specs.Prelude.{List, [], ◌∷◌, ◌++◌, length, map, take, slice_get, slice_set, Option, Some, None, min}
use Rattle.std.specs.Prelude.{replicate, if◌then◌else◌}
use Rattle.std.specs.List.{list_any, list_all, range_with_len}
use Rattle.flight_model.specs.declared.events.Order.{Order}
use Rattle.flight_model.specs.declared.events.Order.TheVariants as order
use Rattle.flight_model.specs.declared.events.Sample.{Sample}
use Rattle.flight_model.specs.declared.events.Signal.TheVariants as signal
use Rattle.flight_model.specs.declared.events.Event.{Event}
use Rattle.flight_model.specs.declared.events.Event.TheVariants.{Clock, Seen, Answered, Said}
use Rattle.flight_model.specs.declared.events.Fault.{Fault}
use Rattle.flight_model.specs.declared.events.Fault.TheVariants.{Silent, Astray, Lost, Refused, Late, Unsure, Outside}
use Rattle.flight_model.specs.declared.events.Fault.TheVariants.{Uncovered}
use Rattle.flight_model.specs.declared.events.Note.{Note}
use Rattle.flight_model.specs.declared.events.Frame.{Frame}
use Rattle.flight_model.specs.declared.events.Frame.TheVariants.{To, ToAll, Noted, Over}
use Rattle.flight_model.specs.declared.flights.Condition.{Condition}
use Rattle.flight_model.specs.declared.flights.Orders.{Orders}
use Rattle.flight_model.specs.declared.flights.Orders.TheVariants.{Each, All as ToEach}
use Rattle.flight_model.specs.declared.flights.Hold.{Hold}
use Rattle.flight_model.specs.declared.flights.Step.{Step}
use Rattle.flight_model.specs.declared.flights.Window.{Window}
use Rattle.flight_model.specs.declared.flights.Flight.{Flight}
use Rattle.flight_model.specs.Samples.{is_fit, is_in_stretch, is_kept, stands_at}
use Rattle.flight_model.specs.Rooms.{is_in_room}
pub use Rattle.flight_model.specs.declared.states.Phase.{Phase}
pub use Rattle.flight_model.specs.declared.states.Phase.TheVariants.{Steps, Landing, Off, Halted, Ended}
pub use Rattle.flight_model.specs.declared.states.Track.{Track}
pub use Rattle.flight_model.specs.declared.states.Choice.{Choice}
pub use Rattle.flight_model.specs.declared.states.Choice.TheVariants.{Rest, Begin, Descend, Wait, Cut, Quit, Finish}

-- ---- the state

-- What the director knows.
pub record State : Type 0 where
  pub phase : Phase
  -- how many steps have begun
  pub next : ℕ
  -- how long ago the last of them did, or the phase
  pub waited : ℕ
  -- for how long the drones have met the conditions of the next step
  pub steady : ℕ
  -- for how long all drones have stood on the floor or on their pads
  pub stood : ℕ
  -- the last step was the start
  pub showing : Bool
  -- nothing has harmed the show
  pub kept : Bool
  -- all that have risen are to land, and no window has covered that yet
  pub wanted : Bool
  pub tracks : List Track
  -- by drone, whether it has answered with 0 since the last step began
  pub answered : List Bool

-- how many drones fly
abbrev pub drones : Flight → ℕ
drones f = length f.curves

-- a flight to which nothing has happened
abbrev pub start : Flight → State
start f = record {
  phase = Steps;
  next = 0;
  waited = 0;
  steady = 0;
  stood = 0;
  showing = false;
  kept = true;
  wanted = false;
  tracks = replicate (drones f) (record { seen = None; off = None; unsure = None; outside = false });
  answered = replicate (drones f) false;
}

-- times are counted up to twelve days
abbrev pub most_ms : ℕ
most_ms = 1000000000

-- a time, and more of it
abbrev pub later : ℕ → ℕ → ℕ
later ms more = min (ms + more) most_ms

-- ---- who is in the air

-- the order to drone d, if these say anything of it
abbrev pub order_in : Orders → ℕ → Option (Option Order)
order_in (Each orders) d = slice_get orders d
order_in (ToEach o) d = Some (Some o)

abbrev pub is_rise : Option (Option Order) → Bool
is_rise (Some (Some (order.Rise z ms))) = true
is_rise o = false

-- drone d was told to rise in the first n steps
abbrev pub has_risen : Flight → ℕ → ℕ → Bool
has_risen f n d = list_any (λ (step : Step). is_rise (order_in step.orders d)) (take n f.steps)

-- some drone was
abbrev pub any_risen : Flight → ℕ → Bool
any_risen f n = list_any (λ d. has_risen f n d) (range_with_len 0 (drones f))

abbrev pub is_airborne : Phase → Bool
is_airborne Steps = true
is_airborne Landing = true
is_airborne p = false

-- Drones are in the air: on their way or while they land, once one of them was told to rise.
abbrev pub are_aloft : Flight → State → Bool
are_aloft f s = is_airborne s.phase && any_risen f s.next

-- the sample comes while drones are in the air, and is outside of the flight's room
abbrev pub is_outside : Flight → State → Sample → Bool
is_outside f s x = are_aloft f s && not (is_in_room f.room x)

-- ---- who hears of a landing, and when it is covered

-- A drone may be deaf to an order if its last sample is older than 300 ms, or if there is none.
abbrev pub may_be_deaf : Option Sample → Bool
may_be_deaf None = true
may_be_deaf (Some x) = nat_lt 300 x.age

abbrev pub one_if : Bool → ℕ → List ℕ
one_if b d = if b then d ∷ [] else []

-- the drones that were told to rise in the first n steps and may be deaf, from drone d on
abbrev pub deaf_from : Flight → (n d : ℕ) → List Track → List ℕ
deaf_from f n d [] = []
deaf_from f n d (t ∷ ts) = one_if (has_risen f n d && may_be_deaf t.seen) d ++ deaf_from f n (suc d) ts

-- the same drone, or none both times
abbrev pub is_same : Option ℕ → Option ℕ → Bool
is_same None None = true
is_same None (Some k) = false
is_same (Some d) None = false
is_same (Some d) (Some k) = d == k

-- the window covers a landing `ms` after step n, with this drone deaf or none
abbrev pub is_window : ℕ → ℕ → Option ℕ → Window → Bool
is_window n ms deaf w = w.step == n && nat_le w.from ms && nat_le ms w.to && is_same w.deaf deaf

abbrev pub has_window : List Window → ℕ → ℕ → Option ℕ → Bool
has_window ws n ms deaf = list_any (λ (w : Window). is_window n ms deaf w) ws

-- Who may be deaf may also hear: a window has to cover that all do, and for each of these drones another one that it
-- doesn't. Hears.antt says why that is enough for any number of them.
abbrev pub is_covered : List Window → ℕ → ℕ → List ℕ → Bool
is_covered ws n ms deaf = has_window ws n ms None && list_all (λ (d : ℕ). has_window ws n ms (Some d)) deaf

abbrev pub covers : Option (List Window) → Flight → State → Bool
covers None f s = true
covers (Some ws) f s = is_covered ws s.next s.waited (deaf_from f s.next 0 s.tracks)

-- All that have risen may land now: nobody has, or no windows are listed, or they cover it.
unfoldable pub may_land : Flight → State → Bool
may_land f s = not (any_risen f s.next) || covers f.windows f s

abbrev pub are_listed : Option (List Window) → Bool
are_listed None = false
are_listed (Some ws) = true

-- a landing waits for a window
abbrev pub awaits : Flight → State → Bool
awaits f s = s.wanted && are_listed f.windows

-- ---- an event is heard

-- a sample, after some time
abbrev pub older : ℕ → Option Sample → Option Sample
older ms None = None
older ms (Some x) = Some (record x { age = later x.age ms })

abbrev pub aged : ℕ → Track → Track
aged ms t = record t { seen = older ms t.seen }

-- the sample was taken in the show: its instant there is `waited` less its age
abbrev pub in_show : Flight → State → Sample → Bool
in_show f s x = s.showing && nat_le x.age s.waited && nat_le (s.waited - x.age) f.show_ms

-- the sample was taken in the show, and off the drone's curve
abbrev pub is_off : Flight → State → ℕ → Sample → Bool
is_off f s d x = in_show f s x && not (is_kept f d (s.waited - x.age) x)

-- the sample was taken in the show, and isn't sure of where its drone was
abbrev pub is_doubtful : Flight → State → Sample → Bool
is_doubtful f s x = in_show f s x && not x.sure

abbrev pub is_flying : Phase → Bool
is_flying Steps = true
is_flying p = false

abbrev pub held_by : Option Step → Option Hold
held_by None = None
held_by (Some step) = step.holds

-- where drones are told to be after n steps, if anywhere
abbrev pub last_hold : Flight → ℕ → Option Hold
last_hold f zero = None
last_hold f (suc n) = held_by (slice_get f.steps n)

-- The sample, taken `ms` after the step, is where drone d is told to be: as far along the curve as time has passed, and
-- at most to where that ends.
abbrev pub keeps_hold : Flight → ℕ → Option Hold → ℕ → Sample → Bool
keeps_hold f d None ms x = true
keeps_hold f d (Some h) ms x = is_in_stretch f d h.stretch (later h.from (min ms h.ms)) x

-- on the way the sample was taken after the last step, and off where its drone is told to be
abbrev pub is_off_hold : Flight → State → ℕ → Sample → Bool
is_off_hold f s d x =
    is_flying s.phase && nat_le x.age s.waited && not (keeps_hold f d (last_hold f s.next) (s.waited - x.age) x)

-- for how long samples have been off, or unsure, with this one after the last
abbrev pub off_with : Option ℕ → Option Sample → Sample → ℕ
off_with (Some ms) (Some last) x = later ms (last.age - x.age)
off_with off last x = 0

-- what is known of a drone with this sample after the others
abbrev pub track_with : Flight → State → ℕ → Track → Sample → Track
track_with f s d t x = record {
  seen = Some x;
  off = if is_off_hold f s d x then Some (off_with t.off t.seen x) else None;
  unsure = if x.sure then None else Some (off_with t.unsure t.seen x);
  outside = is_outside f s x;
}

abbrev pub tracked : Flight → State → ℕ → Sample → Option Track → List Track
tracked f s d x None = s.tracks
tracked f s d x (Some t) = slice_set s.tracks d (track_with f s d t x)

-- what is known of each drone after an event
unfoldable pub tracks_after : Flight → State → Event → List Track
tracks_after f s (Clock ms) = map (aged ms) s.tracks
tracks_after f s (Seen d x) = tracked f s d x (slice_get s.tracks d)
tracks_after f s (Answered d status) = s.tracks
tracks_after f s (Said w) = s.tracks

-- who has answered, after an event: a drone that obeys answers with 0
abbrev pub answered_after : List Bool → Event → List Bool
answered_after answered (Clock ms) = answered
answered_after answered (Seen d x) = answered
answered_after answered (Answered d status) = if status == 0 then slice_set answered d true else answered
answered_after answered (Said w) = answered

-- each has answered
abbrev pub all_answered : List Bool → Bool
all_answered answered = list_all (λ (b : Bool). b) answered

-- how much time an event says has passed
abbrev pub passed : Event → ℕ
passed (Clock ms) = ms
passed (Seen d x) = 0
passed (Answered d status) = 0
passed (Said w) = 0

-- each drone meets its condition; a drone of which nothing is known doesn't
abbrev pub all_fit : ℕ → List Condition → List Track → Bool
all_fit silence [] tracks = true
all_fit silence (w ∷ ws) [] = false
all_fit silence (w ∷ ws) (t ∷ ts) = is_fit silence w t.seen && all_fit silence ws ts

-- there is a next step, and each drone meets its condition
abbrev pub fits : ℕ → Option Step → List Track → Bool
fits silence None tracks = false
fits silence (Some step) tracks = all_fit silence step.conditions tracks

abbrev pub next_step : Flight → State → Option Step
next_step f s = slice_get f.steps s.next

-- A drone is silent once its last sample is older than `silence`. Before its first sample it isn't: a step doesn't
-- begin without one.
abbrev pub is_silent : ℕ → Option Sample → Bool
is_silent silence None = false
is_silent silence (Some x) = nat_lt silence x.age

-- the last step: the positions of its conditions are the drones' pads
abbrev pub end_step : Flight → Option Step
end_step f = slice_get f.steps (length f.steps - 1)

-- A drone is down if its last sample is fresh, and says that it stands, on the floor or at the height of its pad; and
-- where it has to be still, only if that doesn't say that it flies.
abbrev pub is_down : Flight → Bool → Condition → Option Sample → Bool
is_down f still w None = false
is_down f still w (Some x) =
    nat_le x.age f.silence && (stands_at f.floor x || stands_at w.position.z x) && (not still || not x.flying)

-- each drone is down; one that has no pad isn't
abbrev pub all_down : Flight → Bool → List Condition → List Track → Bool
all_down f still ws [] = true
all_down f still [] (t ∷ ts) = false
all_down f still (w ∷ ws) (t ∷ ts) = is_down f still w t.seen && all_down f still ws ts

abbrev pub are_down : Flight → Bool → Option Step → List Track → Bool
are_down f still None tracks = false
are_down f still (Some step) tracks = all_down f still step.conditions tracks

-- what harms a show: a sample off its curve or unsure, or a drone that becomes silent before the show's end
abbrev pub harms : Flight → State → Event → Bool
harms f s (Clock ms) =
    s.showing && nat_lt s.waited f.show_ms
    && list_any (λ (t : Track). is_silent f.silence (older (min ms (f.show_ms - s.waited)) t.seen)) s.tracks
harms f s (Seen d x) = is_off f s d x || is_doubtful f s x
harms f s (Answered d status) = false
harms f s (Said w) = false

-- the state that has heard an event, and has done nothing yet; these are its tracks
abbrev pub heard_with : Flight → State → Event → List Track → State
heard_with f s e tracks = record s {
  waited = later s.waited (passed e);
  steady = if fits f.silence (next_step f s) tracks then later s.steady (passed e) else 0;
  stood = if are_down f false (end_step f) tracks then later s.stood (passed e) else 0;
  kept = s.kept && not (harms f s e);
  tracks = tracks;
  answered = answered_after s.answered e;
}

unfoldable pub heard : Flight → State → Event → State
heard f s e = heard_with f s e (tracks_after f s e)

-- ---- faults, of which people are told

abbrev pub note_if : Bool → ℕ → Fault → List Note
note_if b d fault = if b then record { drone = d; fault = fault } ∷ [] else []

-- a drone falls silent while this time passes
abbrev pub falls_silent : ℕ → ℕ → Option Sample → Bool
falls_silent silence ms seen = not (is_silent silence seen) && is_silent silence (older ms seen)

abbrev pub silent_from : ℕ → ℕ → ℕ → List Track → List Note
silent_from silence ms d [] = []
silent_from silence ms d (t ∷ ts) =
    note_if (falls_silent silence ms t.seen) d Silent ++ silent_from silence ms (suc d) ts

abbrev pub is_lost : Option Sample → Bool
is_lost None = false
is_lost (Some x) = x.lost

-- samples have been off, or unsure, for 300 ms
abbrev pub is_astray : Option ℕ → Bool
is_astray None = false
is_astray (Some ms) = nat_le 300 ms

-- a drone becomes lost, astray or unsure with a sample, or leaves the room: its track before and after it
abbrev pub sample_notes : ℕ → Track → Track → List Note
sample_notes d t u =
    note_if (not (is_lost t.seen) && is_lost u.seen) d Lost
    ++ (note_if (not (is_astray t.off) && is_astray u.off) d Astray
    ++ (note_if (not (is_astray t.unsure) && is_astray u.unsure) d Unsure
    ++ note_if (not t.outside && u.outside) d Outside))

abbrev pub seen_notes : Flight → State → ℕ → Sample → Option Track → List Note
seen_notes f s d x None = []
seen_notes f s d x (Some t) = sample_notes d t (track_with f s d t x)

-- the faults that an event itself shows
abbrev pub noticed : Flight → State → Event → List Note
noticed f s (Clock ms) = silent_from f.silence ms 0 s.tracks
noticed f s (Seen d x) = seen_notes f s d x (slice_get s.tracks d)
noticed f s (Answered d status) = note_if (not (status == 0)) d Refused
noticed f s (Said w) = []

-- ---- when a step begins

abbrev pub is_go : Event → Bool
is_go (Said signal.Go) = true
is_go e = false

abbrev pub is_land : Event → Bool
is_land (Said signal.Land) = true
is_land e = false

abbrev pub is_stop : Event → Bool
is_stop (Said signal.Stop) = true
is_stop e = false

-- With this event, which the state has heard, the step is due: the operator says go, where the step waits for that; the
-- step before is over; the drones have met the conditions for as long as they have to settle; each meets its own; and
-- each has answered since the step before began, where the step waits for that.
abbrev pub is_due_step : Flight → State → Event → Option Step → Bool
is_due_step f s e None = false
is_due_step f s e (Some step) =
    (not step.asked || is_go e) && nat_le step.after s.waited && nat_le step.settle s.steady
    && all_fit f.silence step.conditions s.tracks && (not step.answered || all_answered s.answered)

unfoldable pub is_due : Flight → State → Event → Bool
is_due f s e = is_due_step f s e (next_step f s)

-- the step waits for no go, and its time was over 8 seconds ago
abbrev pub is_late_step : State → Option Step → Bool
is_late_step s None = false
is_late_step s (Some step) = not step.asked && nat_le (step.after + step.settle + 8000) s.waited

-- the first drone that doesn't meet its condition
abbrev pub first_unfit : ℕ → ℕ → List Condition → List Track → ℕ
first_unfit silence d [] tracks = d
first_unfit silence d (w ∷ ws) [] = d
first_unfit silence d (w ∷ ws) (t ∷ ts) = if is_fit silence w t.seen then first_unfit silence (suc d) ws ts else d

abbrev pub unfit_in : Flight → State → Option Step → ℕ
unfit_in f s None = 0
unfit_in f s (Some step) = first_unfit f.silence 0 step.conditions s.tracks

-- the next step is late, for the sake of this drone; none is where a landing waits
abbrev pub overdue : Flight → State → Event → List Note
overdue f s e =
    note_if (is_flying s.phase && not (awaits f s) && not (is_due f s e) && is_late_step s (next_step f s))
    (unfit_in f s (next_step f s)) Late

-- all notes of an event
unfoldable pub notes : Flight → State → Event → List Note
notes f s e = noticed f s e ++ overdue f (heard f s e) e

-- A grave fault ends the flight. Silence never is one: a silent drone flies its show on, which was proved to be apart
-- from all others. In a show that flies on neither is a drone that is lost, astray, unsure or outside of the room.
abbrev pub is_grave : Flight → State → Fault → Bool
is_grave f s Silent = false
is_grave f s Astray = not (s.showing && f.flies_on)
is_grave f s Lost = not (s.showing && f.flies_on)
is_grave f s Refused = true
is_grave f s Late = true
is_grave f s Unsure = not (s.showing && f.flies_on)
is_grave f s Outside = not (s.showing && f.flies_on)
is_grave f s Uncovered = false

unfoldable pub is_fault : Flight → State → Event → Bool
is_fault f s e = list_any (λ (n : Note). is_grave f s n.fault) (notes f s e)

-- ---- what is done

abbrev pub is_disarmed : Option Sample → Bool
is_disarmed None = false
is_disarmed (Some x) = not x.armed

-- each drone has been seen so in a fresh sample
abbrev pub all_seen : ℕ → (Option Sample → Bool) → List Track → Bool
all_seen silence p tracks = list_all (λ (t : Track). p t.seen && not (is_silent silence t.seen)) tracks

-- A landing is over where each drone is down and none says that it flies; or where all have been down for five seconds,
-- whatever they say of flying.
abbrev pub has_landed : Flight → State → Bool
has_landed f s = are_down f true (end_step f) s.tracks || nat_le 5000 s.stood

-- each is seen disarmed, or five seconds are over
abbrev pub is_over : Flight → State → Bool
is_over f s = all_seen f.silence is_disarmed s.tracks || nat_le 5000 s.waited

-- a landing is wanted: it goes out where it is covered, and else is waited for
abbrev pub on_landing : Flight → State → Choice
on_landing f s = if may_land f s then Descend else (if s.wanted then Rest else Wait)

-- On the way, in a state that has heard e; `fault` says whether there was a grave fault. While a landing is wanted no
-- step begins: the one that is flown is flown to its end.
abbrev pub on_the_way : Flight → State → Event → Bool → Choice
on_the_way f s e fault =
    if is_stop e then Cut
    else (if s.wanted || (is_land e || fault) then on_landing f s
    else (if is_due f s e then Begin else Rest))

-- and in each phase
abbrev pub chosen : Flight → State → Event → Bool → Phase → Choice
chosen f s e fault Steps = on_the_way f s e fault
chosen f s e fault Landing = if is_stop e then Cut else (if has_landed f s then Quit else Rest)
chosen f s e fault Off = if is_stop e then Cut else (if is_over f s then Finish else Rest)
chosen f s e fault Halted = if is_over f s then Finish else Rest
chosen f s e fault Ended = Rest

unfoldable pub choice : Flight → State → Event → Choice
choice f s e = chosen f (heard f s e) e (is_fault f s e) s.phase

-- ---- what is said

-- people are told that a landing is waited for: a note of no drone
abbrev pub awaited : Flight → Note
awaited f = record { drone = drones f; fault = Uncovered }

-- orders by drone, from drone d on
abbrev pub frames_from : ℕ → List (Option Order) → List Frame
frames_from d [] = []
frames_from d (None ∷ orders) = frames_from (suc d) orders
frames_from d (Some o ∷ orders) = To d o ∷ frames_from (suc d) orders

abbrev pub frames_of : Orders → List Frame
frames_of (Each orders) = frames_from 0 orders
frames_of (ToEach o) = ToAll o ∷ []

abbrev pub frames_of_step : Option Step → List Frame
frames_of_step None = []
frames_of_step (Some step) = frames_of step.orders

-- the landing where drones are: straight down, all at one height in one time, so who is above stays above
abbrev pub land_order : Flight → Order
land_order f = order.Land f.floor f.descent

abbrev pub landings : Flight → ℕ → List (Option Order)
landings f n = map (λ d. if has_risen f n d then Some (land_order f) else None) (range_with_len 0 (drones f))

abbrev pub is_off_phase : Phase → Bool
is_off_phase Off = true
is_off_phase p = false

-- all steps have begun, and nothing broke the flight off
abbrev pub is_flown : Flight → State → Bool
is_flown f s = is_off_phase s.phase && s.next == length f.steps

unfoldable pub done : Flight → State → Choice → List Frame
done f s Rest = []
done f s Begin = frames_of_step (next_step f s)
done f s Descend = frames_from 0 (landings f s.next)
done f s Wait = Noted (awaited f) ∷ []
done f s Cut = ToAll order.Halt ∷ []
done f s Quit = ToAll order.Disarm ∷ []
done f s Finish = Over (is_flown f s) (is_flown f s && s.kept) ∷ []

-- ---- where that leads

-- they start the show
abbrev pub starts_with : Orders → Bool
starts_with (ToEach order.Start) = true
starts_with d = false

abbrev pub starts : Option Step → Bool
starts None = false
starts (Some step) = starts_with step.orders

-- a new phase
abbrev pub into : State → Phase → State
into s p = record s { phase = p; waited = 0; steady = 0; stood = 0; showing = false; wanted = false }

-- from a step on answers are waited for anew
abbrev pub unanswered : List Bool → List Bool
unanswered answered = map (λ (b : Bool). false) answered

-- from a step on what is off, unsure or outside is counted anew
abbrev pub renewed : Track → Track
renewed t = record t { off = None; unsure = None; outside = false }

unfoldable pub led : Flight → State → Choice → State
led f s Rest = s
led f s Begin = record s {
  phase = if suc s.next == length f.steps then Off else Steps;
  next = suc s.next;
  waited = 0;
  steady = 0;
  showing = starts (next_step f s);
  tracks = map renewed s.tracks;
  answered = unanswered s.answered;
}
led f s Descend = into s Landing
led f s Wait = record s { wanted = true }
led f s Cut = into s Halted
led f s Quit = into s Off
led f s Finish = into s Ended

-- ---- one event, and all of a list

-- the state after the event
unfoldable pub happens : Flight → State → Event → State
happens f s e = led f (heard f s e) (choice f s e)

-- what is said at the event: its faults, and then what is done
unfoldable pub says : Flight → State → Event → List Frame
says f s e = map Noted (notes f s e) ++ done f (heard f s e) (choice f s e)

-- the state after all of these events, and all that was said
abbrev pub after : Flight → State → List Event → State
after f s [] = s
after f s (e ∷ es) = after f (happens f s e) es

abbrev pub sent : Flight → State → List Event → List Frame
sent f s [] = []
sent f s (e ∷ es) = says f s e ++ sent f (happens f s e) es
