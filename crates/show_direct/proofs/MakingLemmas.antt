-- A flight that is made of three shows that fit.
use Rattle.show_direct.proofs.Prelude.{◌≡◌, ℕ, ◌*◌, ◌≤◌, ℤ, min, max, not, List, [], ◌∷◌, ◌++◌, ◌+◌, length, map, Option, Some, None, Result, Ok, Err, refl, sym, ap, subst, inl, inr, ◌∙◌, arith, length-map, All-cons, All-head, All-nil, All-tail, All-weaker, sum_by-cons, sum, All, Name, PlainShow, JoinLaw, joined, durations, Segment, Traj, Flight, Routes, lasts, steps_of, fault-of, FlightFault, StepsError, Crew, Crews, Ways, StepsGive, flight_fault, AreFitted, routes, IsFitted, IsValidFitted, names_of, FlightOptions, course_of, ellipsoid_in, ellipsoid_of, fault_of, flight_of, most_silence, order_ms, room_in, room_mm, routes_of, FlightMade, StepsMade}
use Rattle.choreo_show.specs.declared.show.Settings.{Settings}
use Rattle.integer_player.specs.Played.{duration_of}
use Rattle.traj_codec.specs.Spelling.{IsSegment, IsTrajectory}
use Rattle.flight_model.specs.declared.flights.Condition.{Condition}
use Rattle.flight_model.specs.declared.flights.Course.{Course}
use Rattle.flight_model.specs.declared.flights.Room.{Room}
use Rattle.flight_model.specs.declared.flights.Orders.{Orders}
use Rattle.flight_model.specs.declared.flights.Orders.TheVariants.{Each, All as ToEach}
use Rattle.flight_model.specs.declared.flights.Step.{Step}
use Rattle.flight_model.specs.Rooms.{room_of}
use Rattle.flight_director.specs.Held.{AreFew, IsCourse, IsHeld}
use Rattle.flight_steps.specs.declared.faults.StepsError.TheVariants as error
use Rattle.flight_steps.specs.Faults as faults
use Rattle.flight_steps.specs.Sizes.{AreConditionsOf, AreOrdersOf, IsStepOf}
use Rattle.show_plan.specs.declared.fitted.Fitted.{Fitted}
use Rattle.show_plan.specs.Landing.{AreUploadable}

-- ---- steps

-- a flight has no cause against it
no_fault : (c : Crews) (w : Routes) (why : Option FlightFault) → flight_fault c w ≡ why → faults.AreFlight c w → why ≡ None
no_fault c w None is flight = refl
no_fault c w (Some f) is flight = absurd ((fault-of c w f is).none flight)

-- a crew is the drones of a show
pub record IsCrewOf (s : PlainShow) (c : Crew) : Type 0 where
  pub names : c.names.now ≡ names_of s
  pub ellipsoid : c.ellipsoid ≡ ellipsoid_of s

fault_is : (o : FlightOptions) (u s d : PlainShow) (c : Crews) (w : Routes) → IsCrewOf u c.up → IsCrewOf s c.show → IsCrewOf d c.down → w ≡ routes_of o u s d →
    flight_fault c w ≡ fault_of o u s d
fault_is o u s d c w up show down same = rw (up.names, show.names, down.names, up.ellipsoid, show.ellipsoid, down.ellipsoid, same) refl

-- the steps of fitted shows are those of the shows
pub steps_made : (o : FlightOptions) (u s d : PlainShow) (c : Crews) (w : Routes) (result : Result (List Step) StepsError) → IsCrewOf u c.up → IsCrewOf s c.show → IsCrewOf d c.down →
    w ≡ routes_of o u s d → StepsGive c w result → StepsMade o u s d result
steps_made o u s d c w (Ok steps) up show down same gives =
    (gives.steps ∙ ap (λ (r : Routes). steps_of r) same, sym (fault_is o u s d c w up show down same) ∙ no_fault c w (flight_fault c w) refl gives.flight)
steps_made o u s d c w (Err (error.Fault f)) up show down same gives = sym (fault_is o u s d c w up show down same) ∙ gives.first
steps_made o u s d c w (Err error.Memory) up show down same gives = tt

-- ---- times

-- segments last at most 65,535 milliseconds each
sum_short : (segments : List Segment) → All IsSegment segments → sum (durations segments) ≤ 65535 * length segments
sum_short [] all = omega arith
sum_short (s ∷ segments) all =
    omega (arith, sum_by-cons (λ (n : ℕ). n) s.ms (durations segments), (All-head IsSegment s segments all).short, sum_short segments (All-tail IsSegment s segments all))

-- cues of as many milliseconds as the segments of trajectories
abbrev HasTimes : List ℕ → Traj → Type 0
HasTimes times t = durations t.segments ≡ times

total_short : (times : List ℕ) (ts : List Traj) → 1 ≤ length ts → All (HasTimes times) ts → All IsTrajectory ts → length times ≤ 1000 → sum times ≤ 1000000000
total_short times [] some lasting formed few = absurd (omega (arith, some))
total_short times (t ∷ ts) some lasting formed few =
    let is = All-head (HasTimes times) t ts lasting in
    let each = sum_short t.segments (All-head IsTrajectory t ts formed).segments in
    omega (arith, each, few, ap (λ (xs : List ℕ). sum xs) is, ap (λ (xs : List ℕ). length xs) is, length-map t.segments (λ (s : Segment). s.ms))

lasts_as : (times : List ℕ) (ts : List Traj) → 1 ≤ length ts → All (HasTimes times) ts → lasts ts ≡ sum times
lasts_as times [] some lasting = absurd (omega (arith, some))
lasts_as times (t ∷ ts) some lasting = ap (λ (xs : List ℕ). sum xs) (All-head (HasTimes times) t ts lasting)

-- what is sent lasts as long as the cues
sent_lasts : JoinLaw → (times : List ℕ) (total : ℕ) → sum times ≡ total → (ts : List Traj) → All (HasTimes times) ts → All (λ (t : Traj). duration_of t ≡ total) (map joined ts)
sent_lasts law times total is [] lasting = All-nil (λ (t : Traj). duration_of t ≡ total)
sent_lasts law times total is (t ∷ ts) lasting =
    All-cons (λ (t : Traj). duration_of t ≡ total) (joined t) (map joined ts)
    (law.lasts t ∙ ap (λ (ms : List ℕ). sum ms) (All-head (HasTimes times) t ts lasting) ∙ is)
    (sent_lasts law times total is ts (All-tail (HasTimes times) t ts lasting))

some_trajs : (f : Fitted) → IsValidFitted f → 1 ≤ length f.trajs
some_trajs f valid = omega (arith, valid.some_drone, valid.trajs_counted)

-- a fitted show says how long its trajectories last
pub fitted_lasts : (f : Fitted) → IsValidFitted f → lasts f.trajs ≡ f.duration
fitted_lasts f valid = lasts_as valid.times f.trajs (some_trajs f valid) valid.same_times ∙ valid.duration

-- what the ways of fitted shows are
routes_is : (o : FlightOptions) (up show down : Fitted) (u s d : PlainShow) (w : Ways) → w.up.now ≡ up.trajs → w.show.now ≡ show.trajs → w.down.now ≡ down.trajs → w.stray ≡ up.settings.stray →
    w.near ≡ o.near → w.at_place ≡ o.at_place → IsFitted up u → IsFitted show s → IsFitted down d → routes w ≡ routes_of o u s d
routes_is o up show down u s d w e_up e_show e_down stray near at_place is_up is_show is_down =
    rw (e_up, e_show, e_down, stray, near, at_place, is_up.trajs, is_show.trajs, is_down.trajs, is_up.settings) refl

-- the shows' trajectories are counted as their names
pub are_fitted : (up show down : Fitted) (c : Crews) (w : Ways) → IsValidFitted up → IsValidFitted show → IsValidFitted down → c.up.names.now ≡ up.names → c.show.names.now ≡ show.names → c.down.names.now ≡ down.names →
    w.up.now ≡ up.trajs → w.show.now ≡ show.trajs → w.down.now ≡ down.trajs → w.show_ms ≡ show.duration → AreFitted c w
are_fitted up show down c w valid_up valid_show valid_down n_up n_show n_down t_up t_show t_down ms = record {
  up = ap (λ (ts : List Traj). length ts) t_up ∙ valid_up.trajs_counted ∙ sym (ap (λ (ns : List Name). length ns) n_up);
  show = ap (λ (ts : List Traj). length ts) t_show ∙ valid_show.trajs_counted ∙ sym (ap (λ (ns : List Name). length ns) n_show);
  down = ap (λ (ts : List Traj). length ts) t_down ∙ valid_down.trajs_counted ∙ sym (ap (λ (ns : List Name). length ns) n_down);
  duration = ap lasts t_show ∙ fitted_lasts show valid_show ∙ sym ms;
}

-- a crew is the drones of a fitted show
pub record IsCrewIn (f : Fitted) (c : Crew) : Type 0 where
  pub names : c.names.now ≡ f.names
  pub ellipsoid : c.ellipsoid ≡ ellipsoid_in f.settings

crew_is : (f : Fitted) (s : PlainShow) (c : Crew) → IsFitted f s → IsCrewIn f c → IsCrewOf s c
crew_is f s c is crew = record { names = crew.names ∙ is.names; ellipsoid = crew.ellipsoid ∙ ap ellipsoid_in is.settings }

-- the steps of fitted shows
pub steps_fitted : (o : FlightOptions) (up show down : Fitted) (u s d : PlainShow) (c : Crews) (w : Ways) (result : Result (List Step) StepsError) → IsFitted up u → IsFitted show s → IsFitted down d →
    IsCrewIn up c.up → IsCrewIn show c.show → IsCrewIn down c.down → w.up.now ≡ up.trajs → w.show.now ≡ show.trajs → w.down.now ≡ down.trajs → w.stray ≡ up.settings.stray →
    w.near ≡ o.near → w.at_place ≡ o.at_place → StepsGive c (routes w) result → StepsMade o u s d result
steps_fitted o up show down u s d c w result is_up is_show is_down n_up n_show n_down t_up t_show t_down stray near at_place gives =
    steps_made o u s d c (routes w) result (crew_is up u c.up is_up n_up) (crew_is show s c.show is_show n_show) (crew_is down d c.down is_down n_down)
    (routes_is o up show down u s d w t_up t_show t_down stray near at_place is_up is_show is_down) gives

-- ---- the flight

-- a way's curves, with what its settings say, and a lateness
abbrev pub course_from : List Traj → ℕ → Settings → ℕ → Course
course_from curves ms e late = record { curves = curves; ms = ms; stray = e.stray; late = late }

-- those of a fitted show are the show's
pub course_is : (f : Fitted) (s : PlainShow) (late : ℕ) → late ≡ max f.settings.late order_ms → IsValidFitted f → IsFitted f s → course_from f.sent f.duration f.settings late ≡ course_of s
course_is f s late most valid is = rw (most, sym (fitted_lasts f valid), is.sent, is.trajs, is.settings) refl

-- and may be played
pub course_held : JoinLaw → (f : Fitted) (late : ℕ) → IsValidFitted f → AreUploadable f.settings f.sent → IsCourse (course_from f.sent f.duration f.settings late)
course_held law f late valid up =
    let total = total_short valid.times f.trajs (some_trajs f valid) valid.same_times valid.formed (omega (arith, valid.times_counted, valid.few_cues)) in
    let lasting : All (λ (t : Traj). duration_of t ≡ f.duration) f.sent =
    subst (All (λ (t : Traj). duration_of t ≡ f.duration)) (sym valid.sent) (sent_lasts law valid.times f.duration valid.duration f.trajs valid.same_times) in
    record {
      short = omega (arith, total, valid.duration);
      curves = λ k t inside. record {
        playable = record { some = up.segments k t inside; few = (up.sendable k t inside).few; durations = (up.sendable k t inside).last };
        lasts = omega (arith, lasting k t inside);
      };
    }

-- the flight of these steps and this show
abbrev pub made_of : FlightOptions → ℤ → ℕ → List Step → List Traj → ℕ → Settings → Course → Course → Room → Flight
made_of o floor silence steps curves ms e up down room = record {
  steps = steps;
  curves = curves;
  show_ms = ms;
  stray = e.stray;
  late = e.late;
  up = up;
  down = down;
  room = room;
  silence = silence;
  flies_on = not o.then_land;
  floor = floor;
  descent = o.descent;
  windows = None;
}

flight_is : (o : FlightOptions) (floor : ℤ) (silence : ℕ) (u s d : PlainShow) (f : Fitted) (steps : List Step) (up down : Course) (room : Room) → floor ≡ o.floor → silence ≡ min o.silence most_silence → IsValidFitted f → IsFitted f s →
    steps ≡ steps_of (routes_of o u s d) → up ≡ course_of u → down ≡ course_of d → room ≡ room_in u s d → made_of o floor silence steps f.sent f.duration f.settings up down room ≡ flight_of o u s d
flight_is o floor silence u s d f steps up down room low quiet valid is same rises returns around =
    rw (low, quiet, same, rises, returns, around, sym (fitted_lasts f valid), is.trajs, is.sent, is.settings) refl

pub flight_made : (o : FlightOptions) (floor : ℤ) (silence : ℕ) (u s d : PlainShow) (f : Fitted) (steps : List Step) (up down : Course) (room : Room) → floor ≡ o.floor → silence ≡ min o.silence most_silence → IsValidFitted f →
    IsFitted f s → StepsMade o u s d (Ok steps) → up ≡ course_of u → down ≡ course_of d → room ≡ room_in u s d → FlightMade o u s d (Ok (made_of o floor silence steps f.sent f.duration f.settings up down room))
flight_made o floor silence u s d f steps up down room low quiet valid is made rises returns around =
    (flight_is o floor silence u s d f steps up down room low quiet valid is made.0 rises returns around, made.1)

few_orders : (n : ℕ) (x : Orders) → n ≤ 32 → AreOrdersOf n x → AreFew x
few_orders n (Each orders) few are = omega (arith, few, are)
few_orders n (ToEach order) few are = tt

few_conditions : (n : ℕ) (ws : List Condition) → n ≤ 32 → AreConditionsOf n ws → length ws ≤ 32
few_conditions n ws few (inl e) = let none = ap (λ (xs : List Condition). length xs) e in omega (arith, none)
few_conditions n ws few (inr e) = omega (arith, few, e)

-- it fits the director
pub is_held : JoinLaw → (o : FlightOptions) (floor : ℤ) (silence : ℕ) (f : Fitted) (steps : List Step) (rise return : Course) (room : Room) → IsValidFitted f → AreUploadable f.settings f.sent → All (IsStepOf (length f.trajs)) steps →
    IsCourse rise → IsCourse return → IsHeld (made_of o floor silence steps f.sent f.duration f.settings rise return room)
is_held law o floor silence f steps rise return room valid up sizes rising returning =
    let few : length f.trajs ≤ 32 = omega (arith, valid.few_drones, valid.trajs_counted) in
    let show = course_held law f f.settings.late valid up in
    record {
      few = up.few;
      short = show.short;
      orders = All-weaker (IsStepOf (length f.trajs)) (λ (step : Step). AreFew step.orders) (λ step is. few_orders (length f.trajs) step.orders few is.orders) steps sizes;
      conditions = All-weaker (IsStepOf (length f.trajs)) (λ (step : Step). length step.conditions ≤ 32) (λ step is. few_conditions (length f.trajs) step.conditions few is.conditions) steps sizes;
      curves = show.curves;
      up = rising;
      down = returning;
    }

-- ---- the room

-- the room of curves, with the largest of these strays
abbrev pub room_by : ℕ → ℕ → ℕ → List Traj → List Traj → List Traj → Room
room_by a b c ups shows downs = room_of (max (max a b) c + room_mm) (ups ++ (shows ++ downs))

pub room_from : (margin a b c : ℕ) (us vs ws ups shows downs : List Traj) → margin ≡ max (max a b) c + room_mm → us ≡ ups → vs ≡ shows → ws ≡ downs →
    room_of margin (us ++ (vs ++ ws)) ≡ room_by a b c ups shows downs
room_from margin a b c us vs ws ups shows downs wide rises flown returns = rw (wide, rises, flown, returns) refl

-- that of fitted shows is the shows'
pub room_is : (up show down : Fitted) (u s d : PlainShow) → IsFitted up u → IsFitted show s → IsFitted down d →
    room_by up.settings.stray show.settings.stray down.settings.stray up.sent show.sent down.sent ≡ room_in u s d
room_is up show down u s d is_up is_show is_down = rw (is_up.settings, is_show.settings, is_down.settings, is_up.sent, is_show.sent, is_down.sent) refl
