-- The premises of the laws hold of the small flight.
use Rattle.definition_tests.proofs.Prelude.{◌≡◌, ◌≢◌, ◌≤◌, ◌+◌, ◌∷◌, ◌||◌, ◌&&◌, ◌∙◌, [], List, Bool, true, false, not, refl, sym, ap, subst, None, Some, Option, ℕ, zero, suc, inl, inr, leb, eqb, arith, and_parts, not-true, eqb-true, le-leb, All-nil, All-cons, ℤ, pos, slice_get, Contains, list_any, Traj, Sample, Event, Clock, Seen, Answered, Said, Over, IsWay, IsWayUp, IsWayDown, IsFlight, way_begins, way_ends, legs_of, leg, moves, goes_up, goes_down, start, sent, State, next_step, all_fit, all_answered, is_silent, is_off, is_off_hold, is_outside, are_aloft, IsQuiet, AllQuiet, HasShow, up_at, show_at, down_at, routes, implied, kept_law}
use Rattle.flight_model.specs.declared.flights.Step.{Step}
use Rattle.flight_model.specs.declared.flights.Flight.{Flight}
use Rattle.flight_model.specs.declared.states.Track.{Track}
use Rattle.flight_model.specs.Rooms.{IsInRoom, is_in_room}
use Rattle.definition_tests.specs.FlightExample.{whole, said, ExampleLaw}
use Rattle.flight_model.specs.declared.events.Signal.TheVariants as signal
unfoldable use Rattle.flight_model.specs.Legs.{steps_of}
unfoldable use Rattle.flight_model.specs.Samples.{is_fit_by, is_kept, is_on_course}
unfoldable use Rattle.flight_model.specs.Directors.{tracks_after, heard, may_land, is_due, notes, is_fault, choice, done, led, happens, says}
unfoldable use Rattle.whole_numbers.specs.Decoded.{decoded}
unfoldable use Rattle.whole_numbers.specs.Moments.{moment}
unfoldable use Rattle.whole_numbers.specs.Bernstein.{bernstein}
unfoldable use Rattle.flight_model.specs.Example.{flight}
use Rattle.flight_model.proofs.Rooms.{in-room}
use Rattle.flight_model.proofs.Shows.{has_show}

-- ---- quiet, computed

is_calm : Event → Bool
is_calm (Clock ms) = true
is_calm (Seen d x) = true
is_calm (Answered d status) = eqb status 0
is_calm (Said signal.Go) = true
is_calm (Said signal.Land) = false
is_calm (Said signal.Stop) = false

is_good : Flight → State → Event → Bool
is_good f s (Clock ms) = true
is_good f s (Seen d x) = (not x.lost && not (is_off f s d x)) && (x.sure && (not (is_off_hold f s d x) && not (is_outside f s x)))
is_good f s (Answered d status) = true
is_good f s (Said w) = true

is_prompt : Flight → ℕ → State → Option Step → Bool
is_prompt f slack h None = true
is_prompt f slack h (Some step) =
    (step.asked || not (leb (step.after + slack) h.waited))
    || (all_fit f.silence step.conditions h.tracks && (not step.answered || all_answered h.answered))

is_quiet : Flight → ℕ → State → Event → Bool
is_quiet f slack s e =
    is_calm e && (is_good f s e && (not (list_any (λ (t : Track). is_silent f.silence t.seen) (heard f s e).tracks)
    && is_prompt f slack (heard f s e) (next_step f s)))

are_quiet : Flight → ℕ → State → List Event → Bool
are_quiet f slack s [] = true
are_quiet f slack s (e ∷ es) = is_quiet f slack s e && are_quiet f slack (happens f s e) es

-- ---- and that it is so

calm-answer : (e : Event) (d status : ℕ) → is_calm e ≡ true → e ≡ Answered d status → status ≡ 0
unfolding is_calm
calm-answer e d status h same = let g : eqb status 0 ≡ true = subst (λ a. is_calm a ≡ true) same h in eqb-true status 0 g

calm-said : (e : Event) → is_calm e ≡ true → (e ≢ Said signal.Land) × (e ≢ Said signal.Stop)
unfolding is_calm
calm-said e h =
    (λ same. let g : false ≡ true = subst (λ a. is_calm a ≡ true) same h in absurd (cc), λ same. let g : false ≡ true = subst (λ a. is_calm a ≡ true) same h in absurd (cc))

good-room : (f : Flight) (s : State) (x : Sample) → are_aloft f s ≡ true → is_outside f s x ≡ false → IsInRoom f.room x
good-room f s x up calm = in-room f.room x (by_room (is_in_room f.room x) (sym (ap (λ b. b && not (is_in_room f.room x)) up) ∙ calm)) where
  by_room : (b : Bool) → true && not b ≡ false → b ≡ true
  by_room true e = refl
  by_room false e = absurd (cc)

good-sample : (f : Flight) (s : State) (e : Event) (d : ℕ) (x : Sample) → is_good f s e ≡ true → e ≡ Seen d x → (x.lost ≡ false) × (is_off f s d x ≡ false) × (x.sure ≡ true) × (is_off_hold f s d x ≡ false) × (are_aloft f s ≡ true → IsInRoom f.room x)
unfolding is_good
good-sample f s e d x h same =
    let on = not (is_off_hold f s d x) && not (is_outside f s x) in
    let g : (not x.lost && not (is_off f s d x)) && (x.sure && on) ≡ true = subst (λ a. is_good f s a ≡ true) same h in
    let q = and_parts (not x.lost && not (is_off f s d x)) (x.sure && on) g in
    let r = and_parts x.sure on q.1 in
    let p = and_parts (not x.lost) (not (is_off f s d x)) q.0 in
    let w = and_parts (not (is_off_hold f s d x)) (not (is_outside f s x)) r.1 in
    (not-true x.lost p.0, not-true (is_off f s d x) p.1, r.0, not-true (is_off_hold f s d x) w.0, λ up. good-room f s x up (not-true (is_outside f s x) w.1))

prompt-fit : (f : Flight) (slack : ℕ) (h : State) (o : Option Step) (step : Step) → is_prompt f slack h o ≡ true → o ≡ Some step → step.asked ≡ false →
    step.after + slack ≤ h.waited → (all_fit f.silence step.conditions h.tracks ≡ true) × (step.answered ≡ true → all_answered h.answered ≡ true)
unfolding is_prompt
prompt-fit f slack h o step p same asked l =
    let fit = all_fit f.silence step.conditions h.tracks in
    let answers = not step.answered || all_answered h.answered in
    let g : (step.asked || not (leb (step.after + slack) h.waited)) || (fit && answers) ≡ true = subst (λ a. is_prompt f slack h a ≡ true) same p in
    let q = and_parts fit answers (by_parts step.asked (leb (step.after + slack) h.waited) (fit && answers) asked (le-leb (step.after + slack) h.waited l) g) in
    (q.0, λ a. implied step.answered (all_answered h.answered) q.1 a) where
      by_parts : (a b c : Bool) → a ≡ false → b ≡ true → (a || not b) || c ≡ true → c ≡ true
      by_parts true b c p q h = absurd (cc)
      by_parts false false c p q h = absurd (cc)
      by_parts false true c p q h = h

quiet-true : (f : Flight) (slack : ℕ) (s : State) (e : Event) → is_quiet f slack s e ≡ true → IsQuiet f slack s e
unfolding is_quiet
quiet-true f slack s e h =
    let silent = list_any (λ (t : Track). is_silent f.silence t.seen) (heard f s e).tracks in
    let prompt = is_prompt f slack (heard f s e) (next_step f s) in
    let p = and_parts (is_calm e) (is_good f s e && (not silent && prompt)) h in
    let q = and_parts (is_good f s e) (not silent && prompt) p.1 in
    let r = and_parts (not silent) prompt q.1 in
    let c = calm-said e p.0 in
    record {
      answer = λ d status same. calm-answer e d status p.0 same;
      no_land = c.0;
      no_stop = c.1;
      sample = λ d x same. good-sample f s e d x q.0 same;
      fresh = not-true silent r.0;
      in_time = λ step same asked l. (prompt-fit f slack (heard f s e) (next_step f s) step r.1 same asked l).0;
      answers = λ step same asked l. (prompt-fit f slack (heard f s e) (next_step f s) step r.1 same asked l).1;
    }

quiet-all : (f : Flight) (slack : ℕ) (s : State) (es : List Event) → are_quiet f slack s es ≡ true → AllQuiet f slack s es
unfolding are_quiet
quiet-all f slack s [] h = tt
quiet-all f slack s (e ∷ es) h =
    let p = and_parts (is_quiet f slack s e) (are_quiet f slack (happens f s e) es) h in
    (quiet-true f slack s e p.0, quiet-all f slack (happens f s e) es p.1)

-- ---- the three ways

rests-up : (x : ℤ) → IsWay (up_at x)
rests-up x zero zero l m = inl refl
rests-up x zero (suc zero) l m = inl refl
rests-up x zero (suc (suc zero)) l m = inr (pos 0, pos 1000, refl)
rests-up x zero (suc (suc (suc zero))) l m = inl refl
rests-up x zero (suc (suc (suc (suc a)))) l m = absurd (omega (arith, m))
rests-up x (suc k) a l m = absurd (omega (arith, l))

rests-down : (x : ℤ) → IsWay (down_at x)
rests-down x zero zero l m = inl refl
rests-down x zero (suc zero) l m = inl refl
rests-down x zero (suc (suc zero)) l m = inr (pos 1000, pos 0, refl)
rests-down x zero (suc (suc (suc zero))) l m = inl refl
rests-down x zero (suc (suc (suc (suc a)))) l m = absurd (omega (arith, m))
rests-down x (suc k) a l m = absurd (omega (arith, l))

way_up : (x : ℤ) → moves (leg (legs_of (up_at x)) 0) ≡ true → goes_up (leg (legs_of (up_at x)) 0) ≡ true → IsWayUp (up_at x)
way_up x moving straight = record { rests = rests-up x; first = leg (legs_of (up_at x)) 0; is_first = rw moving refl; up = straight }

way_down : (x : ℤ) → moves (leg (legs_of (down_at x)) 0) ≡ true → goes_down (leg (legs_of (down_at x)) 0) ≡ true → IsWayDown (down_at x)
way_down x moving straight = record { rests = rests-down x; last = leg (legs_of (down_at x)) 0; is_last = rw moving refl; down = straight }

-- the three ways of a drone meet
abbrev Meet : Traj → Traj → Traj → Type 0
Meet u s n = (way_ends u ≡ way_begins s) × (way_ends s ≡ way_begins n) × (way_ends n ≡ way_begins u)

by_ways : (u v s t n m : Traj) → Some u ≡ Some v → Some s ≡ Some t → Some n ≡ Some m → Meet u s n → Meet v t m
by_ways u v s t n m a b c meet =
    subst (λ x. Meet x t m) (some_is u v a) (subst (λ x. Meet u x m) (some_is s t b) (subst (λ x. Meet u s x) (some_is n m c) meet)) where
      some_is : (x y : Traj) → Some x ≡ Some y → x ≡ y
      some_is x y e = cc

joined : (d : ℕ) (u s n : Traj) → slice_get routes.up d ≡ Some u → slice_get routes.show d ≡ Some s → slice_get routes.down d ≡ Some n → Meet u s n
joined zero u s n a b c = by_ways (up_at (pos 0)) u (show_at (pos 0)) s (down_at (pos 0)) n a b c (refl, refl, refl)
joined (suc zero) u s n a b c = by_ways (up_at (pos 2000)) u (show_at (pos 2000)) s (down_at (pos 2000)) n a b c (refl, refl, refl)
joined (suc (suc d)) u s n a b c = absurd (cc)

is_flight : IsFlight routes
is_flight = record {
  ups = refl;
  downs = refl;
  strays = omega arith;
  rise = All-cons IsWayUp (up_at (pos 0)) (up_at (pos 2000) ∷ []) (way_up (pos 0) refl refl) (All-cons IsWayUp (up_at (pos 2000)) [] (way_up (pos 2000) refl refl) (All-nil IsWayUp));
  return = All-cons IsWayDown (down_at (pos 0)) (down_at (pos 2000) ∷ []) (way_down (pos 0) refl refl) (All-cons IsWayDown (down_at (pos 2000)) [] (way_down (pos 2000) refl refl) (All-nil IsWayDown));
  joined = joined;
}

-- ---- the laws' premises

has : HasShow (flight true)
unfolding flight
has = has_show (flight true) routes is_flight refl refl refl (omega arith) (omega arith)

quiet-computed : are_quiet (flight true) 100 (start (flight true)) whole ≡ true
unfolding are_quiet is_quiet is_calm is_good is_prompt steps_of is_fit_by is_kept is_on_course tracks_after heard may_land is_due notes is_fault choice done led happens says flight decoded moment bernstein
quiet-computed = refl

says-computed : sent (flight true) (start (flight true)) whole ≡ said
unfolding steps_of is_fit_by is_kept is_on_course tracks_after heard may_land is_due notes is_fault choice done led happens says flight decoded moment bernstein
says-computed = refl

last-said : Contains said (Over true true)
last-said = (10, omega arith, refl)

pub example_law : ExampleLaw
example_law = record {
  is_flight = is_flight;
  has_show = has;
  quiet = quiet-all (flight true) 100 (start (flight true)) whole quiet-computed;
  says = says-computed;
  kept = kept_law.kept (flight true) whole has (subst (λ xs. Contains xs (Over true true)) (sym says-computed) last-said);
}
