-- No false alarm.
use Rattle.flight_model.proofs.Prelude.{◌-◌, min, ltb, ◌≡◌, ◌≤◌, ◌+◌, ◌∷◌, ◌++◌, ◌∙◌, ◌||◌, ◌&&◌, [], List, Bool, true, false, cond, not, refl, sym, ap, subst, None, Some, Option, ℕ, suc, leb, eqb, length, arith, ltb-false, le-ltb, not-true, and_parts, leb-true, le-leb, leb-false, and-false, map, slice_get, list_any, Order, Sample, Event, Clock, Seen, Answered, Said, Late, Frame, Orders, Each, Step, Flight, Phase, Steps, Landing, Off, Halted, Ended, Track, State, Choice, Rest, Begin, Descend, Cut, Quit, Finish, start, sent, after, chosen, is_go, is_land, is_stop, is_off_hold, are_aloft, is_outside, is_silent, is_lost, is_astray, older, aged, later, passed, fits, next_step, harms, in_show, noticed, overdue, note_if, silent_from, sample_notes, seen_notes, track_with, off_with, is_flying, is_due_step, is_late_step, unfit_in, all_fit, all_answered, frames_from, frames_of, frames_of_step, landings, IsQuiet, AllQuiet, is_on_course, noted_by, notes_in, QuietLaw, IsInRoom, is_in_room, flat_map-append, Wait, awaits}
use Rattle.flight_model.specs.declared.events.Signal.TheVariants as signal
use Rattle.flight_model.specs.declared.flights.Orders.TheVariants.{All as ToEach}
unfoldable use Rattle.flight_model.specs.Directors.{tracks_after, heard, is_due, notes, is_fault, choice, done, led, happens, says}
use Rattle.flight_model.proofs.Rooms.{is-in-room}
use Rattle.flight_model.proofs.Ending.{kept-all, none_harms, wanted-heard}
use Rattle.flight_model.proofs.Choices.{steps-has, landing-has, off-has, halted-has}

-- ---- nothing is noted

or-false : (a b : Bool) → a || b ≡ false → (a ≡ false) × (b ≡ false)
or-false true b h = absurd (cc)
or-false false b h = (refl, h)

none_silent : (silence ms d : ℕ) (ts : List Track) → list_any (λ (t : Track). is_silent silence t.seen) (map (aged ms) ts) ≡ false → silent_from silence ms d ts ≡ []
none_silent silence ms d [] h = refl
none_silent silence ms d (t ∷ ts) h =
    let p = or-false (is_silent silence (older ms t.seen)) (list_any (λ (u : Track). is_silent silence u.seen) (map (aged ms) ts)) h in
    rw (p.0, and-false (not (is_silent silence t.seen))) (none_silent silence ms (suc d) ts p.1)

-- where drones come to their places within this time
module _ (slack : ℕ) (few : slack ≤ 8000) where
  quiet-clock : (f : Flight) (s : State) (ms : ℕ) → IsQuiet f slack s (Clock ms) → noticed f s (Clock ms) ≡ []
  unfolding heard tracks_after
  quiet-clock f s ms q = none_silent f.silence ms 0 s.tracks q.fresh

  sample-quiet : (f : Flight) (s : State) (d : ℕ) (x : Sample) (t : Track) → x.lost ≡ false → is_off_hold f s d x ≡ false → x.sure ≡ true → is_outside f s x ≡ false → sample_notes d t (track_with f s d t x) ≡ []
  sample-quiet f s d x t kept on sure inside = notes-of d t x (is_off_hold f s d x) x.sure (is_outside f s x) (off_with t.off t.seen x) (off_with t.unsure t.seen x) kept on sure inside where
    notes-of : (d : ℕ) (t : Track) (x : Sample) (b c o : Bool) (n m : ℕ) → x.lost ≡ false → b ≡ false → c ≡ true → o ≡ false →
        sample_notes d t (record { seen = Some x; off = cond b (Some n) None; unsure = cond c None (Some m); outside = o }) ≡ []
    notes-of d t x true c o n m kept on sure inside = absurd (cc)
    notes-of d t x false false o n m kept on sure inside = absurd (cc)
    notes-of d t x false true true n m kept on sure inside = absurd (cc)
    notes-of d t x false true false n m kept on sure inside =
        rw (kept, and-false (not (is_lost t.seen)), and-false (not (is_astray t.off)), and-false (not (is_astray t.unsure)), and-false (not t.outside)) refl

  inside : (f : Flight) (s : State) (x : Sample) → (are_aloft f s ≡ true → IsInRoom f.room x) → is_outside f s x ≡ false
  inside f s x room = by_aloft (are_aloft f s) refl where
    by_aloft : (b : Bool) → are_aloft f s ≡ b → is_outside f s x ≡ false
    by_aloft true e = ap (λ c. are_aloft f s && not c) (is-in-room f.room x (room e)) ∙ and-false (are_aloft f s)
    by_aloft false e = ap (λ c. c && not (is_in_room f.room x)) e

  quiet-seen : (f : Flight) (s : State) (d : ℕ) (x : Sample) → IsQuiet f slack s (Seen d x) → noticed f s (Seen d x) ≡ []
  quiet-seen f s d x q = by_track (slice_get s.tracks d) where
    by_track : (o : Option Track) → seen_notes f s d x o ≡ []
    by_track None = refl
    by_track (Some t) = let p = q.sample d x refl in sample-quiet f s d x t p.0 p.3 p.2 (inside f s x p.4)

  quiet-answer : (f : Flight) (s : State) (d status : ℕ) → IsQuiet f slack s (Answered d status) → noticed f s (Answered d status) ≡ []
  quiet-answer f s d status q = let e = q.answer d status refl in rw e refl

  quiet-noticed : (f : Flight) (s : State) (e : Event) → IsQuiet f slack s e → noticed f s e ≡ []
  quiet-noticed f s (Clock ms) q = quiet-clock f s ms q
  quiet-noticed f s (Seen d x) q = quiet-seen f s d x q
  quiet-noticed f s (Answered d status) q = quiet-answer f s d status q
  quiet-noticed f s (Said w) q = refl

  -- the drones have settled for as long as the step before is over
  abbrev InTime : Flight → State → Type 0
  InTime f s = (step : Step) → next_step f s ≡ Some step → step.asked ≡ false → s.waited ≤ step.after + slack + s.steady

  later-in_time : (w st ms after : ℕ) → w ≤ after + st → later w ms ≤ after + later st ms
  later-in_time w st ms after h = omega arith

  heard-in_time : (f : Flight) (s : State) (e : Event) → IsQuiet f slack s e → InTime f s → InTime f (heard f s e)
  unfolding heard
  heard-in_time f s e q i step same asked = by_time (leb (step.after + slack) (heard f s e).waited) refl where
    by_time : (b : Bool) → leb (step.after + slack) (heard f s e).waited ≡ b → (heard f s e).waited ≤ step.after + slack + (heard f s e).steady
    by_time true h =
        let fit : fits f.silence (next_step f s) (tracks_after f s e) ≡ true = rw same (q.in_time step same asked (leb-true (step.after + slack) (heard f s e).waited h)) in
        rw fit (later-in_time s.waited s.steady (passed e) (step.after + slack) (i step same asked))
    by_time false h = let l = leb-false (step.after + slack) (heard f s e).waited h in omega arith

  -- a step whose time is over is due, and so none is overdue
  due-in_time : (f : Flight) (s : State) (e : Event) (step : Step) → IsQuiet f slack s e → InTime f s → next_step f s ≡ Some step →
      step.asked ≡ false → step.after + slack + step.settle ≤ (heard f s e).waited → is_due f (heard f s e) e ≡ true
  unfolding is_due heard
  due-in_time f s e step q i same asked over =
      let time : step.after ≤ (heard f s e).waited = omega arith in
      let there : step.after + slack ≤ (heard f s e).waited = omega arith in
      let steady : (heard f s e).waited ≤ step.after + slack + (heard f s e).steady = heard-in_time f s e q i step same asked in
      let settled : step.settle ≤ (heard f s e).steady = omega arith in
      subst (λ o. is_due_step f (heard f s e) e o ≡ true) (sym same)
      (all_five (not step.asked || is_go e) (leb step.after (heard f s e).waited) (leb step.settle (heard f s e).steady) (all_fit f.silence step.conditions (heard f s e).tracks)
      (not step.answered || all_answered (heard f s e).answered)
      (ap (λ b. not b || is_go e) asked) (le-leb step.after (heard f s e).waited time) (le-leb step.settle (heard f s e).steady settled) (q.in_time step same asked there)
      (if_asked step.answered (all_answered (heard f s e).answered) (q.answers step same asked there))) where
        all_five : (a b c d g : Bool) → a ≡ true → b ≡ true → c ≡ true → d ≡ true → g ≡ true → (((a && b) && c) && d) && g ≡ true
        all_five a b c d g ha hb hc hd hg = rw (ha, hb, hc, hd, hg) refl

        if_asked : (a b : Bool) → (a ≡ true → b ≡ true) → not a || b ≡ true
        if_asked true b h = h refl
        if_asked false b h = refl

  none_overdue : (f : Flight) (s : State) (e : Event) → IsQuiet f slack s e → InTime f s → overdue f (heard f s e) e ≡ []
  unfolding heard
  none_overdue f s e q i = by_late (is_flying s.phase) (awaits f s) (is_due f (heard f s e) e) (is_late_step (heard f s e) (next_step f s)) refl refl where
    due-late : (o : Option Step) → next_step f s ≡ o → is_late_step (heard f s e) o ≡ true → is_due f (heard f s e) e ≡ true
    due-late None same late = absurd (cc)
    due-late (Some step) same late =
        let p = and_parts (not step.asked) (leb (step.after + step.settle + 8000) (heard f s e).waited) late in
        let l = leb-true (step.after + step.settle + 8000) (heard f s e).waited p.1 in
        due-in_time f s e step q i same (not-true step.asked p.0) (omega arith)

    by_late : (a w b c : Bool) → is_due f (heard f s e) e ≡ b → is_late_step (heard f s e) (next_step f s) ≡ c →
        note_if (a && not w && not b && c) (unfit_in f (heard f s e) (next_step f s)) Late ≡ []
    by_late false w b c due late = refl
    by_late true true b c due late = refl
    by_late true false true c due late = refl
    by_late true false false false due late = refl
    by_late true false false true due late = let d = due-late (next_step f s) refl late in absurd (cc)

  quiet-notes : (f : Flight) (s : State) (e : Event) → IsQuiet f slack s e → InTime f s → notes f s e ≡ []
  unfolding notes
  quiet-notes f s e q i = rw (quiet-noticed f s e q, none_overdue f s e q i) refl

  quiet-fault : (f : Flight) (s : State) (e : Event) → IsQuiet f slack s e → InTime f s → is_fault f s e ≡ false
  unfolding is_fault
  quiet-fault f s e q i = rw (quiet-notes f s e q i) refl

  -- ---- what goes out has no notes

  notes_in-append : (xs ys : List Frame) → notes_in (xs ++ ys) ≡ notes_in xs ++ notes_in ys
  notes_in-append xs ys = flat_map-append noted_by xs ys

  notes_in-from : (d : ℕ) (os : List (Option Order)) → notes_in (frames_from d os) ≡ []
  notes_in-from d [] = refl
  notes_in-from d (None ∷ os) = notes_in-from (suc d) os
  notes_in-from d (Some o ∷ os) = notes_in-from (suc d) os

  notes_in-orders : (orders : Orders) → notes_in (frames_of orders) ≡ []
  notes_in-orders (Each os) = notes_in-from 0 os
  notes_in-orders (ToEach o) = refl

  notes_in-done : (f : Flight) (h : State) (c : Choice) → (c ≡ Wait → ⊥) → notes_in (done f h c) ≡ []
  unfolding done
  notes_in-done f h Rest n = refl
  notes_in-done f h Begin n = by_step (next_step f h) where
    by_step : (o : Option Step) → notes_in (frames_of_step o) ≡ []
    by_step None = refl
    by_step (Some step) = notes_in-orders step.orders
  notes_in-done f h Descend n = notes_in-from 0 (landings f h.next)
  notes_in-done f h Wait n = absurd (n refl)
  notes_in-done f h Cut n = refl
  notes_in-done f h Quit n = refl
  notes_in-done f h Finish n = refl

  -- ---- where it leads

  no_stop : (f : Flight) (s : State) (e : Event) → IsQuiet f slack s e → is_stop e ≡ false
  no_stop f s (Said signal.Go) q = refl
  no_stop f s (Said signal.Land) q = refl
  no_stop f s (Said signal.Stop) q = absurd (q.no_stop refl)
  no_stop f s (Clock ms) q = refl
  no_stop f s (Seen d x) q = refl
  no_stop f s (Answered d status) q = refl

  no_land : (f : Flight) (s : State) (e : Event) → IsQuiet f slack s e → is_land e ≡ false
  no_land f s (Said signal.Go) q = refl
  no_land f s (Said signal.Land) q = absurd (q.no_land refl)
  no_land f s (Said signal.Stop) q = refl
  no_land f s (Clock ms) q = refl
  no_land f s (Seen d x) q = refl
  no_land f s (Answered d status) q = refl

  -- on course, with the drones in time
  record OnCourse (f : Flight) (s : State) : Type 0 where
    course : is_on_course s.phase ≡ true
    in_time : InTime f s
    calm : s.wanted ≡ false

  led-begin : (f : Flight) (h : State) → h.wanted ≡ false → OnCourse f (led f h Begin)
  unfolding led
  led-begin f h calm = record { course = by_last (eqb (suc h.next) (length f.steps)); in_time = λ step same asked. omega arith; calm = calm } where
    by_last : (b : Bool) → is_on_course (cond b Off Steps) ≡ true
    by_last true = refl
    by_last false = refl

  led-finish : (f : Flight) (h : State) → OnCourse f (led f h Finish)
  unfolding led
  led-finish f h = record { course = refl; in_time = λ step same asked. omega arith; calm = refl }

  led-rest : (f : Flight) (h : State) → OnCourse f h → OnCourse f (led f h Rest)
  unfolding led
  led-rest f h i = i

  no_or : (w a b : Bool) → w ≡ false → a ≡ false → b ≡ false → w || (a || b) ≡ true → ⊥
  no_or true a b v x y z = cc
  no_or false true b v x y z = cc
  no_or false false b v x y z = cc

  never-waits : (f : Flight) (h : State) (e : Event) (fault : Bool) (p : Phase) → h.wanted ≡ false → is_land e ≡ false → fault ≡ false → chosen f h e fault p ≡ Wait → ⊥
  never-waits f h e fault Steps calm on well =
      steps-has (λ c. c ≡ Wait → ⊥) f h e fault (λ stop is. cc) (λ g land may is. cc) (λ g land no first is. no_or h.wanted (is_land e) fault calm on well land) (λ g o due is. cc) (λ is. cc)
  never-waits f h e fault Landing calm on well = landing-has (λ c. c ≡ Wait → ⊥) f h e fault (λ stop is. cc) (λ g is. cc) (λ g is. cc)
  never-waits f h e fault Off calm on well = off-has (λ c. c ≡ Wait → ⊥) f h e fault (λ stop is. cc) (λ g is. cc) (λ g is. cc)
  never-waits f h e fault Halted calm on well = halted-has (λ c. c ≡ Wait → ⊥) f h e fault (λ is. cc) (λ is. cc)
  never-waits f h e fault Ended calm on well = λ is. cc

  course-chosen : (f : Flight) (h : State) (e : Event) (fault : Bool) (p : Phase) → h.phase ≡ p → OnCourse f h →
      is_stop e ≡ false → is_land e ≡ false → fault ≡ false → OnCourse f (led f h (chosen f h e fault p))
  course-chosen f h e fault Steps same i go on well =
      steps-has (λ c. OnCourse f (led f h c)) f h e fault
      (λ stop. absurd (cc)) (λ g land may. absurd (no_or h.wanted (is_land e) fault i.calm on well land))
      (λ g land no first. absurd (no_or h.wanted (is_land e) fault i.calm on well land)) (λ g o due. led-begin f h i.calm) (led-rest f h i)
  course-chosen f h e fault Landing same i go on well = let c = i.course in let d : is_on_course h.phase ≡ false = ap is_on_course same in absurd (cc)
  course-chosen f h e fault Off same i go on well =
      off-has (λ c. OnCourse f (led f h c)) f h e fault (λ stop. absurd (cc)) (λ g. led-finish f h) (λ g. led-rest f h i)
  course-chosen f h e fault Halted same i go on well = let c = i.course in let d : is_on_course h.phase ≡ false = ap is_on_course same in absurd (cc)
  course-chosen f h e fault Ended same i go on well = led-rest f h i

  phase-heard : (f : Flight) (s : State) (e : Event) → (heard f s e).phase ≡ s.phase
  unfolding heard
  phase-heard f s e = refl

  heard-course : (f : Flight) (s : State) (e : Event) → IsQuiet f slack s e → OnCourse f s → OnCourse f (heard f s e)
  heard-course f s e q i = record { course = ap is_on_course (phase-heard f s e) ∙ i.course; in_time = heard-in_time f s e q i.in_time; calm = wanted-heard f s e ∙ i.calm }

  course-event : (f : Flight) (s : State) (e : Event) → IsQuiet f slack s e → OnCourse f s → OnCourse f (happens f s e)
  unfolding happens choice
  course-event f s e q i =
      course-chosen f (heard f s e) e (is_fault f s e) s.phase (phase-heard f s e) (heard-course f s e q i) (no_stop f s e q) (no_land f s e q) (quiet-fault f s e q i.in_time)

  no-wait : (f : Flight) (s : State) (e : Event) → IsQuiet f slack s e → OnCourse f s → choice f s e ≡ Wait → ⊥
  unfolding choice
  no-wait f s e q i = never-waits f (heard f s e) e (is_fault f s e) s.phase (wanted-heard f s e ∙ i.calm) (no_land f s e q) (quiet-fault f s e q i.in_time)

  quiet-says : (f : Flight) (s : State) (e : Event) → IsQuiet f slack s e → OnCourse f s → notes_in (says f s e) ≡ []
  unfolding says
  quiet-says f s e q i = rw (quiet-notes f s e q i.in_time) (notes_in-done f (heard f s e) (choice f s e) (no-wait f s e q i))

  course-all : (f : Flight) (s : State) (events : List Event) → AllQuiet f slack s events → OnCourse f s → OnCourse f (after f s events)
  course-all f s [] q i = i
  course-all f s (e ∷ es) q i = course-all f (happens f s e) es q.1 (course-event f s e q.0 i)

  -- ---- kept

  any-aged : (silence ms : ℕ) (ts : List Track) →
      list_any (λ (t : Track). is_silent silence t.seen) (map (aged ms) ts) ≡ list_any (λ (t : Track). is_silent silence (older ms t.seen)) ts
  any-aged silence ms [] = refl
  any-aged silence ms (t ∷ ts) = ap (λ b. is_silent silence (older ms t.seen) || b) (any-aged silence ms ts)

  -- who isn't silent after some time isn't so after less of it
  silent-less : (silence a b : ℕ) (seen : Option Sample) → a ≤ b → is_silent silence (older b seen) ≡ false → is_silent silence (older a seen) ≡ false
  silent-less silence a b None l h = refl
  silent-less silence a b (Some x) l h =
      let m : later x.age b ≤ silence = ltb-false silence (later x.age b) h in
      le-ltb silence (later x.age a) (omega arith)

  any-less : (silence a b : ℕ) (ts : List Track) → a ≤ b → list_any (λ (t : Track). is_silent silence (older b t.seen)) ts ≡ false →
      list_any (λ (t : Track). is_silent silence (older a t.seen)) ts ≡ false
  any-less silence a b [] l h = refl
  any-less silence a b (t ∷ ts) l h =
      let p = or-false (is_silent silence (older b t.seen)) (list_any (λ (u : Track). is_silent silence (older b u.seen)) ts) h in
      rw (silent-less silence a b t.seen l p.0) (any-less silence a b ts l p.1)

  no_harm : (f : Flight) (s : State) (e : Event) → IsQuiet f slack s e → harms f s e ≡ false
  unfolding heard tracks_after
  no_harm f s (Clock ms) q =
      let none : list_any (λ (t : Track). is_silent f.silence (older ms t.seen)) s.tracks ≡ false = sym (any-aged f.silence ms s.tracks) ∙ q.fresh in
      let less = any-less f.silence (min ms (f.show_ms - s.waited)) ms s.tracks (omega arith) none in
      rw less (and-false (s.showing && ltb s.waited f.show_ms))
  no_harm f s (Seen d x) q = let p = q.sample d x refl in rw (p.1, p.2) (and-false (in_show f s x))
  no_harm f s (Answered d status) q = refl
  no_harm f s (Said w) q = refl

  none-harm : (f : Flight) (s : State) (events : List Event) → AllQuiet f slack s events → none_harms f s events ≡ true
  none-harm f s [] q = refl
  none-harm f s (e ∷ es) q = rw (no_harm f s e q.0) (none-harm f (happens f s e) es q.1)

  -- ---- the law

  course-start : (f : Flight) → OnCourse f (start f)
  course-start f = record { course = refl; in_time = λ step same asked. omega arith; calm = refl }

  noted-all : (f : Flight) (s : State) (events : List Event) → AllQuiet f slack s events → OnCourse f s → notes_in (sent f s events) ≡ []
  noted-all f s [] q i = refl
  noted-all f s (e ∷ es) q i =
      notes_in-append (says f s e) (sent f (happens f s e) es)
      ∙ rw (quiet-says f s e q.0 i, noted-all f (happens f s e) es q.1 (course-event f s e q.0 i)) refl

  begins : (f : Flight) (h : State) (e : Event) (fault : Bool) (p : Phase) → p ≡ Steps → is_stop e ≡ false → h.wanted ≡ false → is_land e ≡ false → fault ≡ false → is_due f h e ≡ true →
      chosen f h e fault p ≡ Begin
  begins f h e fault p same go calm on well due = subst (λ q. chosen f h e fault q ≡ Begin) (sym same) (rw (go, due, calm, on, well) refl)

  led-next : (f : Flight) (h : State) (c : Choice) → c ≡ Begin → (led f h c).next ≡ suc h.next
  unfolding led
  led-next f h c same = rw same refl

  prompt-event : (f : Flight) (s : State) (e : Event) (step : Step) → IsQuiet f slack s e → OnCourse f s → s.phase ≡ Steps → next_step f s ≡ Some step →
      step.asked ≡ false → step.after + slack + step.settle ≤ (heard f s e).waited → (happens f s e).next ≡ suc s.next
  unfolding happens choice heard
  prompt-event f s e step q i p same asked over =
      led-next f (heard f s e) (choice f s e)
      (begins f (heard f s e) e (is_fault f s e) s.phase p (no_stop f s e q) (wanted-heard f s e ∙ i.calm) (no_land f s e q) (quiet-fault f s e q i.in_time)
      (due-in_time f s e step q i.in_time same asked over))

  -- the last event of a list
  prompt-all : (f : Flight) (s : State) (events : List Event) (e : Event) (step : Step) → AllQuiet f slack s (events ++ e ∷ []) → OnCourse f s →
      (after f s events).phase ≡ Steps → next_step f (after f s events) ≡ Some step → step.asked ≡ false →
      step.after + slack + step.settle ≤ (heard f (after f s events) e).waited → (after f s (events ++ e ∷ [])).next ≡ suc (after f s events).next
  prompt-all f s [] e step q i = prompt-event f s e step q.0 i
  prompt-all f s (a ∷ events) e step q i = prompt-all f (happens f s a) events e step q.1 (course-event f s a q.0 i)

pub quiet_law : QuietLaw
quiet_law = record {
  noted = λ f slack events few q. noted-all slack few f (start f) events q (course-start slack few f);
  goes_on = λ f slack events few q. (course-all slack few f (start f) events q (course-start slack few f)).course;
  kept = λ f slack events few q. kept-all f (start f) events ∙ none-harm slack few f (start f) events q;
  prompt = λ f slack events e step few q. prompt-all slack few f (start f) events e step q (course-start slack few f);
}
