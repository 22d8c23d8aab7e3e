-- Who is off where it is told to be for 300 ms has all land.
use Rattle.flight_model.proofs.Prelude.{◌≡◌, ◌≢◌, ◌<◌, ◌≤◌, ◌+◌, ◌-◌, ◌∷◌, ◌++◌, ◌∙◌, ◌&&◌, [], List, Bool, true, false, cond, not, min, refl, sym, ap, subst, None, Some, Option, ℕ, zero, suc, length, leb, eqb, arith, and_parts, eqb-true, eqb-false, leb-false, map, replicate, slice_get, slice_set, flat_map, range_with_len, Sample, Event, Clock, Seen, Answered, Said, Step, Flight, Routes, legs_of, leg_count, leg_ms, ms_until, hold_in, lasts, arm_step, up_step, start_step, down_step, Phase, Steps, Landing, Off, Halted, Ended, Track, State, Choice, Rest, Begin, Descend, Cut, Quit, Finish, start, after, drones, most_ms, passed, older, aged, renewed, tracked, track_with, off_with, is_astray, is_flying, is_fault, is_off_hold, keeps_hold, held_by, last_hold, later, IsToLand, HasLasted, time, twice, Wait, LandsOrWaits}
use Rattle.flight_model.specs.declared.events.Signal.TheVariants as signal
use Rattle.flight_model.specs.declared.flights.Stretch.TheVariants as stretch
unfoldable use Rattle.flight_model.specs.Legs.{steps_of}
unfoldable use Rattle.flight_model.specs.Directors.{tracks_after, heard, choice, led, happens}
use Rattle.flight_model.specs.Holds.{StaysOff, IsOffFor, HoldLaw}
use Rattle.flight_model.proofs.Alarms.{astray-fault, alarm_law}
use Rattle.flight_model.proofs.Ending.{fault_law, off-event, still-wanted, wanted-heard}
use Rattle.flight_model.proofs.Turns.{pair-at, pair-past, down-step}
use Rattle.flight_model.proofs.Kept.{after-append, rest-heard, happens-next}

-- ---- a drone's track

got : (ts : List Track) (g : Track → Track) (d : ℕ) (t : Track) → slice_get ts d ≡ Some t → slice_get (map g ts) d ≡ Some (g t)
got [] g d t e = absurd (cc)
got (u ∷ ts) g zero t e = let same : u ≡ t = cc in ap (λ (v : Track). Some (g v)) same
got (u ∷ ts) g (suc d) t e = got ts g d t e

pub got-back : (ts : List Track) (g : Track → Track) (d : ℕ) (v : Track) → slice_get (map g ts) d ≡ Some v → (t : Track) × (slice_get ts d ≡ Some t) × (v ≡ g t)
got-back [] g d v e = absurd (cc)
got-back (u ∷ ts) g zero v e = let same : v ≡ g u = cc in (u, refl, same)
got-back (u ∷ ts) g (suc d) v e = got-back ts g d v e

pub put-here : (ts : List Track) (k : ℕ) (t u : Track) → slice_get ts k ≡ Some u → slice_get (slice_set ts k t) k ≡ Some t
put-here [] k t u e = absurd (cc)
put-here (v ∷ ts) zero t u e = refl
put-here (v ∷ ts) (suc k) t u e = put-here ts k t u e

pub put-other : (ts : List Track) (k d : ℕ) (t : Track) → (k ≡ d → ⊥) → slice_get (slice_set ts k t) d ≡ slice_get ts d
put-other [] k d t n = refl
put-other (v ∷ ts) zero zero t n = absurd (n refl)
put-other (v ∷ ts) zero (suc d) t n = refl
put-other (v ∷ ts) (suc k) zero t n = refl
put-other (v ∷ ts) (suc k) (suc d) t n = put-other ts k d t (λ e. n (ap suc e))

pub some-track : (ts : List Track) (d : ℕ) → d < length ts → (t : Track) × (slice_get ts d ≡ Some t)
some-track [] d l = absurd (omega (arith, l))
some-track (t ∷ ts) zero l = (t, refl)
some-track (t ∷ ts) (suc d) l = some-track ts d (omega (arith, l))

-- ---- nobody has been off for 300 ms

abbrev Near : List Track → Type 0
Near ts = (d : ℕ) (t : Track) → slice_get ts d ≡ Some t → is_astray t.off ≡ false

near-after : (f : Flight) (s : State) (e : Event) → Near s.tracks → IsToLand f s → ((k : ℕ) (x : Sample) → e ≡ Seen k x → is_fault f s e ≡ false) → Near (tracks_after f s e)
unfolding tracks_after
near-after f s (Clock ms) near land calm = λ d v e. let b = got-back s.tracks (aged ms) d v e in ap (λ (w : Track). is_astray w.off) b.2 ∙ near d b.0 b.1
near-after f s (Answered k status) near land calm = near
near-after f s (Said w) near land calm = near
near-after f s (Seen k x) near land calm = by_track (slice_get s.tracks k) refl where
  still : (t : Track) → slice_get s.tracks k ≡ Some t → (b : Bool) → is_astray (track_with f s k t x).off ≡ b → is_astray (track_with f s k t x).off ≡ false
  still t at false e = e
  still t at true e = let fault = astray-fault f s k x t at (near k t at) e land in let none = calm k x refl in absurd (cc)

  by_drone : (t : Track) → slice_get s.tracks k ≡ Some t → (d : ℕ) (v : Track) → slice_get (slice_set s.tracks k (track_with f s k t x)) d ≡ Some v → (b : Bool) → eqb k d ≡ b → is_astray v.off ≡ false
  by_drone t at d v e true q =
      let there : slice_get (slice_set s.tracks k (track_with f s k t x)) k ≡ Some v = subst (λ n. slice_get (slice_set s.tracks k (track_with f s k t x)) n ≡ Some v) (sym (eqb-true k d q)) e in
      let both : Some (track_with f s k t x) ≡ Some v = sym (put-here s.tracks k (track_with f s k t x) t at) ∙ there in
      sym (ap (λ o. astray_in o) both) ∙ still t at (is_astray (track_with f s k t x).off) refl where
        astray_in : Option Track → Bool
        astray_in None = false
        astray_in (Some w) = is_astray w.off
  by_drone t at d v e false q = near d v (sym (put-other s.tracks k d (track_with f s k t x) (eqb-false k d q)) ∙ e)

  by_track : (o : Option Track) → slice_get s.tracks k ≡ o → Near (tracked f s k x o)
  by_track None at = near
  by_track (Some t) at = λ d v e. by_drone t at d v e (eqb k d) refl

near-renewed : (ts : List Track) → Near (map renewed ts)
near-renewed ts d v e = let b = got-back ts renewed d v e in ap (λ (w : Track). is_astray w.off) b.2

-- ---- where an event leads

flying-steps : (p : Phase) → is_flying p ≡ true → p ≡ Steps
flying-steps Steps e = refl
flying-steps Landing e = absurd (cc)
flying-steps Off e = absurd (cc)
flying-steps Halted e = absurd (cc)
flying-steps Ended e = absurd (cc)

-- who is off is on the way
off-steps : (f : Flight) (s : State) (d : ℕ) (x : Sample) → is_off_hold f s d x ≡ true → s.phase ≡ Steps
off-steps f s d x off =
    let b = leb x.age s.waited in
    let c = not (keeps_hold f d (last_hold f s.next) (s.waited - x.age) x) in
    flying-steps s.phase (and_parts (is_flying s.phase) b (and_parts (is_flying s.phase && b) c off).0).0

pub left : (f : Flight) (s : State) (e : Event) → s.phase ≢ Steps → (happens f s e).phase ≢ Steps
unfolding happens
left f s e n = (off-event f s e 0 n).leads

left-all : (f : Flight) (s : State) (es : List Event) → s.phase ≢ Steps → (after f s es).phase ≢ Steps
left-all f s [] n = n
left-all f s (e ∷ es) n = left-all f (happens f s e) es (left f s e n)

-- it goes on from a step to the next one
pub data IsOn : Choice → Type 0 where
  Rests : IsOn Rest
  Begins : IsOn Begin

led-on : (f : Flight) (h : State) (c : Choice) → (led f h c).phase ≡ Steps → (led f h c).wanted ≡ false → IsOn c
unfolding led
led-on f h Rest e w = Rests
led-on f h Begin e w = Begins
led-on f h Descend e w = absurd (cc)
led-on f h Wait e w = absurd (cc)
led-on f h Cut e w = absurd (cc)
led-on f h Quit e w = absurd (cc)
led-on f h Finish e w = absurd (cc)

pub on-choice : (f : Flight) (s : State) (e : Event) → (happens f s e).phase ≡ Steps → (happens f s e).wanted ≡ false → IsOn (choice f s e)
unfolding happens
on-choice f s e p w = led-on f (heard f s e) (choice f s e) p w

-- on the way a landing that was wanted is wanted
led-calm : (f : Flight) (h : State) (c : Choice) → (led f h c).phase ≡ Steps → (led f h c).wanted ≡ false → h.wanted ≡ false
unfolding led
led-calm f h Rest e w = w
led-calm f h Begin e w = w
led-calm f h Descend e w = absurd (cc)
led-calm f h Wait e w = absurd (cc)
led-calm f h Cut e w = absurd (cc)
led-calm f h Quit e w = absurd (cc)
led-calm f h Finish e w = absurd (cc)

pub was-calm : (f : Flight) (s : State) (e : Event) → (happens f s e).phase ≡ Steps → (happens f s e).wanted ≡ false → s.wanted ≡ false
unfolding happens
was-calm f s e p w = sym (wanted-heard f s e) ∙ led-calm f (heard f s e) (choice f s e) p w

-- a sample at which nothing is done has no fault
pub rest-calm : (f : Flight) (s : State) (e : Event) (k : ℕ) (x : Sample) → s.phase ≡ Steps → (happens f s e).phase ≡ Steps → (happens f s e).wanted ≡ false → e ≡ Seen k x → is_fault f s e ≡ false
rest-calm f s e k x p q calm is = by_fault (is_fault f s e) refl where
  by_fault : (b : Bool) → is_fault f s e ≡ b → is_fault f s e ≡ false
  by_fault false h = h
  by_fault true h =
      let lands = fault_law f s e p (λ stop. absurd (other k x (sym is ∙ stop))) h in
      absurd (no_waiting (sym ((lands.waits (λ may. absurd (no_landing (sym q ∙ (lands.lands may).1)))).wanted) ∙ calm)) where
        no_waiting : true ≡ false → ⊥
        no_waiting e = cc

        no_landing : Steps ≡ Landing → ⊥
        no_landing e = cc

        other : (k : ℕ) (x : Sample) → Seen k x ≡ Said signal.Stop → ⊥
        other k x e = cc

-- ---- in every state of a flight

-- on the way, where no landing is wanted, but in a show that flies on
abbrev IsNear : Flight → State → Type 0
IsNear f s = s.phase ≡ Steps → s.wanted ≡ false → IsToLand f s → Near s.tracks

led-near : (f : Flight) (h : State) (c : Choice) → c ≡ Begin → Near (led f h c).tracks
unfolding led
led-near f h c same = rw same (near-renewed h.tracks)

heard-near : (f : Flight) (s : State) (e : Event) → IsNear f s → s.phase ≡ Steps → (happens f s e).phase ≡ Steps → (happens f s e).wanted ≡ false → IsToLand f (heard f s e) → Near (heard f s e).tracks
unfolding heard
heard-near f s e near p q calm land = near-after f s e (near p (was-calm f s e q calm) land) land (λ k x is. rest-calm f s e k x p q calm is)

begun-near : (f : Flight) (s : State) (e : Event) → choice f s e ≡ Begin → Near (happens f s e).tracks
unfolding happens
begun-near f s e same = led-near f (heard f s e) (choice f s e) same

event-near : (f : Flight) (s : State) (e : Event) → IsNear f s → IsNear f (happens f s e)
event-near f s e near q calm land = by_choice (choice f s e) refl (on-choice f s e q calm) where
  phase : s.phase ≡ Steps
  phase = by_phase s.phase refl where
    by_phase : (p : Phase) → s.phase ≡ p → s.phase ≡ Steps
    by_phase Steps e = e
    by_phase Landing h = absurd (left f s e (λ g. absurd (no_landing (sym g ∙ h))) q) where
      no_landing : Steps ≡ Landing → ⊥
      no_landing e = cc
    by_phase Off h = absurd (left f s e (λ g. absurd (no_off (sym g ∙ h))) q) where
      no_off : Steps ≡ Off → ⊥
      no_off e = cc
    by_phase Halted h = absurd (left f s e (λ g. absurd (no_halt (sym g ∙ h))) q) where
      no_halt : Steps ≡ Halted → ⊥
      no_halt e = cc
    by_phase Ended h = absurd (left f s e (λ g. absurd (no_end (sym g ∙ h))) q) where
      no_end : Steps ≡ Ended → ⊥
      no_end e = cc

  by_choice : (c : Choice) → choice f s e ≡ c → IsOn c → Near (happens f s e).tracks
  by_choice c same Rests =
      let is = rest-heard f s e same in
      subst (λ (t : State). Near t.tracks) (sym is) (heard-near f s e near phase q calm (subst (λ t. IsToLand f t) is land))
  by_choice c same Begins = begun-near f s e same

near-all : (f : Flight) (s : State) (es : List Event) → IsNear f s → IsNear f (after f s es)
near-all f s [] near = near
near-all f s (e ∷ es) near = near-all f (happens f s e) es (event-near f s e near)

near-start : (f : Flight) → IsNear f (start f)
near-start f p calm land = none (drones f) where
  none : (n : ℕ) → Near (replicate n (record { seen = None; off = None; unsure = None; outside = false }))
  none zero d t e = absurd (cc)
  none (suc n) zero t e = astray_in e where
    astray_in : Some (record { seen = None; off = None; unsure = None; outside = false }) ≡ Some t → is_astray t.off ≡ false
    astray_in e = let same : t.off ≡ None = cc in ap is_astray same
  none (suc n) (suc d) t e = none n d t e

-- ---- a drone that is off

-- Drone d was seen off; with the age of its last sample that is at least so long ago, as far as times are counted.
record IsOff (f : Flight) (d : ℕ) (s : State) (total : ℕ) : Type 0 where
  phase : s.phase ≡ Steps
  land : IsToLand f s
  near : Near s.tracks
  track : Track
  is_track : slice_get s.tracks d ≡ Some track
  ms : ℕ
  last : Sample
  is_off : track.off ≡ Some ms
  is_last : track.seen ≡ Some last
  enough : min total most_ms ≤ ms + last.age

-- what a sample that is off makes of a track
off-with : (f : Flight) (s : State) (d : ℕ) (t : Track) (x : Sample) → is_off_hold f s d x ≡ true → (track_with f s d t x).off ≡ Some (off_with t.off t.seen x)
off-with f s d t x off = ap (λ b. cond b (Some (off_with t.off t.seen x)) None) off

seen-track : (f : Flight) (s : State) (d : ℕ) (x : Sample) (t : Track) → slice_get s.tracks d ≡ Some t → slice_get (tracks_after f s (Seen d x)) d ≡ Some (track_with f s d t x)
unfolding tracks_after
seen-track f s d x t at =
    subst (λ o. slice_get (tracked f s d x o) d ≡ Some (track_with f s d t x)) (sym at) (put-here s.tracks d (track_with f s d t x) t at)

-- the first sample
off-first : (f : Flight) (d : ℕ) (s : State) (x : Sample) → s.phase ≡ Steps → IsToLand f s → Near (tracks_after f s (Seen d x)) → d < length s.tracks → is_off_hold f s d x ≡ true →
    IsOff f d (heard f s (Seen d x)) x.age
unfolding heard
off-first f d s x p land near l off =
    let t = some-track s.tracks d l in
    record {
      phase = p;
      land = land;
      near = near;
      track = track_with f s d t.0 x;
      is_track = seen-track f s d x t.0 t.1;
      ms = off_with (t.0).off (t.0).seen x;
      last = x;
      is_off = off-with f s d t.0 x off;
      is_last = refl;
      enough = omega arith;
    }

-- and any event after it
off-heard : (f : Flight) (d : ℕ) (s : State) (e : Event) (total : ℕ) → IsOff f d s total → Near (tracks_after f s e) → ((x : Sample) → e ≡ Seen d x → is_off_hold f s d x ≡ true) →
    IsOff f d (heard f s e) (total + passed e)
unfolding heard tracks_after
off-heard f d s (Clock ms) total o near off =
    let enough = o.enough in
    record {
      phase = o.phase;
      land = o.land;
      near = near;
      track = aged ms o.track;
      is_track = got s.tracks (aged ms) d o.track o.is_track;
      ms = o.ms;
      last = record o.last { age = later (o.last).age ms };
      is_off = o.is_off;
      is_last = ap (λ x. older ms x) o.is_last;
      enough = omega (arith, enough);
    }
off-heard f d s (Answered k status) total o near off =
    let enough = o.enough in
    record { phase = o.phase; land = o.land; near = near; track = o.track; is_track = o.is_track; ms = o.ms; last = o.last; is_off = o.is_off; is_last = o.is_last; enough = omega (arith, enough) }
off-heard f d s (Said w) total o near off =
    let enough = o.enough in
    record { phase = o.phase; land = o.land; near = near; track = o.track; is_track = o.is_track; ms = o.ms; last = o.last; is_off = o.is_off; is_last = o.is_last; enough = omega (arith, enough) }
off-heard f d s (Seen k x) total o near off = by_drone (eqb k d) refl where
  by_track : (k ≡ d → ⊥) → (q : Option Track) → slice_get s.tracks k ≡ q → slice_get (tracked f s k x q) d ≡ Some o.track
  by_track n None at = o.is_track
  by_track n (Some t) at = put-other s.tracks k d (track_with f s k t x) n ∙ o.is_track

  by_drone : (b : Bool) → eqb k d ≡ b → IsOff f d (heard f s (Seen k x)) (total + 0)
  by_drone true q =
      let same = eqb-true k d q in
      let off_now = off x (ap (λ n. Seen n x) same) in
      let enough = o.enough in
      record {
        phase = o.phase;
        land = o.land;
        near = near;
        track = track_with f s d o.track x;
        is_track = subst (λ n. slice_get (tracks_after f s (Seen n x)) d ≡ Some (track_with f s d o.track x)) (sym same) (seen-track f s d x o.track o.is_track);
        ms = later o.ms ((o.last).age - x.age);
        last = x;
        is_off = off-with f s d o.track x off_now
            ∙ (ap (λ (m : Option ℕ). Some (off_with m (o.track).seen x)) o.is_off ∙ ap (λ (y : Option Sample). Some (off_with (Some o.ms) y x)) o.is_last);
        is_last = refl;
        enough = omega (arith, enough);
      }
  by_drone false q =
      let enough = o.enough in
      record {
        phase = o.phase;
        land = o.land;
        near = near;
        track = o.track;
        is_track = by_track (eqb-false k d q) (slice_get s.tracks k) refl;
        ms = o.ms;
        last = o.last;
        is_off = o.is_off;
        is_last = o.is_last;
        enough = omega (arith, enough);
      }

-- the sample that is taken 300 ms after the first
off-last : (f : Flight) (d : ℕ) (s : State) (total : ℕ) (x : Sample) → IsOff f d s total → is_off_hold f s d x ≡ true → 300 + x.age ≤ total → 300 + x.age ≤ most_ms → LandsOrWaits f s (Seen d x)
off-last f d s total x o off long counted =
    let enough = o.enough in
    let short : o.ms < 300 = leb-false 300 o.ms (sym (ap is_astray o.is_off) ∙ o.near d o.track o.is_track) in
    let lasting : HasLasted (o.track).off (o.track).seen x = record {
      ms = o.ms;
      last = o.last;
      is_lasting = o.is_off;
      is_last = o.is_last;
      short = short;
      long = omega (arith, enough, short, long, counted);
    } in
    (alarm_law.astray f s d x o.track o.is_track off lasting).lands o.phase o.land

-- ---- the law

next-same : (f : Flight) (s : State) (e : Event) → choice f s e ≡ Begin → (happens f s e).next ≡ s.next → ⊥
next-same f s e same still = let more = happens-next f s e same in omega (arith, more, still)

module _ (f : Flight) (d : ℕ) (x : Sample) where
  -- the way isn't left by the last sample
  stays : (s : State) (es : List Event) → is_off_hold f (after f s es) d x ≡ true → s.phase ≡ Steps
  stays s es off = by_phase s.phase refl where
    by_other : (s.phase ≡ Steps → ⊥) → ⊥
    by_other n = left-all f s es (λ g. absurd (n g)) (off-steps f (after f s es) d x off)

    by_phase : (p : Phase) → s.phase ≡ p → s.phase ≡ Steps
    by_phase Steps e = e
    by_phase Landing h = absurd (by_other (λ g. other (sym g ∙ h))) where
      other : Steps ≡ Landing → ⊥
      other e = cc
    by_phase Off h = absurd (by_other (λ g. other (sym g ∙ h))) where
      other : Steps ≡ Off → ⊥
      other e = cc
    by_phase Halted h = absurd (by_other (λ g. other (sym g ∙ h))) where
      other : Steps ≡ Halted → ⊥
      other e = cc
    by_phase Ended h = absurd (by_other (λ g. other (sym g ∙ h))) where
      other : Steps ≡ Ended → ⊥
      other e = cc

  -- nor was a landing wanted before it
  calm-before : (s : State) (es : List Event) → is_off_hold f (after f s es) d x ≡ true → (after f s es).wanted ≡ false → s.wanted ≡ false
  calm-before s [] off calm = calm
  calm-before s (e ∷ es) off calm = was-calm f s e (stays (happens f s e) es off) (calm-before (happens f s e) es off calm)

  run : (es : List Event) (s : State) (total : ℕ) → IsOff f d s total → StaysOff f d s es → is_off_hold f (after f s es) d x ≡ true → (after f s es).wanted ≡ false →
      300 + x.age ≤ total + time es → 300 + x.age ≤ most_ms → LandsOrWaits f (after f s es) (Seen d x)
  run [] s total o off last calm long counted = off-last f d s total x o last (omega (arith, long)) counted
  run (e ∷ es) s total o off last calm long counted =
      by_choice (λ more. run es (happens f s e) (total + passed e) more off.2 last calm (omega (arith, long)) counted) (choice f s e) refl (on-choice f s e on still) where
        on : (happens f s e).phase ≡ Steps
        on = stays (happens f s e) es last

        still : (happens f s e).wanted ≡ false
        still = calm-before (happens f s e) es last calm

        near : Near (tracks_after f s e)
        near = near-after f s e o.near o.land (λ k y is. rest-calm f s e k y o.phase on still is)

        by_choice : (IsOff f d (happens f s e) (total + passed e) → LandsOrWaits f (after f (happens f s e) es) (Seen d x)) →
            (c : Choice) → choice f s e ≡ c → IsOn c → LandsOrWaits f (after f (happens f s e) es) (Seen d x)
        by_choice again c same Rests = again (subst (λ t. IsOff f d t (total + passed e)) (sym (rest-heard f s e same)) (off-heard f d s e total o near off.0))
        by_choice again c same Begins = absurd (next-same f s e same off.1)

  begin : (s : State) (y : Sample) (es : List Event) → IsNear f s → IsToLand f s → d < length s.tracks → StaysOff f d s (Seen d y ∷ es) → is_off_hold f (after f (happens f s (Seen d y)) es) d x ≡ true →
      (after f (happens f s (Seen d y)) es).wanted ≡ false → 300 + x.age ≤ y.age + time es → 300 + x.age ≤ most_ms → LandsOrWaits f (after f (happens f s (Seen d y)) es) (Seen d x)
  begin s y es near land l off last calm long counted = by_choice (choice f s first) refl (on-choice f s first on still) where
    first : Event
    first = Seen d y

    off_now : is_off_hold f s d y ≡ true
    off_now = off.0 y refl

    phase : s.phase ≡ Steps
    phase = off-steps f s d y off_now

    on : (happens f s first).phase ≡ Steps
    on = stays (happens f s first) es last

    still : (happens f s first).wanted ≡ false
    still = calm-before (happens f s first) es last calm

    after_it : Near (tracks_after f s first)
    after_it = near-after f s first (near phase (was-calm f s first on still) land) land (λ k z is. rest-calm f s first k z phase on still is)

    by_choice : (c : Choice) → choice f s first ≡ c → IsOn c → LandsOrWaits f (after f (happens f s first) es) (Seen d x)
    by_choice c same Rests =
        run es (happens f s first) y.age
        (subst (λ t. IsOff f d t y.age) (sym (rest-heard f s first same)) (off-first f d s y phase land after_it l off_now)) off.2 last calm long counted
    by_choice c same Begins = absurd (next-same f s first same off.1)

lands : (f : Flight) (d : ℕ) (earlier between : List Event) (first last : Sample) → IsOffFor f d earlier between first last →
    LandsOrWaits f (after f (start f) (earlier ++ Seen d first ∷ between)) (Seen d last)
lands f d earlier between first last o = subst (λ t. LandsOrWaits f t (Seen d last)) (sym is) (by_wanted t.wanted refl) where
  s : State
  s = after f (start f) earlier

  t : State
  t = after f s (Seen d first ∷ between)

  is : after f (start f) (earlier ++ Seen d first ∷ between) ≡ t
  is = after-append f (start f) earlier (Seen d first ∷ between)

  off : is_off_hold f t d last ≡ true
  off = subst (λ u. is_off_hold f u d last ≡ true) is o.still

  by_wanted : (b : Bool) → t.wanted ≡ b → LandsOrWaits f t (Seen d last)
  by_wanted true wanted = still-wanted f t (Seen d last) (off-steps f t d last off) refl wanted
  by_wanted false calm = begin f d last s first between (near-all f (start f) earlier (near-start f)) o.to_land o.known o.stays off calm o.long o.counted

-- ---- what each step holds

pair-second : (a b : ℕ → Step) (i n k : ℕ) (rest : List Step) → k < n → slice_get (flat_map (λ j. a j ∷ b j ∷ []) (range_with_len i n) ++ rest) (suc (twice k)) ≡ Some (b (i + k))
pair-second a b i zero k rest l = absurd (omega (arith, l))
pair-second a b i (suc n) zero rest l = let e : i ≡ i + 0 = omega arith in ap (λ j. Some (b j)) e
pair-second a b i (suc n) (suc k) rest l =
    pair-second a b (i + 1) n k rest (omega (arith, l)) ∙ (let e : i + 1 + k ≡ i + suc k = omega arith in ap (λ j. Some (b j)) e)

-- the hold after the step of this number
after-step : (f : Flight) (w : Routes) (n : ℕ) (step : Step) → f.steps ≡ steps_of w → slice_get (steps_of w) n ≡ Some step → last_hold f (suc n) ≡ step.holds
after-step f w n step steps is = ap (λ (xs : List Step). held_by (slice_get xs n)) steps ∙ ap held_by is

armed : (f : Flight) (w : Routes) → f.steps ≡ steps_of w → (k : ℕ) → k < leg_count (map legs_of w.up) → last_hold f (suc (suc (twice k))) ≡ hold_in stretch.Up (ms_until (map legs_of w.up) k) 0
unfolding steps_of
armed f w steps k l =
    after-step f w (suc (twice k)) (arm_step w (map legs_of w.up) k) steps
    (pair-at (arm_step w (map legs_of w.up)) (up_step w (map legs_of w.up)) 0 (leg_count (map legs_of w.up)) k _ l
    ∙ (let e : 0 + k ≡ k = omega arith in ap (λ j. Some (arm_step w (map legs_of w.up) j)) e))

up : (f : Flight) (w : Routes) → f.steps ≡ steps_of w → (k : ℕ) → k < leg_count (map legs_of w.up) →
    last_hold f (suc (suc (suc (twice k)))) ≡ hold_in stretch.Up (ms_until (map legs_of w.up) k) (leg_ms (map legs_of w.up) k)
unfolding steps_of
up f w steps k l =
    after-step f w (suc (suc (twice k))) (up_step w (map legs_of w.up) k) steps
    (pair-second (arm_step w (map legs_of w.up)) (up_step w (map legs_of w.up)) 0 (leg_count (map legs_of w.up)) k _ l
    ∙ (let e : 0 + k ≡ k = omega arith in ap (λ j. Some (up_step w (map legs_of w.up) j)) e))

show : (f : Flight) (w : Routes) → f.steps ≡ steps_of w → last_hold f (suc (suc (twice (leg_count (map legs_of w.up))))) ≡ hold_in stretch.Show 0 (lasts w.show)
unfolding steps_of
show f w steps =
    let n = leg_count (map legs_of w.up) in
    let e : twice n ≡ twice n + 0 = omega arith in
    after-step f w (suc (twice n)) (start_step w (lasts w.show) (map legs_of w.up)) steps
    (ap (λ j. slice_get (steps_of w) (suc j)) e ∙ pair-past (arm_step w (map legs_of w.up)) (up_step w (map legs_of w.up)) 0 n 0 _)

down : (f : Flight) (w : Routes) → f.steps ≡ steps_of w → (k : ℕ) → k < leg_count (map legs_of w.down) →
    last_hold f (suc (suc (twice (leg_count (map legs_of w.up)) + suc k))) ≡ hold_in stretch.Down (ms_until (map legs_of w.down) k) (leg_ms (map legs_of w.down) k)
down f w steps k l =
    after-step f w (suc (twice (leg_count (map legs_of w.up)) + suc k)) (down_step w (lasts w.show) (map legs_of w.down) k) steps (down-step w k l)

pub hold_law : HoldLaw
hold_law = record { armed = armed; up = up; show = show; down = down; lands = lands }
