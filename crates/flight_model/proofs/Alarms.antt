-- What is wrong is told, and lands all.
use Rattle.flight_model.proofs.Prelude.{◌≡◌, ◌≢◌, ◌<◌, ◌≤◌, ◌+◌, ◌-◌, ◌∷◌, ◌∙◌, ◌||◌, ◌&&◌, [], List, Bool, true, false, cond, not, refl, sym, ap, subst, None, Some, Option, ℕ, zero, suc, leb, ltb, eqb, arith, le-leb, lt-leb, le-ltb, lt-ltb, ne_eqb, All-nil, All-cons, All-contains, Contains-append_left, Contains-append_right, All, Contains, slice_get, list_any, Sample, Event, Clock, Seen, Answered, Said, Fault, Silent, Astray, Lost, Refused, Late, Unsure, Outside, Note, Step, Flight, Track, State, Steps, is_due, next_step, is_off_hold, is_outside, is_lost, is_astray, is_late_step, is_flying, falls_silent, silent_from, later, off_with, note_if, sample_notes, seen_notes, track_with, noticed, overdue, unfit_in, is_grave, note_of, HasLasted, Alarms, IsToLand, AlarmLaw, ◌⊎◌, inl, inr, awaits, are_listed, and-false, LandsOrWaits}
use Rattle.flight_model.specs.declared.events.Signal.TheVariants as signal
unfoldable use Rattle.flight_model.specs.Directors.{heard, notes, is_fault}
use Rattle.flight_model.proofs.Ending.{fault_law}

-- ---- a note that is grave

or-false : (a b : Bool) → a || b ≡ false → (a ≡ false) × (b ≡ false)
or-false true b h = absurd (cc)
or-false false b h = (refl, h)

none-of : (p : Note → Bool) (ns : List Note) → list_any p ns ≡ false → All (λ n. p n ≡ false) ns
none-of p [] e = All-nil (λ n. p n ≡ false)
none-of p (n ∷ ns) e = let q = or-false (p n) (list_any p ns) e in All-cons (λ n. p n ≡ false) n ns q.0 (none-of p ns q.1)

any-of : (p : Note → Bool) (ns : List Note) (n : Note) → Contains ns n → p n ≡ true → list_any p ns ≡ true
any-of p ns n has is = by_any (list_any p ns) refl where
  by_any : (b : Bool) → list_any p ns ≡ b → list_any p ns ≡ true
  by_any true e = e
  by_any false e = let no : p n ≡ false = All-contains (λ m. p m ≡ false) ns n (none-of p ns e) has in absurd (cc)

alarm-lands : (f : Flight) (s : State) (e : Event) (n : Note) → e ≢ Said signal.Stop → Contains (notes f s e) n → is_grave f s n.fault ≡ true → s.phase ≡ Steps → LandsOrWaits f s e
unfolding is_fault
alarm-lands f s e n go has grave p = fault_law f s e p go (any-of (λ (m : Note). is_grave f s m.fault) (notes f s e) n has grave)

noticed-in : (f : Flight) (s : State) (e : Event) (n : Note) → Contains (noticed f s e) n → Contains (notes f s e) n
unfolding notes
noticed-in f s e n has = Contains-append_left (noticed f s e) (overdue f (heard f s e) e) n has

noted-if : (b : Bool) (d : ℕ) (fault : Fault) → b ≡ true → Contains (note_if b d fault) (note_of d fault)
noted-if true d fault e = (0, omega arith, refl)
noted-if false d fault e = absurd (cc)

-- not in a show that flies on
to-land : (f : Flight) (s : State) → IsToLand f s → not (s.showing && f.flies_on) ≡ true
to-land f s h = ap not h

-- ---- an answer

refused : (f : Flight) (s : State) (d status : ℕ) → status ≢ 0 → Alarms f s (Answered d status) (note_of d Refused) (Unit {0})
refused f s d status bad =
    let has = noticed-in f s (Answered d status) (note_of d Refused) (noted-if (not (eqb status 0)) d Refused (ap not (ne_eqb status 0 bad))) in
    record { noted = has; lands = λ p g. alarm-lands f s (Answered d status) (note_of d Refused) (λ e. cc) has refl p }

-- ---- a sample

sampled : (f : Flight) (s : State) (d : ℕ) (x : Sample) (t : Track) (n : Note) → slice_get s.tracks d ≡ Some t → Contains (sample_notes d t (track_with f s d t x)) n → Contains (notes f s (Seen d x)) n
sampled f s d x t n at has = noticed-in f s (Seen d x) n (subst (λ o. Contains (seen_notes f s d x o) n) (sym at) has)

both-true : (a b : Bool) → a ≡ false → b ≡ true → not a && b ≡ true
both-true a b x y = rw (x, y) refl

lost : (f : Flight) (s : State) (d : ℕ) (x : Sample) (t : Track) → slice_get s.tracks d ≡ Some t → is_lost t.seen ≡ false → x.lost ≡ true →
    Alarms f s (Seen d x) (note_of d Lost) (IsToLand f s)
lost f s d x t at before now =
    let u = track_with f s d t x in
    let has = sampled f s d x t (note_of d Lost) at
    (Contains-append_left (note_if (not (is_lost t.seen) && is_lost u.seen) d Lost) _ (note_of d Lost) (noted-if (not (is_lost t.seen) && is_lost u.seen) d Lost (both-true (is_lost t.seen) x.lost before now))) in
    record { noted = has; lands = λ p g. alarm-lands f s (Seen d x) (note_of d Lost) (λ e. cc) has (to-land f s g) p }

-- what was so for less than 300 ms is so for longer
lasted : (o : Option ℕ) (seen : Option Sample) (x : Sample) → HasLasted o seen x → (is_astray o ≡ false) × (is_astray (Some (off_with o seen x)) ≡ true)
lasted o seen x h =
    let short = h.short in
    let long = h.long in (
      ap is_astray h.is_lasting ∙ lt-leb 300 h.ms short,
      ap (λ p. is_astray (Some (off_with p seen x))) h.is_lasting
          ∙ (ap (λ q. is_astray (Some (off_with (Some h.ms) q x))) h.is_last ∙ le-leb 300 (later h.ms ((h.last).age - x.age)) (omega (arith, long))),
    )

-- a drone that becomes astray with a sample is told of
astray-noted : (f : Flight) (s : State) (d : ℕ) (x : Sample) (t : Track) → slice_get s.tracks d ≡ Some t → is_astray t.off ≡ false → is_astray (track_with f s d t x).off ≡ true →
    Contains (notes f s (Seen d x)) (note_of d Astray)
astray-noted f s d x t at before now =
    let u = track_with f s d t x in
    sampled f s d x t (note_of d Astray) at
    (Contains-append_right (note_if (not (is_lost t.seen) && is_lost u.seen) d Lost) _ (note_of d Astray)
    (Contains-append_left (note_if (not (is_astray t.off) && is_astray u.off) d Astray) _ (note_of d Astray)
    (noted-if (not (is_astray t.off) && is_astray u.off) d Astray (both-true (is_astray t.off) (is_astray u.off) before now))))

-- and that is grave
pub astray-fault : (f : Flight) (s : State) (d : ℕ) (x : Sample) (t : Track) → slice_get s.tracks d ≡ Some t → is_astray t.off ≡ false → is_astray (track_with f s d t x).off ≡ true →
    IsToLand f s → is_fault f s (Seen d x) ≡ true
unfolding is_fault
astray-fault f s d x t at before now land =
    any-of (λ (m : Note). is_grave f s m.fault) (notes f s (Seen d x)) (note_of d Astray) (astray-noted f s d x t at before now) (to-land f s land)

astray : (f : Flight) (s : State) (d : ℕ) (x : Sample) (t : Track) → slice_get s.tracks d ≡ Some t → is_off_hold f s d x ≡ true → HasLasted t.off t.seen x →
    Alarms f s (Seen d x) (note_of d Astray) (IsToLand f s)
astray f s d x t at off h =
    let u = track_with f s d t x in
    let l = lasted t.off t.seen x h in
    let now : is_astray u.off ≡ true = ap (λ b. is_astray (cond b (Some (off_with t.off t.seen x)) None)) off ∙ l.1 in
    let has = astray-noted f s d x t at l.0 now in
    record { noted = has; lands = λ p g. alarm-lands f s (Seen d x) (note_of d Astray) (λ e. cc) has (to-land f s g) p }

unsure : (f : Flight) (s : State) (d : ℕ) (x : Sample) (t : Track) → slice_get s.tracks d ≡ Some t → x.sure ≡ false → HasLasted t.unsure t.seen x →
    Alarms f s (Seen d x) (note_of d Unsure) (IsToLand f s)
unsure f s d x t at doubt h =
    let u = track_with f s d t x in
    let l = lasted t.unsure t.seen x h in
    let now : is_astray u.unsure ≡ true = ap (λ b. is_astray (cond b None (Some (off_with t.unsure t.seen x)))) doubt ∙ l.1 in
    let has = sampled f s d x t (note_of d Unsure) at
    (Contains-append_right (note_if (not (is_lost t.seen) && is_lost u.seen) d Lost) _ (note_of d Unsure)
    (Contains-append_right (note_if (not (is_astray t.off) && is_astray u.off) d Astray) _ (note_of d Unsure)
    (Contains-append_left (note_if (not (is_astray t.unsure) && is_astray u.unsure) d Unsure) _ (note_of d Unsure)
    (noted-if (not (is_astray t.unsure) && is_astray u.unsure) d Unsure (both-true (is_astray t.unsure) (is_astray u.unsure) l.0 now))))) in
    record { noted = has; lands = λ p g. alarm-lands f s (Seen d x) (note_of d Unsure) (λ e. cc) has (to-land f s g) p }

-- a drone that is outside with a sample, and wasn't with the one before, is told of
outside-noted : (f : Flight) (s : State) (d : ℕ) (x : Sample) (t : Track) → slice_get s.tracks d ≡ Some t → t.outside ≡ false → is_outside f s x ≡ true →
    Contains (notes f s (Seen d x)) (note_of d Outside)
outside-noted f s d x t at before now =
    let u = track_with f s d t x in
    sampled f s d x t (note_of d Outside) at
    (Contains-append_right (note_if (not (is_lost t.seen) && is_lost u.seen) d Lost) _ (note_of d Outside)
    (Contains-append_right (note_if (not (is_astray t.off) && is_astray u.off) d Astray) _ (note_of d Outside)
    (Contains-append_right (note_if (not (is_astray t.unsure) && is_astray u.unsure) d Unsure) _ (note_of d Outside)
    (noted-if (not t.outside && is_outside f s x) d Outside (both-true t.outside (is_outside f s x) before now)))))

-- and that is grave
pub outside-fault : (f : Flight) (s : State) (d : ℕ) (x : Sample) (t : Track) → slice_get s.tracks d ≡ Some t → t.outside ≡ false → is_outside f s x ≡ true →
    IsToLand f s → is_fault f s (Seen d x) ≡ true
unfolding is_fault
outside-fault f s d x t at before now land =
    any-of (λ (m : Note). is_grave f s m.fault) (notes f s (Seen d x)) (note_of d Outside) (outside-noted f s d x t at before now) (to-land f s land)

outside : (f : Flight) (s : State) (d : ℕ) (x : Sample) (t : Track) → slice_get s.tracks d ≡ Some t → t.outside ≡ false → is_outside f s x ≡ true →
    Alarms f s (Seen d x) (note_of d Outside) (IsToLand f s)
outside f s d x t at before now =
    let has = outside-noted f s d x t at before now in
    record { noted = has; lands = λ p g. alarm-lands f s (Seen d x) (note_of d Outside) (λ e. cc) has (to-land f s g) p }

-- ---- time

all-four : (a w b c : Bool) → a ≡ true → w ≡ false → b ≡ false → c ≡ true → a && not w && not b && c ≡ true
all-four a w b c v x y z = rw (v, x, y, z) refl

none-awaits : (f : Flight) (s : State) → (f.windows ≡ None) ⊎ (s.wanted ≡ false) → awaits f s ≡ false
none-awaits f s (inl none) = ap (λ o. s.wanted && are_listed o) none ∙ and-false s.wanted
none-awaits f s (inr calm) = ap (λ b. b && are_listed f.windows) calm

late : (f : Flight) (s : State) (e : Event) (step : Step) → e ≢ Said signal.Stop → s.phase ≡ Steps → (f.windows ≡ None) ⊎ (s.wanted ≡ false) → next_step f s ≡ Some step → step.asked ≡ false →
    step.after + step.settle + 8000 ≤ (heard f s e).waited → is_due f (heard f s e) e ≡ false → (d : ℕ) × Alarms f s e (note_of d Late) (Unit {0})
unfolding notes heard
late f s e step go p calm is asked over idle =
    let h = heard f s e in
    let d = unfit_in f h (next_step f s) in
    let overdue_is : is_late_step h (next_step f s) ≡ true = ap (λ o. is_late_step h o) is ∙ both-true step.asked (leb (step.after + step.settle + 8000) h.waited) asked (le-leb (step.after + step.settle + 8000) h.waited over) in
    let told : Contains (overdue f h e) (note_of d Late) =
    noted-if (is_flying s.phase && not (awaits f s) && not (is_due f h e) && is_late_step h (next_step f s)) d Late
    (all-four (is_flying s.phase) (awaits f s) (is_due f h e) (is_late_step h (next_step f s)) (ap is_flying p) (none-awaits f s calm) idle overdue_is) in
    let has : Contains (notes f s e) (note_of d Late) = Contains-append_right (noticed f s e) (overdue f h e) (note_of d Late) told in
    (d, record { noted = has; lands = λ q g. alarm-lands f s e (note_of d Late) go has refl q })

silent-in : (silence ms k : ℕ) (ts : List Track) (d : ℕ) (t : Track) → slice_get ts d ≡ Some t → falls_silent silence ms t.seen ≡ true →
    Contains (silent_from silence ms k ts) (note_of (k + d) Silent)
silent-in silence ms k [] d t at falls = absurd (cc)
silent-in silence ms k (u ∷ us) zero t at falls =
    let same : u ≡ t = cc in
    let here : k ≡ k + 0 = omega arith in
    subst (λ n. Contains (silent_from silence ms k (u ∷ us)) (note_of n Silent)) here
    (Contains-append_left (note_if (falls_silent silence ms u.seen) k Silent) (silent_from silence ms (suc k) us) (note_of k Silent)
    (noted-if (falls_silent silence ms u.seen) k Silent (subst (λ (v : Track). falls_silent silence ms v.seen ≡ true) (sym same) falls)))
silent-in silence ms k (u ∷ us) (suc d) t at falls =
    let there : suc k + d ≡ k + suc d = omega arith in
    subst (λ n. Contains (silent_from silence ms k (u ∷ us)) (note_of n Silent)) there
    (Contains-append_right (note_if (falls_silent silence ms u.seen) k Silent) (silent_from silence ms (suc k) us) (note_of (suc k + d) Silent)
    (silent-in silence ms (suc k) us d t at falls))

silent : (f : Flight) (s : State) (ms d : ℕ) (t : Track) (x : Sample) → slice_get s.tracks d ≡ Some t → t.seen ≡ Some x → x.age ≤ f.silence → f.silence < later x.age ms →
    Contains (notes f s (Clock ms)) (note_of d Silent)
silent f s ms d t x at seen fresh old =
    noticed-in f s (Clock ms) (note_of d Silent)
    (subst (λ n. Contains (noticed f s (Clock ms)) (note_of n Silent)) (let e : 0 + d ≡ d = omega arith in e)
    (silent-in f.silence ms 0 s.tracks d t at
    (ap (λ o. falls_silent f.silence ms o) seen ∙ both-true (ltb f.silence x.age) (ltb f.silence (later x.age ms)) (le-ltb f.silence x.age fresh) (lt-ltb f.silence (later x.age ms) old))))

pub alarm_law : AlarmLaw
alarm_law = record { refused = refused; lost = lost; astray = astray; unsure = unsure; outside = outside; late = late; silent = silent }
