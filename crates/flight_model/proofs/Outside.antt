-- Who is heard outside of the room while drones are in the air has all land.
use Rattle.flight_model.proofs.Prelude.{◌≡◌, ◌⊎◌, ◌<◌, ◌+◌, ◌∷◌, ◌++◌, ◌∙◌, ◌||◌, ◌&&◌, [], List, Bool, true, false, not, refl, sym, ap, subst, None, Some, Option, ℕ, zero, suc, take, length, eqb, inl, inr, arith, eqb-true, eqb-false, length-set, length-map, Contains-append_cases, ℤ, map, replicate, slice_get, slice_set, Contains, list_any, range_with_len, Order, Sample, Event, Clock, Seen, Answered, Said, Outside, Step, Flight, Phase, Steps, Landing, Off, Halted, Ended, Track, State, Choice, Rest, Begin, Descend, Cut, Quit, Finish, start, sent, after, drones, aged, renewed, tracked, track_with, is_fault, is_rise, order_in, has_risen, any_risen, is_airborne, is_outside, notes, land_order, is_in_room, orders_to, in_step, ordered, only_if, IsToLand, note_of, HasRisen, IsHeardOutside, OutsideLaw, Wait, LandsOrWaits}
use Rattle.flight_model.specs.declared.events.Order.TheVariants as order
unfoldable use Rattle.flight_model.specs.Directors.{tracks_after, heard, choice, led, happens}
use Rattle.flight_model.proofs.Alarms.{alarm_law, outside-fault}
use Rattle.flight_model.proofs.Beginning.{contains-nil, contains-one}
use Rattle.flight_model.proofs.Holds.{got-back, put-here, put-other, some-track, left, IsOn, Rests, Begins, on-choice, rest-calm, was-calm}
use Rattle.flight_model.proofs.Ending.{still-wanted}
use Rattle.flight_model.proofs.Kept.{rest-heard}
use Rattle.flight_model.proofs.Rises.{told-in}
use Rattle.flight_model.proofs.Rooms.{not-in-room}
use Rattle.flight_model.proofs.Telling.{Told, ToldIn, told-all, told-none}

-- ---- each drone has a track

long-after : (f : Flight) (s : State) (e : Event) → length (tracks_after f s e) ≡ length s.tracks
unfolding tracks_after
long-after f s (Clock ms) = length-map s.tracks (aged ms)
long-after f s (Answered d status) = refl
long-after f s (Said w) = refl
long-after f s (Seen d x) = by_track (slice_get s.tracks d) where
  by_track : (o : Option Track) → length (tracked f s d x o) ≡ length s.tracks
  by_track None = refl
  by_track (Some t) = length-set s.tracks d (track_with f s d t x)

long-led : (f : Flight) (h : State) (c : Choice) → length (led f h c).tracks ≡ length h.tracks
unfolding led
long-led f h Rest = refl
long-led f h Begin = length-map h.tracks renewed
long-led f h Descend = refl
long-led f h Wait = refl
long-led f h Cut = refl
long-led f h Quit = refl
long-led f h Finish = refl

long-event : (f : Flight) (s : State) (e : Event) → length (happens f s e).tracks ≡ length s.tracks
unfolding happens heard
long-event f s e = long-led f (heard f s e) (choice f s e) ∙ long-after f s e

long-all : (f : Flight) (s : State) (es : List Event) → length (after f s es).tracks ≡ length s.tracks
long-all f s [] = refl
long-all f s (e ∷ es) = long-all f (happens f s e) es ∙ long-event f s e

long-none : (t : Track) (n : ℕ) → length (replicate n t) ≡ n
long-none t zero = refl
long-none t (suc n) = ap suc (long-none t n)

long : (f : Flight) (es : List Event) → length (after f (start f) es).tracks ≡ drones f
long f es = long-all f (start f) es ∙ long-none (record { seen = None; off = None; unsure = None; outside = false }) (drones f)

-- ---- somebody was told to rise

no-rise : (f : Flight) (a b c : Bool) (z : ℤ) (ms : ℕ) → Contains (only_if a (land_order f) ++ (only_if b order.Disarm ++ only_if c order.Halt)) (order.Rise z ms) → ⊥
no-rise f a b c z ms has = by_first (Contains-append_cases (only_if a (land_order f)) (only_if b order.Disarm ++ only_if c order.Halt) (order.Rise z ms) has) where
  by_one : (d : Bool) (o : Order) → (o ≡ order.Rise z ms → ⊥) → Contains (only_if d o) (order.Rise z ms) → ⊥
  by_one true o n h = n (contains-one o (order.Rise z ms) h)
  by_one false o n h = contains-nil (order.Rise z ms) h

  by_second : Contains (only_if b order.Disarm) (order.Rise z ms) ⊎ Contains (only_if c order.Halt) (order.Rise z ms) → ⊥
  by_second (inl h) = by_one b order.Disarm (λ e. cc) h
  by_second (inr h) = by_one c order.Halt (λ e. cc) h

  by_first : Contains (only_if a (land_order f)) (order.Rise z ms) ⊎ Contains (only_if b order.Disarm ++ only_if c order.Halt) (order.Rise z ms) → ⊥
  by_first (inl h) = by_one a (land_order f) (λ e. cc) h
  by_first (inr h) = by_second (Contains-append_cases (only_if b order.Disarm) (only_if c order.Halt) (order.Rise z ms) h)

in-steps : (f : Flight) (d n : ℕ) (os : List Order) (a b c : Bool) (z : ℤ) (ms : ℕ) → Told f d n os a b c → Contains os (order.Rise z ms) → Contains (ordered d (take n f.steps)) (order.Rise z ms)
in-steps f d n os a b c z ms t has =
    by_case (Contains-append_cases (ordered d (take n f.steps)) (only_if t.landed (land_order f) ++ (only_if t.disarmed order.Disarm ++ only_if t.halted order.Halt)) (order.Rise z ms)
    (subst (λ xs. Contains xs (order.Rise z ms)) t.are has)) where
      by_case : Contains (ordered d (take n f.steps)) (order.Rise z ms) ⊎ Contains (only_if t.landed (land_order f) ++ (only_if t.disarmed order.Disarm ++ only_if t.halted order.Halt)) (order.Rise z ms) →
          Contains (ordered d (take n f.steps)) (order.Rise z ms)
      by_case (inl h) = h
      by_case (inr h) = absurd (no-rise f t.landed t.disarmed t.halted z ms h)

in-phase : (f : Flight) (d n : ℕ) (os : List Order) (p : Phase) (z : ℤ) (ms : ℕ) → ToldIn f d n os p → Contains os (order.Rise z ms) → Contains (ordered d (take n f.steps)) (order.Rise z ms)
in-phase f d n os Steps z ms t has = in-steps f d n os false false false z ms t has
in-phase f d n os Landing z ms t has = in-steps f d n os true false false z ms t has
in-phase f d n os Off z ms t has = in-steps f d n os true true false z ms t has
in-phase f d n os Halted z ms t has = in-steps f d n os true true true z ms t has
in-phase f d n os Ended z ms t has = in-steps f d n os true true true z ms t has

or-right : (a b : Bool) → b ≡ true → a || b ≡ true
or-right true b e = refl
or-right false b e = e

or-left : (a b : Bool) → a ≡ true → a || b ≡ true
or-left true b e = refl
or-left false b e = absurd (cc)

rises-by : (d : ℕ) (steps : List Step) (z : ℤ) (ms : ℕ) → Contains (ordered d steps) (order.Rise z ms) → list_any (λ (step : Step). is_rise (order_in step.orders d)) steps ≡ true
rises-by d [] z ms has = absurd (contains-nil (order.Rise z ms) has)
rises-by d (s ∷ steps) z ms has = by_case (λ h. rises-by d steps z ms h) (Contains-append_cases (in_step (order_in s.orders d)) (ordered d steps) (order.Rise z ms) has) where
  here : Bool
  here = is_rise (order_in s.orders d)

  later : Bool
  later = list_any (λ (step : Step). is_rise (order_in step.orders d)) steps

  by_case : (Contains (ordered d steps) (order.Rise z ms) → later ≡ true) → Contains (in_step (order_in s.orders d)) (order.Rise z ms) ⊎ Contains (ordered d steps) (order.Rise z ms) →
      here || later ≡ true
  by_case more (inl h) = or-left here later (ap is_rise (told-in (order_in s.orders d) (order.Rise z ms) h))
  by_case more (inr h) = or-right here later (more h)

any-in : (p : ℕ → Bool) (i n k : ℕ) → k < n → p (i + k) ≡ true → list_any p (range_with_len i n) ≡ true
any-in p i zero k l is = absurd (omega (arith, l))
any-in p i (suc n) zero l is = let e : i + 0 ≡ i = omega arith in or-left (p i) (list_any p (range_with_len (i + 1) n)) (sym (ap p e) ∙ is)
any-in p i (suc n) (suc k) l is =
    let e : i + suc k ≡ (i + 1) + k = omega arith in
    or-right (p i) (list_any p (range_with_len (i + 1) n)) (any-in p (i + 1) n k (omega (arith, l)) (sym (ap p e) ∙ is))

risen : (f : Flight) (es : List Event) → HasRisen f es → any_risen f (after f (start f) es).next ≡ true
risen f es r =
    let n = (after f (start f) es).next in
    let told = told-all f r.riser (start f) es [] (told-none f r.riser) in
    let has = in-phase f r.riser n (orders_to r.riser (sent f (start f) es)) (after f (start f) es).phase r.z r.ms told r.told in
    let e : 0 + r.riser ≡ r.riser = omega arith in
    any-in (λ d. has_risen f n d) 0 (drones f) r.riser r.known (ap (λ d. has_risen f n d) e ∙ rises-by r.riser (take n f.steps) r.z r.ms has)

-- ---- outside

both : (a b : Bool) → a ≡ true → b ≡ true → a && b ≡ true
both a b p q = rw (p, q) refl

heard-outside : (f : Flight) (es : List Event) (d : ℕ) (x : Sample) → IsHeardOutside f es d x → is_airborne (after f (start f) es).phase ≡ true → is_outside f (after f (start f) es) x ≡ true
heard-outside f es d x h up =
    let s = after f (start f) es in
    both (is_airborne s.phase && any_risen f s.next) (not (is_in_room f.room x)) (both (is_airborne s.phase) (any_risen f s.next) up (risen f es h.risen))
    (ap not (not-in-room f.room x h.out))

-- ---- nobody is outside on a way that goes on

abbrev AllInside : List Track → Type 0
AllInside ts = (d : ℕ) (t : Track) → slice_get ts d ≡ Some t → t.outside ≡ false

inside-after : (f : Flight) (s : State) (e : Event) → AllInside s.tracks → IsToLand f s → ((k : ℕ) (x : Sample) → e ≡ Seen k x → is_fault f s e ≡ false) → AllInside (tracks_after f s e)
unfolding tracks_after
inside-after f s (Clock ms) inside land calm = λ d v e. let b = got-back s.tracks (aged ms) d v e in ap (λ (w : Track). w.outside) b.2 ∙ inside d b.0 b.1
inside-after f s (Answered k status) inside land calm = inside
inside-after f s (Said w) inside land calm = inside
inside-after f s (Seen k x) inside land calm = by_track (slice_get s.tracks k) refl where
  still : (t : Track) → slice_get s.tracks k ≡ Some t → (b : Bool) → is_outside f s x ≡ b → is_outside f s x ≡ false
  still t at false e = e
  still t at true e = let fault = outside-fault f s k x t at (inside k t at) e land in let none = calm k x refl in absurd (cc)

  by_drone : (t : Track) → slice_get s.tracks k ≡ Some t → (d : ℕ) (v : Track) → slice_get (slice_set s.tracks k (track_with f s k t x)) d ≡ Some v → (b : Bool) → eqb k d ≡ b → v.outside ≡ false
  by_drone t at d v e true q =
      let there : slice_get (slice_set s.tracks k (track_with f s k t x)) k ≡ Some v = subst (λ n. slice_get (slice_set s.tracks k (track_with f s k t x)) n ≡ Some v) (sym (eqb-true k d q)) e in
      let one : Some (track_with f s k t x) ≡ Some v = sym (put-here s.tracks k (track_with f s k t x) t at) ∙ there in
      sym (ap (λ o. outside_in o) one) ∙ still t at (is_outside f s x) refl where
        outside_in : Option Track → Bool
        outside_in None = false
        outside_in (Some w) = w.outside
  by_drone t at d v e false q = inside d v (sym (put-other s.tracks k d (track_with f s k t x) (eqb-false k d q)) ∙ e)

  by_track : (o : Option Track) → slice_get s.tracks k ≡ o → AllInside (tracked f s k x o)
  by_track None at = inside
  by_track (Some t) at = λ d v e. by_drone t at d v e (eqb k d) refl

inside-renewed : (ts : List Track) → AllInside (map renewed ts)
inside-renewed ts d v e = let b = got-back ts renewed d v e in ap (λ (w : Track). w.outside) b.2

-- on the way, where no landing is wanted, but in a show that flies on
abbrev IsInside : Flight → State → Type 0
IsInside f s = s.phase ≡ Steps → s.wanted ≡ false → IsToLand f s → AllInside s.tracks

led-inside : (f : Flight) (h : State) (c : Choice) → c ≡ Begin → AllInside (led f h c).tracks
unfolding led
led-inside f h c same = rw same (inside-renewed h.tracks)

heard-inside : (f : Flight) (s : State) (e : Event) → IsInside f s → s.phase ≡ Steps → (happens f s e).phase ≡ Steps → (happens f s e).wanted ≡ false → IsToLand f (heard f s e) → AllInside (heard f s e).tracks
unfolding heard
heard-inside f s e inside p q calm land = inside-after f s e (inside p (was-calm f s e q calm) land) land (λ k x is. rest-calm f s e k x p q calm is)

begun-inside : (f : Flight) (s : State) (e : Event) → choice f s e ≡ Begin → AllInside (happens f s e).tracks
unfolding happens
begun-inside f s e same = led-inside f (heard f s e) (choice f s e) same

-- an event after which the way goes on was on the way
was-on : (f : Flight) (s : State) (e : Event) → (happens f s e).phase ≡ Steps → s.phase ≡ Steps
was-on f s e q = by_phase s.phase refl where
  by_other : (p : Phase) → s.phase ≡ p → (p ≡ Steps → ⊥) → s.phase ≡ Steps
  by_other p is n = absurd (left f s e (λ g. absurd (n (sym is ∙ g))) q)

  by_phase : (p : Phase) → s.phase ≡ p → s.phase ≡ Steps
  by_phase Steps is = is
  by_phase Landing is = by_other Landing is (λ e. cc)
  by_phase Off is = by_other Off is (λ e. cc)
  by_phase Halted is = by_other Halted is (λ e. cc)
  by_phase Ended is = by_other Ended is (λ e. cc)

event-inside : (f : Flight) (s : State) (e : Event) → IsInside f s → IsInside f (happens f s e)
event-inside f s e inside q calm land = by_choice (choice f s e) refl (on-choice f s e q calm) where
  by_choice : (c : Choice) → choice f s e ≡ c → IsOn c → AllInside (happens f s e).tracks
  by_choice c same Rests =
      let is = rest-heard f s e same in
      subst (λ (t : State). AllInside t.tracks) (sym is) (heard-inside f s e inside (was-on f s e q) q calm (subst (λ t. IsToLand f t) is land))
  by_choice c same Begins = begun-inside f s e same

inside-all : (f : Flight) (s : State) (es : List Event) → IsInside f s → IsInside f (after f s es)
inside-all f s [] inside = inside
inside-all f s (e ∷ es) inside = inside-all f (happens f s e) es (event-inside f s e inside)

inside-start : (f : Flight) → IsInside f (start f)
inside-start f p calm land = none (drones f) where
  outside_in : Option Track → Bool
  outside_in None = false
  outside_in (Some t) = t.outside

  none : (n : ℕ) → AllInside (replicate n (record { seen = None; off = None; unsure = None; outside = false }))
  none zero d t e = absurd (cc)
  none (suc n) zero t e = sym (ap outside_in e)
  none (suc n) (suc d) t e = none n d t e

-- ---- the law

track-of : (f : Flight) (es : List Event) (d : ℕ) → d < drones f → (t : Track) × (slice_get (after f (start f) es).tracks d ≡ Some t)
track-of f es d l = let n = long f es in some-track (after f (start f) es).tracks d (omega (arith, n, l))

told : (f : Flight) (es : List Event) (d : ℕ) (x : Sample) → IsHeardOutside f es d x → (after f (start f) es).phase ≡ Steps → IsToLand f (after f (start f) es) →
    (after f (start f) es).wanted ≡ false → Contains (notes f (after f (start f) es) (Seen d x)) (note_of d Outside)
told f es d x h p land calm =
    let t = track-of f es d h.known in
    (alarm_law.outside f (after f (start f) es) d x t.0 t.1 (inside-all f (start f) es (inside-start f) p calm land d t.0 t.1) (heard-outside f es d x h (ap is_airborne p))).noted

lands : (f : Flight) (es : List Event) (d : ℕ) (x : Sample) → IsHeardOutside f es d x → (after f (start f) es).phase ≡ Steps → IsToLand f (after f (start f) es) →
    LandsOrWaits f (after f (start f) es) (Seen d x)
lands f es d x h p land = by_wanted (after f (start f) es).wanted refl where
  by_wanted : (b : Bool) → (after f (start f) es).wanted ≡ b → LandsOrWaits f (after f (start f) es) (Seen d x)
  by_wanted true wanted = still-wanted f (after f (start f) es) (Seen d x) p refl wanted
  by_wanted false calm =
      let t = track-of f es d h.known in
      (alarm_law.outside f (after f (start f) es) d x t.0 t.1 (inside-all f (start f) es (inside-start f) p calm land d t.0 t.1) (heard-outside f es d x h (ap is_airborne p))).lands p land

once : (f : Flight) (es : List Event) (d : ℕ) (x : Sample) (t : Track) → IsHeardOutside f es d x → ((after f (start f) es).phase ≡ Steps) ⊎ ((after f (start f) es).phase ≡ Landing) →
    slice_get (after f (start f) es).tracks d ≡ Some t → t.outside ≡ false → Contains (notes f (after f (start f) es) (Seen d x)) (note_of d Outside)
once f es d x t h up at before = (alarm_law.outside f (after f (start f) es) d x t at before (heard-outside f es d x h (by_phase up))).noted where
  by_phase : ((after f (start f) es).phase ≡ Steps) ⊎ ((after f (start f) es).phase ≡ Landing) → is_airborne (after f (start f) es).phase ≡ true
  by_phase (inl p) = ap is_airborne p
  by_phase (inr p) = ap is_airborne p

pub outside_law : OutsideLaw
outside_law = record { told = told; lands = lands; once = once }
