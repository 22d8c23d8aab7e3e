-- Where the end says that the show was kept, it was.
use Rattle.flight_model.proofs.Prelude.{◌≡◌, ◌⊎◌, ◌<◌, ◌≤◌, ◌+◌, ◌-◌, ◌∷◌, ◌++◌, ◌∙◌, ◌||◌, ◌&&◌, [], List, Bool, true, false, not, min, refl, sym, ap, subst, Some, ℕ, zero, suc, inl, inr, length, leb, ltb, eqb, arith, and_parts, not-true, leb-true, leb-false, le-leb, ltb-true, ltb-false, lt-ltb, eqb-true, ne_eqb, append-nil, append_assoc, All-nil, All-cons, All-contains, Contains-append_cases, slice_get_within, map, slice_get, Contains, list_any, Sample, Event, Clock, Seen, Answered, Said, Frame, ToAll, Noted, Over, Condition, Step, Flight, Phase, Steps, Landing, Off, Halted, Ended, Track, State, Choice, Rest, Begin, Descend, Cut, Quit, Finish, start, sent, after, chosen, is_fault, notes, drones, most_ms, later, passed, older, is_silent, harms, tracks_after, renewed, next_step, starts, starts_with, frames_of_step, frames_from, landings, is_flown, is_off_phase, orders_to, MayBegin, time, IsHeard, IsKeptShow, HasShow, KeptLaw, Wait, awaited}
use Rattle.flight_model.specs.declared.events.Order.TheVariants as order
use Rattle.flight_model.specs.declared.events.Signal.TheVariants as signal
use Rattle.flight_model.specs.declared.flights.Orders.TheVariants.{All as ToEach}
unfoldable use Rattle.flight_model.specs.Samples.{is_kept}
unfoldable use Rattle.flight_model.specs.Directors.{heard, is_due, choice, done, led, happens, says}
use Rattle.flight_model.proofs.OrdersTo.{orders_to-append}
use Rattle.flight_model.proofs.Choices.{steps-has, landing-has, off-has, halted-has}
use Rattle.flight_model.proofs.Telling.{orders_to-says, as_phase}
use Rattle.flight_model.proofs.Beginning.{begin-may}
use Rattle.flight_model.proofs.Ending.{kept-event, rest-leads, rest-told, wait-leads, wait-told}
use Rattle.flight_model.proofs.Flown.{NoOver, no_over-notes, no_over-step, no_over-from, no_over-all, over-not, over-finish}
use Rattle.flight_model.proofs.Shows.{has_show}
use Rattle.flight_model.proofs.Sightings.{time-append, time-snoc, seen_of, seen_of-get, AreSighted, none_sighted, sighted-event, AreKnown, known-event, none-silent, heard-by, heard-on}

-- ---- lists of events

pub after-append : (f : Flight) (s : State) (xs ys : List Event) → after f s (xs ++ ys) ≡ after f (after f s xs) ys
after-append f s [] ys = refl
after-append f s (x ∷ xs) ys = after-append f (happens f s x) xs ys

pub sent-append : (f : Flight) (s : State) (xs ys : List Event) → sent f s (xs ++ ys) ≡ sent f s xs ++ sent f (after f s xs) ys
sent-append f s [] ys = refl
sent-append f s (x ∷ xs) ys =
    ap (λ zs. says f s x ++ zs) (sent-append f (happens f s x) xs ys)
    ∙ sym (append_assoc (says f s x) (sent f (happens f s x) xs) (sent f (after f (happens f s x) xs) ys))

-- what one event more tells a drone
told-snoc : (f : Flight) (xs : List Event) (s : State) (e : Event) (d : ℕ) → after f (start f) xs ≡ s →
    orders_to d (sent f (start f) (xs ++ e ∷ [])) ≡ orders_to d (sent f (start f) xs) ++ orders_to d (says f s e)
told-snoc f xs s e d is =
    ap (λ ys. orders_to d ys) (sent-append f (start f) xs (e ∷ []))
    ∙ (orders_to-append d (sent f (start f) xs) (sent f (after f (start f) xs) (e ∷ []))
    ∙ ap (λ ys. orders_to d (sent f (start f) xs) ++ orders_to d ys) (append-nil (says f (after f (start f) xs) e) ∙ ap (λ t. says f t e) is))

after-snoc : (f : Flight) (xs : List Event) (s : State) (e : Event) → after f (start f) xs ≡ s → after f (start f) (xs ++ e ∷ []) ≡ happens f s e
after-snoc f xs s e is = after-append f (start f) xs (e ∷ []) ∙ ap (λ t. happens f t e) is

-- where one event more splits
snoc-cases : (xs earlier since : List Event) (e a : Event) → xs ++ e ∷ [] ≡ earlier ++ a ∷ since →
    ((xs ≡ earlier) × (e ≡ a)) ⊎ ((older : List Event) × (xs ≡ earlier ++ a ∷ older))
snoc-cases [] [] since e a h = inl (refl, cc)
snoc-cases [] (b ∷ []) since e a h = absurd (cc)
snoc-cases [] (b ∷ (c ∷ cs)) since e a h = absurd (cc)
snoc-cases (x ∷ xs) [] since e a h = let same : x ≡ a = cc in inr (xs, ap (λ y. y ∷ xs) same)
snoc-cases (x ∷ xs) (b ∷ bs) since e a h =
    let same : x ≡ b = cc in
    let rest : xs ++ e ∷ [] ≡ bs ++ a ∷ since = cc in
    elim (snoc-cases xs bs since e a rest) [
      | inl p ↦ inl (ap (λ y. y ∷ xs) same ∙ ap (λ ys. b ∷ ys) p.0, p.1)
      | inr p ↦ inr (p.0, ap (λ y. y ∷ xs) same ∙ ap (λ ys. b ∷ ys) p.1)
    ]

-- ---- an event that says that the flight was flown

contains-one : (a b : Frame) → Contains (a ∷ []) b → b ≡ a
contains-one a b has = All-contains (λ x. x ≡ a) (a ∷ []) b (All-cons (λ x. x ≡ a) a [] refl (All-nil (λ x. x ≡ a))) has

says-done : (f : Flight) (s : State) (e : Event) (flown kept : Bool) → Contains (says f s e) (Over flown kept) → Contains (done f (heard f s e) (choice f s e)) (Over flown kept)
unfolding says
says-done f s e flown kept has =
    elim (Contains-append_cases (map Noted (notes f s e)) (done f (heard f s e) (choice f s e)) (Over flown kept) has) [
      | inl noted ↦ absurd (over-not (map Noted (notes f s e)) flown kept (no_over-notes (notes f s e)) noted)
      | inr here ↦ here
    ]

done-kept : (f : Flight) (h : State) (c : Choice) → c ≡ Finish → Contains (done f h c) (Over true true) → h.kept ≡ true
unfolding done
done-kept f h c same has = by_end (is_flown f h) h.kept (contains-one (Over (is_flown f h) (is_flown f h && h.kept)) (Over true true) (subst (λ x. Contains (done f h x) (Over true true)) same has)) where
  by_end : (b k : Bool) → Over true true ≡ Over b (b && k) → k ≡ true
  by_end true true e = refl
  by_end true false e = absurd (cc)
  by_end false k e = absurd (cc)

led-kept : (f : Flight) (h : State) (c : Choice) → (led f h c).kept ≡ h.kept
unfolding led
led-kept f h Rest = refl
led-kept f h Begin = refl
led-kept f h Descend = refl
led-kept f h Wait = refl
led-kept f h Cut = refl
led-kept f h Quit = refl
led-kept f h Finish = refl

says-kept : (f : Flight) (s : State) (e : Event) → Contains (says f s e) (Over true true) → (happens f s e).kept ≡ true
unfolding happens
says-kept f s e has =
    let here = says-done f s e true true has in
    let end = over-finish f (heard f s e) (choice f s e) true here in
    led-kept f (heard f s e) (choice f s e) ∙ done-kept f (heard f s e) (choice f s e) end.0 here

-- where the show is said to be kept later, it is so after this event
kept-after : (f : Flight) (s : State) (e : Event) (es : List Event) → Contains (sent f s (e ∷ es)) (Over true true) →
    (Contains (sent f (happens f s e) es) (Over true true) → (happens f s e).kept ≡ true) → (happens f s e).kept ≡ true
kept-after f s e es has again =
    elim (Contains-append_cases (says f s e) (sent f (happens f s e) es) (Over true true) has) [
      | inl now ↦ says-kept f s e now
      | inr then ↦ again then
    ]

kept-parts : (f : Flight) (s : State) (e : Event) → (happens f s e).kept ≡ true → (s.kept ≡ true) × (not (harms f s e) ≡ true)
kept-parts f s e after_it = and_parts s.kept (not (harms f s e)) (sym (kept-event f s e) ∙ after_it)

kept-now : (f : Flight) (s : State) (es : List Event) → Contains (sent f s es) (Over true true) → s.kept ≡ true
kept-now f s [] has = absurd (over-not [] true true (All-nil NoOver) has)
kept-now f s (e ∷ es) has = (kept-parts f s e (kept-after f s e es has (λ then. kept-now f (happens f s e) es then))).0

-- and no event harms it
harmless-now : (f : Flight) (s : State) (e : Event) (es : List Event) → Contains (sent f s (e ∷ es)) (Over true true) → harms f s e ≡ false
harmless-now f s e es has =
    not-true (harms f s e) (kept-parts f s e (kept-after f s e es has (λ then. kept-now f (happens f s e) es then))).1

-- ---- a flight that can be flown no more

abbrev NotFlown : Flight → ℕ → Phase → Type 0
NotFlown f n Steps = ⊥
NotFlown f n Landing = n < length f.steps
NotFlown f n Off = n < length f.steps
NotFlown f n Halted = Unit {0}
NotFlown f n Ended = Unit {0}

abbrev NextNot : Flight → State → Phase → Choice → Type 0
NextNot f h p c = NotFlown f (led f (as_phase h p) c).next (led f (as_phase h p) c).phase

not-chosen : (f : Flight) (h : State) (e : Event) (fault : Bool) (p : Phase) → NotFlown f h.next p → NextNot f h p (chosen f (as_phase h p) e fault p)
unfolding led
not-chosen f h e fault Steps t = absurd t
not-chosen f h e fault Landing t = landing-has (NextNot f h Landing) f (as_phase h Landing) e fault (λ stop. tt) (λ go. t) (λ go. t)
not-chosen f h e fault Off t = off-has (NextNot f h Off) f (as_phase h Off) e fault (λ stop. tt) (λ go. tt) (λ go. t)
not-chosen f h e fault Halted t = halted-has (NextNot f h Halted) f (as_phase h Halted) e fault tt tt
not-chosen f h e fault Ended t = tt

not-event : (f : Flight) (s : State) (e : Event) → NotFlown f s.next s.phase → NotFlown f (happens f s e).next (happens f s e).phase
unfolding happens choice heard
not-event f s e t = not-chosen f (heard f s e) e (is_fault f s e) s.phase t

-- what can be said to be flown
flown-in : (f : Flight) (n : ℕ) (p : Phase) → NotFlown f n p → is_off_phase p && eqb n (length f.steps) ≡ true → ⊥
flown-in f n Steps t e = t
flown-in f n Landing t e = cc
flown-in f n Off t e = let same = eqb-true n (length f.steps) e in omega arith
flown-in f n Halted t e = cc
flown-in f n Ended t e = cc

flown-says : (f : Flight) (s : State) (e : Event) (kept : Bool) → Contains (says f s e) (Over true kept) → is_off_phase s.phase && eqb s.next (length f.steps) ≡ true
unfolding heard
flown-says f s e kept has = (over-finish f (heard f s e) (choice f s e) kept (says-done f s e true kept has)).1

never : (f : Flight) (s : State) (events : List Event) (kept : Bool) → NotFlown f s.next s.phase → Contains (sent f s events) (Over true kept) → ⊥
never f s [] kept t has = over-not [] true kept (All-nil NoOver) has
never f s (e ∷ es) kept t has =
    elim (Contains-append_cases (says f s e) (sent f (happens f s e) es) (Over true kept) has) [
      | inl now ↦ flown-in f s.next s.phase t (flown-says f s e kept now)
      | inr then ↦ never f (happens f s e) es kept (not-event f s e t) then
    ]

-- ---- on the way

abbrev IsOnWay : Choice → Type 0
IsOnWay Rest = Unit {0}
IsOnWay Begin = Unit {0}
IsOnWay Descend = Unit {0}
IsOnWay Wait = Unit {0}
IsOnWay Cut = Unit {0}
IsOnWay Quit = ⊥
IsOnWay Finish = ⊥

on_way-chosen : (f : Flight) (h : State) (e : Event) (fault : Bool) (p : Phase) → p ≡ Steps → IsOnWay (chosen f h e fault p)
on_way-chosen f h e fault p same =
    subst (λ q. IsOnWay (chosen f h e fault q)) (sym same)
    (steps-has IsOnWay f h e fault (λ stop. tt) (λ go land may. tt) (λ go land no first. tt) (λ go on due. tt) tt)

on_way : (f : Flight) (s : State) (e : Event) → s.phase ≡ Steps → IsOnWay (choice f s e)
unfolding choice
on_way f s e p = on_way-chosen f (heard f s e) e (is_fault f s e) s.phase p

-- on the way no event says that all is over
says-later : (f : Flight) (s : State) (e : Event) (es : List Event) → s.phase ≡ Steps → Contains (sent f s (e ∷ es)) (Over true true) →
    Contains (sent f (happens f s e) es) (Over true true)
says-later f s e es p has =
    elim (Contains-append_cases (says f s e) (sent f (happens f s e) es) (Over true true) has) [
      | inl now ↦ absurd (none s.phase p (flown-says f s e true now))
      | inr then ↦ then
    ] where
      none : (q : Phase) → q ≡ Steps → is_off_phase q && eqb s.next (length f.steps) ≡ true → ⊥
      none Steps same e = cc
      none Landing same e = cc
      none Off same e = cc
      none Halted same e = cc
      none Ended same e = cc

led-broken : (f : Flight) (h : State) (c : Choice) → (c ≡ Descend) ⊎ (c ≡ Cut) → h.next < length f.steps → NotFlown f (led f h c).next (led f h c).phase
unfolding led
led-broken f h c (inl same) l = rw same l
led-broken f h c (inr same) l = rw same tt

-- a flight that is broken off isn't flown
broken : (f : Flight) (s : State) (e : Event) (es : List Event) → (choice f s e ≡ Descend) ⊎ (choice f s e ≡ Cut) → s.next < length f.steps →
    Contains (sent f (happens f s e) es) (Over true true) → ⊥
unfolding happens heard
broken f s e es same l has = never f (happens f s e) es true (led-broken f (heard f s e) (choice f s e) same l) has

-- where nothing is done
pub rest-heard : (f : Flight) (s : State) (e : Event) → choice f s e ≡ Rest → happens f s e ≡ heard f s e
unfolding happens led
rest-heard f s e same = rw same refl

-- ---- the show

-- from this go on, and with these events, the show is on; and as far as it is kept
record Showing (f : Flight) (k : ℕ) (before during : List Event) (s : State) : Type 0 where
  on : s.showing ≡ true
  phase : s.phase ≡ Steps
  next : s.next ≡ suc k
  waited : s.waited ≡ min (time during) most_ms
  sighted : AreSighted (before ++ Said signal.Go ∷ during) s.tracks
  known : AreKnown (drones f) s.tracks
  at_curve : (earlier since : List Event) (d : ℕ) (x : Sample) → during ≡ earlier ++ Seen d x ∷ since →
      time earlier ≤ most_ms → x.age ≤ time earlier → time earlier - x.age ≤ f.show_ms → (is_kept f d (time earlier - x.age) x ≡ true) × (x.sure ≡ true)
  heard : (d ms : ℕ) → d < drones f → ms ≤ time during → ms ≤ f.show_ms → IsHeard f.silence (before ++ Said signal.Go ∷ during) d (time before + ms)
  told : (d : ℕ) → orders_to d (sent f (start f) (before ++ Said signal.Go ∷ during)) ≡ orders_to d (sent f (start f) before) ++ order.Start ∷ []
  is : after f (start f) (before ++ Said signal.Go ∷ during) ≡ s

-- a clock that harms no show
clock-harmless : (f : Flight) (s : State) (ms : ℕ) → s.showing ≡ true → s.waited < f.show_ms → harms f s (Clock ms) ≡ false →
    list_any (λ (t : Track). is_silent f.silence (older (min ms (f.show_ms - s.waited)) t.seen)) s.tracks ≡ false
clock-harmless f s ms on l h =
    by_parts s.showing (ltb s.waited f.show_ms) (list_any (λ (t : Track). is_silent f.silence (older (min ms (f.show_ms - s.waited)) t.seen)) s.tracks) on (lt-ltb s.waited f.show_ms l) h where
      by_parts : (a b c : Bool) → a ≡ true → b ≡ true → (a && b) && c ≡ false → c ≡ false
      by_parts true true c p q h = h
      by_parts true false c p q h = absurd (cc)
      by_parts false b c p q h = absurd (cc)

-- a sample that harms no show
sample-harmless : (f : Flight) (s : State) (d : ℕ) (x : Sample) → s.showing ≡ true → x.age ≤ s.waited → s.waited - x.age ≤ f.show_ms →
    harms f s (Seen d x) ≡ false → (is_kept f d (s.waited - x.age) x ≡ true) × (x.sure ≡ true)
sample-harmless f s d x on l m h =
    by_parts s.showing (leb x.age s.waited) (leb (s.waited - x.age) f.show_ms) (is_kept f d (s.waited - x.age) x) x.sure
    on (le-leb x.age s.waited l) (le-leb (s.waited - x.age) f.show_ms m) h where
      by_parts : (a b c k u : Bool) → a ≡ true → b ≡ true → c ≡ true → (((a && b) && c) && not k) || (((a && b) && c) && not u) ≡ false → (k ≡ true) × (u ≡ true)
      by_parts true true true true true p q r h = (refl, refl)
      by_parts true true true true false p q r h = absurd (cc)
      by_parts true true true false u p q r h = absurd (cc)
      by_parts true true false k u p q r h = absurd (cc)
      by_parts true false c k u p q r h = absurd (cc)
      by_parts false b c k u p q r h = absurd (cc)

waited-heard : (f : Flight) (s : State) (e : Event) → (heard f s e).waited ≡ min (s.waited + passed e) most_ms
unfolding heard
waited-heard f s e = refl

phase-heard : (f : Flight) (s : State) (e : Event) → (heard f s e).phase ≡ s.phase
unfolding heard
phase-heard f s e = refl

next-heard : (f : Flight) (s : State) (e : Event) → (heard f s e).next ≡ s.next
unfolding heard
next-heard f s e = refl

led-next : (f : Flight) (h : State) (c : Choice) → c ≡ Begin → (led f h c).next ≡ suc h.next
unfolding led
led-next f h c same = rw same refl

pub happens-next : (f : Flight) (s : State) (e : Event) → choice f s e ≡ Begin → (happens f s e).next ≡ suc s.next
unfolding happens
happens-next f s e same = led-next f (heard f s e) (choice f s e) same ∙ ap suc (next-heard f s e)

module _ (f : Flight) (has : HasShow f) (before : List Event) where
  abbrev so_far : List Event → List Event
  so_far during = before ++ Said signal.Go ∷ during

  so_far-snoc : (during : List Event) (e : Event) → so_far during ++ e ∷ [] ≡ so_far (during ++ e ∷ [])
  so_far-snoc during e = append_assoc before (Said signal.Go ∷ during) (e ∷ [])

  time-so_far : (during : List Event) → time (so_far during) ≡ time before + time during
  time-so_far during = let t = time-append before (Said signal.Go ∷ during) in omega (arith, t)

  -- no drone is silent while an event passes that harms nothing
  heard-clock : (during : List Event) (s : State) (m d ms : ℕ) → Showing f has.number before during s → harms f s (Clock m) ≡ false → d < drones f →
      time during < ms → ms ≤ time during + m → ms ≤ f.show_ms → IsHeard f.silence (so_far during) d (time before + ms)
  heard-clock during s m d ms sh harmless l past upto inside =
      let short = has.short in
      let waited : s.waited ≡ time during = let w = sh.waited in omega (arith, w, past, inside, short) in
      let none = clock-harmless f s m sh.on (let w = waited in omega (arith, w, past, inside)) harmless in
      let k = sh.known d l in
      let quiet : is_silent f.silence (older (min m (f.show_ms - s.waited)) (Some k.0)) ≡ false =
      subst (λ o. is_silent f.silence (older (min m (f.show_ms - s.waited)) o) ≡ false) k.1 (none-silent f.silence (min m (f.show_ms - s.waited)) s.tracks none d) in
      let fresh : later (k.0).age (min m (f.show_ms - s.waited)) ≤ f.silence = ltb-false f.silence (later (k.0).age (min m (f.show_ms - s.waited))) quiet in
      let total = time-so_far during in
      let few = has.heard in
      heard-by f.silence (so_far during) d (time before + ms) k.0 few (sh.sighted d k.0 k.1)
      (omega (arith, total, past)) (omega (arith, total, past, upto, inside, fresh, waited, few))

  heard-to : (during : List Event) (s : State) (e : Event) (d ms : ℕ) → Showing f has.number before during s → harms f s e ≡ false → d < drones f →
      ms ≤ time during + passed e → ms ≤ f.show_ms → IsHeard f.silence (so_far during) d (time before + ms)
  heard-to during s e d ms sh harmless l upto inside = by_time (leb ms (time during)) refl where
    by_event : (e : Event) → harms f s e ≡ false → ms ≤ time during + passed e → time during < ms → IsHeard f.silence (so_far during) d (time before + ms)
    by_event (Clock m) h u p = heard-clock during s m d ms sh h l p u inside
    by_event (Seen k x) h u p = absurd (omega (arith, u, p))
    by_event (Answered k status) h u p = absurd (omega (arith, u, p))
    by_event (Said w) h u p = absurd (omega (arith, u, p))

    by_time : (b : Bool) → leb ms (time during) ≡ b → IsHeard f.silence (so_far during) d (time before + ms)
    by_time true h = sh.heard d ms l (leb-true ms (time during) h) inside
    by_time false h = by_event e harmless upto (leb-false ms (time during) h)

  -- and each sample is at its curve
  curve-on : (during : List Event) (s : State) (e : Event) → Showing f has.number before during s → harms f s e ≡ false →
      (earlier since : List Event) (d : ℕ) (x : Sample) → during ++ e ∷ [] ≡ earlier ++ Seen d x ∷ since →
      time earlier ≤ most_ms → x.age ≤ time earlier → time earlier - x.age ≤ f.show_ms → (is_kept f d (time earlier - x.age) x ≡ true) × (x.sure ≡ true)
  curve-on during s e sh harmless earlier since d x split short old inside =
      elim (snoc-cases during earlier since e (Seen d x) split) [
        | inl p ↦
            let now : time during ≡ time earlier = ap time p.0 in
            let waited : s.waited ≡ time earlier = let w = sh.waited in omega (arith, w, now, short) in
            let harm : harms f s (Seen d x) ≡ false = subst (λ a. harms f s a ≡ false) p.1 harmless in
            subst (λ n. (is_kept f d (n - x.age) x ≡ true) × (x.sure ≡ true)) waited
            (sample-harmless f s d x sh.on (omega (arith, waited, old)) (omega (arith, waited, inside)) harm)
        | inr p ↦ sh.at_curve earlier p.0 d x p.1 short old inside
      ]

  -- at an event at which no step begins the show goes on, whether a landing is wanted or not
  showing-heard : (during : List Event) (s : State) (e : Event) (wanted : Bool) → Showing f has.number before during s → ((d : ℕ) → orders_to d (says f s e) ≡ []) →
      happens f s e ≡ record (heard f s e) { wanted = wanted } → harms f s e ≡ false →
      Showing f has.number before (during ++ e ∷ []) (record (heard f s e) { wanted = wanted })
  unfolding heard
  showing-heard during s e wanted sh nothing leads harmless = record {
    on = sh.on;
    phase = sh.phase;
    next = sh.next;
    waited = let w = sh.waited in let t = time-snoc during e in omega (arith, w, t);
    sighted = subst (λ xs. AreSighted xs (tracks_after f s e)) (so_far-snoc during e) (sighted-event f (so_far during) s e sh.sighted);
    known = known-event f (drones f) s e sh.known;
    at_curve = curve-on during s e sh harmless;
    heard = λ d ms l upto inside. subst (λ xs. IsHeard f.silence xs d (time before + ms)) (so_far-snoc during e)
        (heard-on f.silence (so_far during) d (time before + ms) e
        (heard-to during s e d ms sh harmless l (let t = time-snoc during e in omega (arith, t, upto)) inside));
    told = λ d. subst (λ xs. orders_to d (sent f (start f) xs) ≡ orders_to d (sent f (start f) before) ++ order.Start ∷ []) (so_far-snoc during e)
        (told-snoc f (so_far during) s e d sh.is ∙ (ap (λ os. orders_to d (sent f (start f) (so_far during)) ++ os) (nothing d)
        ∙ (append-nil (orders_to d (sent f (start f) (so_far during))) ∙ sh.told d)));
    is = subst (λ xs. after f (start f) xs ≡ record (heard f s e) { wanted = wanted }) (so_far-snoc during e) (after-snoc f (so_far during) s e sh.is ∙ leads);
  }

  -- the step after the start begins
  ended : (during : List Event) (s : State) (e : Event) (es : List Event) → Showing f has.number before during s → choice f s e ≡ Begin → harms f s e ≡ false →
      IsKeptShow f (so_far (during ++ e ∷ es))
  ended during s e es sh same harmless =
      let m = begin-may f s e same in
      let is : Some m.step ≡ Some has.next = sym m.is_next ∙ (ap (λ n. slice_get f.steps n) sh.next ∙ has.is_next) in
      let over : f.show_ms ≤ time during + passed e = by_step m.step m.time (by_some m.step has.next is) in
      record {
        before = before;
        during = during;
        last = e;
        rest = es;
        are = refl;
        started = sh.told;
        whole = let t = time-snoc during e in omega (arith, t, over);
        moves_on = ap (λ (xs : List Event). (after f (start f) xs).next) (sym (so_far-snoc during e))
            ∙ (ap (λ (t : State). t.next) (after-snoc f (so_far during) s e sh.is)
            ∙ (happens-next f s e same ∙ ap (λ (t : State). suc t.next) (sym sh.is)));
        at_curve = curve-on during s e sh harmless;
        heard = λ d ms l inside. heard-to during s e d ms sh harmless l (omega (arith, over, inside)) inside;
      } where
        by_some : (a b : Step) → Some a ≡ Some b → a ≡ b
        by_some a b h = cc

        by_step : (step : Step) → step.after ≤ (heard f s e).waited → step ≡ has.next → f.show_ms ≤ time during + passed e
        by_step step l same =
            let a : step.after ≡ (has.next).after = ap (λ (x : Step). x.after) same in
            let w = sh.waited in
            let v = waited-heard f s e in
            let over = has.waits in
            omega (arith, a, w, v, l, over)

  inside-steps : has.number < length f.steps
  inside-steps = slice_get_within f.steps has.number has.starting has.is_starting

  -- one event of the show, and what comes after it
  during-choice : (during : List Event) (s : State) (e : Event) (es : List Event) → Showing f has.number before during s →
      Contains (sent f (happens f s e) es) (Over true true) → harms f s e ≡ false →
      (Showing f has.number before (during ++ e ∷ []) (happens f s e) → IsKeptShow f (so_far ((during ++ e ∷ []) ++ es))) →
      (c : Choice) → choice f s e ≡ c → IsKeptShow f (so_far (during ++ e ∷ es))
  during-choice during s e es sh then harmless again Rest same =
      let is = rest-leads f s e same in
      subst (λ xs. IsKeptShow f (so_far xs)) (append_assoc during (e ∷ []) es)
      (again (subst (λ t. Showing f has.number before (during ++ e ∷ []) t) (sym is) (showing-heard during s e s.wanted sh (λ d. rest-told f s e d same) is harmless)))
  during-choice during s e es sh then harmless again Wait same =
      let is = wait-leads f s e same in
      subst (λ xs. IsKeptShow f (so_far xs)) (append_assoc during (e ∷ []) es)
      (again (subst (λ t. Showing f has.number before (during ++ e ∷ []) t) (sym is) (showing-heard during s e true sh (λ d. wait-told f s e d same) is harmless)))
  during-choice during s e es sh then harmless again Begin same = ended during s e es sh same harmless
  during-choice during s e es sh then harmless again Descend same =
      absurd (broken f s e es (inl same) (let n = sh.next in let l = slice_get_within f.steps (suc has.number) has.next has.is_next in omega (arith, n, l)) then)
  during-choice during s e es sh then harmless again Cut same =
      absurd (broken f s e es (inr same) (let n = sh.next in let l = slice_get_within f.steps (suc has.number) has.next has.is_next in omega (arith, n, l)) then)
  during-choice during s e es sh then harmless again Quit same = absurd (subst IsOnWay same (on_way f s e sh.phase))
  during-choice during s e es sh then harmless again Finish same = absurd (subst IsOnWay same (on_way f s e sh.phase))

  kept-during : (during : List Event) (s : State) (es : List Event) → Showing f has.number before during s → Contains (sent f s es) (Over true true) →
      IsKeptShow f (so_far (during ++ es))
  kept-during during s [] sh over = absurd (over-not [] true true (All-nil NoOver) over)
  kept-during during s (e ∷ es) sh over =
      let then = says-later f s e es sh.phase over in
      during-choice during s e es sh then (harmless-now f s e es over) (λ more. kept-during (during ++ e ∷ []) (happens f s e) es more then) (choice f s e) refl

-- ---- the start

some-get : (xs : List Condition) (d : ℕ) → d < length xs → (w : Condition) × (slice_get xs d ≡ Some w)
some-get [] d l = absurd (omega (arith, l))
some-get (x ∷ xs) zero l = (x, refl)
some-get (x ∷ xs) (suc d) l = some-get xs d (omega (arith, l))

seen_of-renewed : (ts : List Track) (d : ℕ) → seen_of (map renewed ts) d ≡ seen_of ts d
seen_of-renewed [] d = refl
seen_of-renewed (t ∷ ts) zero = refl
seen_of-renewed (t ∷ ts) (suc d) = seen_of-renewed ts d

seen-led : (f : Flight) (h : State) (c : Choice) (d : ℕ) → seen_of (led f h c).tracks d ≡ seen_of h.tracks d
unfolding led
seen-led f h Rest d = refl
seen-led f h Begin d = seen_of-renewed h.tracks d
seen-led f h Descend d = refl
seen-led f h Wait d = refl
seen-led f h Cut d = refl
seen-led f h Quit d = refl
seen-led f h Finish d = refl

seen-happens : (f : Flight) (s : State) (e : Event) (d : ℕ) → seen_of (happens f s e).tracks d ≡ seen_of (tracks_after f s e) d
unfolding happens heard
seen-happens f s e d = seen-led f (heard f s e) (choice f s e) d

-- the state after a step that begins, with more to come
record Begun (f : Flight) (s t : State) : Type 0 where
  phase : t.phase ≡ Steps
  next : t.next ≡ suc s.next
  waited : t.waited ≡ 0
  showing : t.showing ≡ starts (next_step f s)

led-begun : (f : Flight) (s h : State) (c : Choice) → c ≡ Begin → h.next ≡ s.next → suc s.next < length f.steps → Begun f s (led f h c)
unfolding led
led-begun f s h c same n l =
    let more : eqb (suc s.next) (length f.steps) ≡ false = ne_eqb (suc s.next) (length f.steps) (λ e. absurd (omega (arith, e, l))) in
    rw same (record {
      phase = rw n (rw more refl);
      next = ap suc n;
      waited = refl;
      showing = ap (λ k. starts (slice_get f.steps k)) n;
    })

happens-begun : (f : Flight) (s : State) (e : Event) → choice f s e ≡ Begin → suc s.next < length f.steps → Begun f s (happens f s e)
unfolding happens heard
happens-begun f s e same l = led-begun f s (heard f s e) (choice f s e) same refl l

begin-told : (f : Flight) (s : State) (e : Event) (d : ℕ) (step : Step) → choice f s e ≡ Begin → next_step f s ≡ Some step → step.orders ≡ ToEach order.Start →
    orders_to d (says f s e) ≡ order.Start ∷ []
unfolding done heard
begin-told f s e d step same is start =
    orders_to-says d f s e ∙ rw same (ap (λ o. orders_to d (frames_of_step o)) is ∙ rw start refl)

module _ (f : Flight) (has : HasShow f) where
  -- each drone was heard where the start goes out
  record Fresh (s : State) (e : Event) (d : ℕ) : Type 0 where
    x : Sample
    seen : seen_of (tracks_after f s e) d ≡ Some x
    fresh : x.age ≤ f.silence

  fresh-at : (s : State) (e : Event) → (m : MayBegin f s e) → m.step ≡ has.starting → (d : ℕ) → d < drones f → Fresh s e d
  unfolding heard
  fresh-at s e m is d l =
      let each = has.each in
      let same : length (m.step).conditions ≡ length (has.starting).conditions = ap (λ (st : Step). length st.conditions) is in
      let w = some-get (m.step).conditions d (omega (arith, same, each, l)) in
      let t = m.fit d w.0 w.1 in
      record {
        x = t.1;
        seen = seen_of-get (heard f s e).tracks d t.0 t.2 ∙ t.3;
        fresh = (t.4).fresh;
      }

  kept-go : (h : List Event) (s : State) (es : List Event) → after f (start f) h ≡ s → s.next ≡ has.number → AreSighted h s.tracks →
      choice f s (Said signal.Go) ≡ Begin → Contains (sent f (happens f s (Said signal.Go)) es) (Over true true) → IsKeptShow f (h ++ Said signal.Go ∷ es)
  kept-go h s es is number sighted same then = kept-during f has h [] t es showing then where
    go : Event
    go = Said signal.Go

    t : State
    t = happens f s go

    may : MayBegin f s go
    may = begin-may f s go same

    next_is : next_step f s ≡ Some has.starting
    next_is = ap (λ n. slice_get f.steps n) number ∙ has.is_starting

    step_is : may.step ≡ has.starting
    step_is = by_some may.step has.starting (sym may.is_next ∙ next_is) where
      by_some : (a b : Step) → Some a ≡ Some b → a ≡ b
      by_some a b h = cc

    begun : Begun f s t
    begun = happens-begun f s go same (let n = number in let l = slice_get_within f.steps (suc has.number) has.next has.is_next in omega (arith, n, l))

    sighted_go : AreSighted (h ++ go ∷ []) t.tracks
    sighted_go = λ d x have. sighted-event f h s go sighted d x (sym (seen-happens f s go d) ∙ have)

    fresh : (d : ℕ) → d < drones f → Fresh s go d
    fresh d l = fresh-at s go may step_is d l

    seen : (d : ℕ) (l : d < drones f) → seen_of t.tracks d ≡ Some (fresh d l).x
    seen d l = seen-happens f s go d ∙ (fresh d l).seen

    no_event : (earlier since : List Event) (a : Event) → [] ≡ earlier ++ a ∷ since → ⊥
    no_event [] since a e = cc
    no_event (b ∷ bs) since a e = cc

    starting : starts (next_step f s) ≡ true
    starting = ap (λ o. starts o) next_is ∙ ap (λ o. starts_with o) has.starts

    showing : Showing f has.number h [] t
    showing = record {
      on = begun.showing ∙ starting;
      phase = begun.phase;
      next = begun.next ∙ ap suc number;
      waited = begun.waited;
      sighted = sighted_go;
      known = λ d l. ((fresh d l).x, seen d l);
      at_curve = λ earlier since d x e short old inside. absurd (no_event earlier since (Seen d x) e);
      heard = λ d ms l upto inside. heard-by f.silence (h ++ go ∷ []) d (time h + ms) (fresh d l).x has.heard (sighted_go d (fresh d l).x (seen d l))
          (let total = time-append h (go ∷ []) in omega (arith, total))
          (let total = time-append h (go ∷ []) in let fr = (fresh d l).fresh in omega (arith, total, fr, upto));
      told = λ d. told-snoc f h s go d is ∙ ap (λ os. orders_to d (sent f (start f) h) ++ os) (begin-told f s go d has.starting same next_is has.starts);
      is = after-snoc f h s go is;
    }

  -- at the start the operator says go
  kept-start : (h : List Event) (s : State) (e : Event) (es : List Event) → after f (start f) h ≡ s → s.next ≡ has.number → AreSighted h s.tracks →
      choice f s e ≡ Begin → Contains (sent f (happens f s e) es) (Over true true) → IsKeptShow f (h ++ e ∷ es)
  kept-start h s e es is number sighted same then = by_event e asked same then where
    asked : e ≡ Said signal.Go
    asked =
        let may = begin-may f s e same in
        let step_is = by_some may.step has.starting (sym may.is_next ∙ (ap (λ n. slice_get f.steps n) number ∙ has.is_starting)) in
        may.asked (ap (λ (x : Step). x.asked) step_is ∙ has.asked) where
          by_some : (a b : Step) → Some a ≡ Some b → a ≡ b
          by_some a b h = cc

    by_event : (a : Event) → a ≡ Said signal.Go → choice f s a ≡ Begin → Contains (sent f (happens f s a) es) (Over true true) → IsKeptShow f (h ++ a ∷ es)
    by_event (Said signal.Go) g c o = kept-go h s es is number sighted c o
    by_event (Said signal.Land) g c o = absurd (cc)
    by_event (Said signal.Stop) g c o = absurd (cc)
    by_event (Clock ms) g c o = absurd (cc)
    by_event (Seen d x) g c o = absurd (cc)
    by_event (Answered d status) g c o = absurd (cc)

  sighted-happens : (h : List Event) (s : State) (e : Event) → AreSighted h s.tracks → AreSighted (h ++ e ∷ []) (happens f s e).tracks
  sighted-happens h s e sighted = λ d x have. sighted-event f h s e sighted d x (sym (seen-happens f s e d) ∙ have)

  -- up to the start: one event, and what comes after it
  module _ (h : List Event) (s : State) (e : Event) (es : List Event) (is : after f (start f) h ≡ s) (p : s.phase ≡ Steps) (n : s.next ≤ has.number)
      (sighted : AreSighted h s.tracks) (then : Contains (sent f (happens f s e) es) (Over true true))
      (again : (happens f s e).phase ≡ Steps → (happens f s e).next ≤ has.number → IsKeptShow f ((h ++ e ∷ []) ++ es)) where
    inside : suc has.number < length f.steps
    inside = slice_get_within f.steps (suc has.number) has.next has.is_next

    on : (happens f s e).phase ≡ Steps → (happens f s e).next ≤ has.number → IsKeptShow f (h ++ e ∷ es)
    on q m = subst (λ xs. IsKeptShow f xs) (append_assoc h (e ∷ []) es) (again q m)

    by_number : (b : Bool) → ltb s.next has.number ≡ b → choice f s e ≡ Begin → IsKeptShow f (h ++ e ∷ es)
    by_number true less same =
        let l = ltb-true s.next has.number less in
        let begun = happens-begun f s e same (let i = inside in omega (arith, l, i)) in
        on begun.phase (let k = begun.next in omega (arith, k, l))
    by_number false not_less same =
        let l = ltb-false s.next has.number not_less in
        kept-start h s e es is (omega (arith, l, n)) sighted same then

    before-choice : (c : Choice) → choice f s e ≡ c → IsKeptShow f (h ++ e ∷ es)
    before-choice Rest same =
        on (ap (λ (t : State). t.phase) (rest-heard f s e same) ∙ (phase-heard f s e ∙ p))
        (let k = ap (λ (t : State). t.next) (rest-heard f s e same) ∙ next-heard f s e in omega (arith, k, n))
    before-choice Wait same =
        on (ap (λ (t : State). t.phase) (wait-leads f s e same) ∙ (phase-heard f s e ∙ p))
        (let k = ap (λ (t : State). t.next) (wait-leads f s e same) ∙ next-heard f s e in omega (arith, k, n))
    before-choice Begin same = by_number (ltb s.next has.number) refl same
    before-choice Descend same = absurd (broken f s e es (inl same) (let i = inside in omega (arith, n, i)) then)
    before-choice Cut same = absurd (broken f s e es (inr same) (let i = inside in omega (arith, n, i)) then)
    before-choice Quit same = absurd (subst IsOnWay same (on_way f s e p))
    before-choice Finish same = absurd (subst IsOnWay same (on_way f s e p))

  kept-before : (h : List Event) (s : State) (es : List Event) → after f (start f) h ≡ s → s.phase ≡ Steps → s.next ≤ has.number → AreSighted h s.tracks →
      Contains (sent f s es) (Over true true) → IsKeptShow f (h ++ es)
  kept-before h s [] is p n sighted over = absurd (over-not [] true true (All-nil NoOver) over)
  kept-before h s (e ∷ es) is p n sighted over =
      let then = says-later f s e es p over in
      before-choice h s e es is p n sighted then
      (λ q m. kept-before (h ++ e ∷ []) (happens f s e) es (after-snoc f h s e is) q m (sighted-happens h s e sighted) then) (choice f s e) refl

kept-show : (f : Flight) (events : List Event) → HasShow f → Contains (sent f (start f) events) (Over true true) → IsKeptShow f events
kept-show f events has over = kept-before f has [] (start f) events refl refl (omega arith) (none_sighted (drones f)) over

-- ---- nothing else is said to be kept

done-flown : (f : Flight) (h : State) (c : Choice) (flown : Bool) → Contains (done f h c) (Over flown true) → flown ≡ true
unfolding done
done-flown f h Rest flown has = absurd (over-not [] flown true (All-nil NoOver) has)
done-flown f h Begin flown has = absurd (over-not (frames_of_step (next_step f h)) flown true (no_over-step (next_step f h)) has)
done-flown f h Descend flown has = absurd (over-not (frames_from 0 (landings f h.next)) flown true (no_over-from 0 (landings f h.next)) has)
done-flown f h Wait flown has = absurd (over-not (Noted (awaited f) ∷ []) flown true (no_over-notes (awaited f ∷ [])) has)
done-flown f h Cut flown has = absurd (over-not (ToAll order.Halt ∷ []) flown true (no_over-all order.Halt) has)
done-flown f h Quit flown has = absurd (over-not (ToAll order.Disarm ∷ []) flown true (no_over-all order.Disarm) has)
done-flown f h Finish flown has = by_end (is_flown f h) flown (contains-one (Over (is_flown f h) (is_flown f h && h.kept)) (Over flown true) has) where
  by_end : (b flown : Bool) → Over flown true ≡ Over b (b && h.kept) → flown ≡ true
  by_end true flown e = cc
  by_end false flown e = absurd (cc)

kept-flown : (f : Flight) (s : State) (events : List Event) (flown : Bool) → Contains (sent f s events) (Over flown true) → flown ≡ true
kept-flown f s [] flown has = absurd (over-not [] flown true (All-nil NoOver) has)
kept-flown f s (e ∷ es) flown has =
    elim (Contains-append_cases (says f s e) (sent f (happens f s e) es) (Over flown true) has) [
      | inl now ↦ done-flown f (heard f s e) (choice f s e) flown (says-done f s e flown true now)
      | inr then ↦ kept-flown f (happens f s e) es flown then
    ]

pub kept_law : KeptLaw
kept_law = record { kept = kept-show; flown = λ f events flown has. kept-flown f (start f) events flown has; has_show = has_show }
