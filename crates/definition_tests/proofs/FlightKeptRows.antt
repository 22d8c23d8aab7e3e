-- Shows that weren't kept, beside one that was.
use Rattle.definition_tests.proofs.Prelude.{◌≡◌, ◌<◌, ◌≤◌, ◌+◌, ◌∷◌, ◌++◌, ◌∙◌, ◌||◌, ◌&&◌, [], List, Bool, true, false, refl, sym, ap, subst, ℕ, zero, suc, take, length, leb, eqb, arith, append_assoc, eq-eqb, le-leb, pos, Contains, Sample, Event, Clock, Seen, Answered, Said, ToAll, Over, start, sent, after, orders_to, HasShow, IsHeard, IsKeptShow, time, RejectedLaw, brief, unhurried, late_news, flown_unsure, sample_at, heard_at, flown_by, begun, KeptRows, kept_law, sent-append}
use Rattle.flight_model.specs.declared.events.Order.{Order}
use Rattle.flight_model.specs.declared.events.Order.TheVariants as order
use Rattle.flight_model.specs.declared.events.Signal.TheVariants as signal
unfoldable use Rattle.flight_model.specs.Samples.{is_fit_by, is_kept}
unfoldable use Rattle.flight_model.specs.Directors.{tracks_after, heard, is_due, notes, is_fault, choice, done, led, happens, says}
unfoldable use Rattle.whole_numbers.specs.Decoded.{decoded}
unfoldable use Rattle.whole_numbers.specs.Moments.{moment}
unfoldable use Rattle.whole_numbers.specs.Bernstein.{bernstein}
use Rattle.flight_model.proofs.OrdersTo.{orders_to-append}
use Rattle.flight_model.proofs.Sightings.{time-append}
use Rattle.definition_tests.proofs.FlightRejectedRows as positions

-- ---- kept

has : HasShow brief
has = record {
  number = 0;
  starting = _;
  next = _;
  is_starting = refl;
  is_next = refl;
  starts = refl;
  asked = refl;
  each = refl;
  waits = omega arith;
  short = omega arith;
  heard = omega arith;
}

kept-computed : sent brief (start brief) (begun (flown_by 0 500 (pos 255) 500)) ≡ ToAll order.Start ∷ ToAll order.Disarm ∷ Over true true ∷ []
unfolding is_fit_by is_kept tracks_after heard is_due notes is_fault choice done led happens says decoded moment bernstein
kept-computed = refl

last-said : Contains (ToAll order.Start ∷ ToAll order.Disarm ∷ Over true true ∷ []) (Over true true)
last-said = (2, omega arith, refl)

is_kept_show : IsKeptShow brief (begun (flown_by 0 500 (pos 255) 500))
is_kept_show = kept_law.kept brief _ has (subst (λ xs. Contains xs (Over true true)) (sym kept-computed) last-said)

-- ---- where the operator's go is

has_go : List Event → Bool
has_go [] = false
has_go (Said signal.Go ∷ es) = true
has_go (Said signal.Land ∷ es) = has_go es
has_go (Said signal.Stop ∷ es) = has_go es
has_go (Clock ms ∷ es) = has_go es
has_go (Seen d x ∷ es) = has_go es
has_go (Answered d status ∷ es) = has_go es

go-in : (before rest : List Event) → has_go (before ++ Said signal.Go ∷ rest) ≡ true
unfolding has_go
go-in [] rest = refl
go-in (Said signal.Go ∷ es) rest = refl
go-in (Said signal.Land ∷ es) rest = go-in es rest
go-in (Said signal.Stop ∷ es) rest = go-in es rest
go-in (Clock ms ∷ es) rest = go-in es rest
go-in (Seen d x ∷ es) rest = go-in es rest
go-in (Answered d status ∷ es) rest = go-in es rest

no-go : (events before rest : List Event) → has_go events ≡ false → events ≡ before ++ Said signal.Go ∷ rest → ⊥
no-go events before rest none are = let some = go-in before rest in let same = ap has_go are in absurd (cc)

-- the go is the second event, where the first one is a sample and none comes later
second : (d : ℕ) (x : Sample) (tail before rest : List Event) → has_go tail ≡ false → Seen d x ∷ Said signal.Go ∷ tail ≡ before ++ Said signal.Go ∷ rest →
    (before ≡ Seen d x ∷ []) × (tail ≡ rest)
second d x tail [] rest none are = absurd (cc)
second d x tail (b ∷ []) rest none are = (cc, cc)
second d x tail (b ∷ c ∷ before) rest none are = absurd (no-go tail before rest none (cc))

-- the go is the first event, where none comes later
first : (tail before rest : List Event) → has_go tail ≡ false → Said signal.Go ∷ tail ≡ before ++ Said signal.Go ∷ rest → (before ≡ []) × (tail ≡ rest)
first tail [] rest none are = (refl, cc)
first tail (b ∷ before) rest none are = absurd (no-go tail before rest none (cc))

-- ---- a sample in the show

-- events that last longer than those before a sample have it
covers : (before : List Event) (d : ℕ) (x : Sample) (later during : List Event) (last : Event) (rest : List Event) → time before < time (during ++ last ∷ []) →
    before ++ Seen d x ∷ later ≡ during ++ last ∷ rest → (since : List Event) × (during ≡ before ++ Seen d x ∷ since)
covers [] d x later [] last rest l are = let e : Seen d x ≡ last = cc in absurd (let m = subst (λ a. 0 < time (a ∷ [])) (sym e) l in omega (arith, m))
covers [] d x later (e ∷ during) last rest l are = (during, cc)
covers (b ∷ before) d x later [] last rest l are =
    let e : b ≡ last = cc in absurd (let m = subst (λ a. time (b ∷ before) < time (a ∷ [])) (sym e) l in omega (arith, m))
covers (b ∷ before) d x later (e ∷ during) last rest l are =
    let same : b ≡ e = cc in
    let m = subst (λ a. time (b ∷ before) < time ((a ∷ during) ++ last ∷ [])) (sym same) l in
    let more = covers before d x later during last rest (omega (arith, m)) (cc) in
    (more.0, let f = more.1 in cc)

-- ---- whom was heard

-- a sample of drone d came by the instant, and was at most `silence` old there; `now` is the instant of the first event
heard_in : ℕ → ℕ → ℕ → ℕ → List Event → Bool
heard_in silence d ms now [] = false
heard_in silence d ms now (Seen e x ∷ es) = (eqb e d && (leb now ms && leb (ms + x.age) (now + silence))) || heard_in silence d ms now es
heard_in silence d ms now (Clock n ∷ es) = heard_in silence d ms (now + n) es
heard_in silence d ms now (Answered e status ∷ es) = heard_in silence d ms now es
heard_in silence d ms now (Said w ∷ es) = heard_in silence d ms now es

or-true : (a : Bool) → a || true ≡ true
or-true true = refl
or-true false = refl

heard-in : (silence d ms now : ℕ) (earlier : List Event) (x : Sample) (since : List Event) → now + time earlier ≤ ms → ms + x.age ≤ now + time earlier + silence →
    heard_in silence d ms now (earlier ++ Seen d x ∷ since) ≡ true
unfolding heard_in
heard-in silence d ms now [] x since l m =
    rw (eq-eqb d d refl) (rw (le-leb now ms (omega (arith, l))) (rw (le-leb (ms + x.age) (now + silence) (omega (arith, m))) refl))
heard-in silence d ms now (Seen e y ∷ es) x since l m =
    rw (heard-in silence d ms now es x since (omega (arith, l)) (omega (arith, m))) (or-true _)
heard-in silence d ms now (Clock n ∷ es) x since l m = heard-in silence d ms (now + n) es x since (omega (arith, l)) (omega (arith, m))
heard-in silence d ms now (Answered e status ∷ es) x since l m = heard-in silence d ms now es x since (omega (arith, l)) (omega (arith, m))
heard-in silence d ms now (Said w ∷ es) x since l m = heard-in silence d ms now es x since (omega (arith, l)) (omega (arith, m))

unheard : (silence d ms : ℕ) (all events later : List Event) → all ≡ events ++ later → heard_in silence d ms 0 all ≡ false → IsHeard silence events d ms → ⊥
unheard silence d ms all events later whole none h =
    let are : all ≡ h.earlier ++ Seen d h.sample ∷ (h.since ++ later) =
    whole ∙ (ap (λ es. es ++ later) h.are ∙ append_assoc h.earlier (Seen d h.sample ∷ h.since) later) in
    let some = heard-in silence d ms 0 h.earlier h.sample (h.since ++ later) (let l = h.by_then in omega (arith, l)) (let l = h.fresh in omega (arith, l)) in
    let same = ap (heard_in silence d ms 0) are in
    absurd (cc)

-- ---- the rows

hovers : Event
hovers = heard_at 0 (pos 0) true

-- what follows the go, where the drone is heard and the operator says go
from_go : (tail : List Event) (k : IsKeptShow brief (begun tail)) → has_go tail ≡ false → (k.before ≡ hovers ∷ []) × (tail ≡ k.during ++ k.last ∷ k.rest)
unfolding hovers
from_go tail k none = second 0 (sample_at 0 (pos 0) true) tail k.before (k.during ++ k.last ∷ k.rest) none k.are

off-computed : is_kept brief 0 500 (sample_at 0 (pos 256) true) ≡ false
unfolding is_kept decoded moment bernstein
off-computed = refl

astray : IsKeptShow brief (begun (flown_by 0 500 (pos 256) 500)) → ⊥
unfolding has_go
astray k =
    let tail = from_go (flown_by 0 500 (pos 256) 500) k refl in
    let whole = k.whole in
    let part = covers (Clock 500 ∷ []) 0 (sample_at 0 (pos 256) true) (Clock 500 ∷ heard_at 0 (pos 0) true ∷ heard_at 0 (pos 0) false ∷ []) k.during k.last k.rest
    (omega (arith, whole)) tail.1 in
    let split = ap (λ (xs : List Event). xs ++ k.last ∷ []) part.1 in
    let kept = k.at_curve (Clock 500 ∷ []) (part.0 ++ k.last ∷ []) 0 (sample_at 0 (pos 256) true) split (omega arith) (omega arith) (omega arith) in
    let on : is_kept brief 0 500 (sample_at 0 (pos 256) true) ≡ true = kept.0 in
    let off = off-computed in
    absurd (cc)

-- a sample at the curve that isn't sure
unsure : IsKeptShow brief (begun (flown_unsure ++ flown_by 0 250 (pos 169) 250)) → ⊥
unfolding has_go
unsure k =
    let tail = from_go (flown_unsure ++ flown_by 0 250 (pos 169) 250) k refl in
    let whole = k.whole in
    let part = covers (Clock 500 ∷ []) 0 (record (sample_at 0 (pos 225) true) { sure = false }) (flown_by 0 250 (pos 169) 250) k.during k.last k.rest
    (omega (arith, whole)) tail.1 in
    let split = ap (λ (xs : List Event). xs ++ k.last ∷ []) part.1 in
    let kept = k.at_curve (Clock 500 ∷ []) (part.0 ++ k.last ∷ []) 0 (record (sample_at 0 (pos 225) true) { sure = false }) split (omega arith) (omega arith) (omega arith) in
    let is : false ≡ true = kept.1 in
    absurd (cc)

-- a sample that is heard after the show
late_has : HasShow unhurried
late_has = record {
  number = 0;
  starting = _;
  next = _;
  is_starting = refl;
  is_next = refl;
  starts = refl;
  asked = refl;
  each = refl;
  waits = omega arith;
  short = omega arith;
  heard = omega arith;
}

late-computed : sent unhurried (start unhurried) (begun (late_news (pos 111))) ≡ ToAll order.Start ∷ ToAll order.Disarm ∷ Over true true ∷ []
unfolding is_fit_by is_kept tracks_after heard is_due notes is_fault choice done led happens says decoded moment bernstein
late-computed = refl

late_kept : IsKeptShow unhurried (begun (late_news (pos 111)))
late_kept = kept_law.kept unhurried _ late_has (subst (λ xs. Contains xs (Over true true)) (sym late-computed) last-said)

-- how many steps have begun
steps_after : List Event → ℕ
steps_after es = (after unhurried (start unhurried) (hovers ∷ Said signal.Go ∷ es)).next

front : (during : List Event) (last : Event) (rest : List Event) → take (length during) (during ++ last ∷ rest) ≡ during
front [] last rest = refl
front (x ∷ xs) last rest = ap (λ ys. x ∷ ys) (front xs last rest)

front-more : (during : List Event) (last : Event) (rest : List Event) → take (suc (length during)) (during ++ last ∷ rest) ≡ during ++ last ∷ []
front-more [] last rest = refl
front-more (x ∷ xs) last rest = ap (λ ys. x ∷ ys) (front-more xs last rest)

abbrev before_news : List Event
before_news = Clock 500 ∷ heard_at 0 (pos 225) true ∷ Clock 500 ∷ heard_at 0 (pos 0) true ∷ Clock 100 ∷ []

-- no step begins before that sample is heard
with_news : (n : ℕ) → steps_after (take (suc n) (late_news (pos 112))) ≡ suc (steps_after (take n (late_news (pos 112)))) →
    (since : List Event) × (take (suc n) (late_news (pos 112)) ≡ before_news ++ heard_at 200 (pos 112) true ∷ since)
unfolding steps_after hovers is_fit_by is_kept tracks_after heard is_due notes is_fault choice done led happens says decoded moment bernstein
with_news zero h = let e : 1 ≡ 2 = h in absurd (omega (arith, e))
with_news (suc zero) h = let e : 1 ≡ 2 = h in absurd (omega (arith, e))
with_news (suc (suc zero)) h = let e : 1 ≡ 2 = h in absurd (omega (arith, e))
with_news (suc (suc (suc zero))) h = let e : 1 ≡ 2 = h in absurd (omega (arith, e))
with_news (suc (suc (suc (suc zero)))) h = let e : 1 ≡ 2 = h in absurd (omega (arith, e))
with_news (suc (suc (suc (suc (suc n))))) h = (take n (Clock 100 ∷ heard_at 0 (pos 0) true ∷ heard_at 0 (pos 0) false ∷ []), refl)

late-off-computed : is_kept unhurried 0 900 (sample_at 200 (pos 112) true) ≡ false
unfolding is_kept decoded moment bernstein
late-off-computed = refl

late_astray : IsKeptShow unhurried (begun (late_news (pos 112))) → ⊥
unfolding has_go hovers steps_after
late_astray k =
    let events = late_news (pos 112) in
    let from = second 0 (sample_at 0 (pos 0) true) events k.before (k.during ++ k.last ∷ k.rest) refl k.are in
    let some : take (length k.during) events ≡ k.during = ap (λ es. take (length k.during) es) from.1 ∙ front k.during k.last k.rest in
    let more : take (suc (length k.during)) events ≡ k.during ++ k.last ∷ [] = ap (λ es. take (suc (length k.during)) es) from.1 ∙ front-more k.during k.last k.rest in
    let moves : steps_after (k.during ++ k.last ∷ []) ≡ suc (steps_after k.during) =
    subst (λ b. (after unhurried (start unhurried) (b ++ Said signal.Go ∷ (k.during ++ k.last ∷ []))).next ≡ suc (after unhurried (start unhurried) (b ++ Said signal.Go ∷ k.during)).next)
    from.0 k.moves_on in
    let news = with_news (length k.during) (ap steps_after more ∙ (moves ∙ ap (λ es. suc (steps_after es)) (sym some))) in
    let kept = k.at_curve before_news news.0 0 (sample_at 200 (pos 112) true) (sym more ∙ news.1) (omega arith) (omega arith) (omega arith) in
    let on : is_kept unhurried 0 900 (sample_at 200 (pos 112) true) ≡ true = kept.0 in
    let off = late-off-computed in
    absurd (cc)

-- at an instant of the show no sample was heard that is fresh there
not-heard : (tail : List Event) (ms : ℕ) → has_go tail ≡ false → ms ≤ 1000 → heard_in 500 0 ms 0 (begun tail) ≡ false → IsKeptShow brief (begun tail) → ⊥
unfolding hovers
not-heard tail ms none l silent k =
    let from = from_go tail k none in
    let none_passed : time k.before ≡ 0 = ap time from.0 in
    let heard : IsHeard 500 (hovers ∷ Said signal.Go ∷ k.during) 0 ms =
    subst (λ b. IsHeard 500 (b ++ Said signal.Go ∷ k.during) 0 ms) from.0
    (subst (λ n. IsHeard 500 (k.before ++ Said signal.Go ∷ k.during) 0 n) (omega (arith, none_passed)) (k.heard 0 ms (omega arith) l)) in
    unheard 500 0 ms (begun tail) (hovers ∷ Said signal.Go ∷ k.during) (k.last ∷ k.rest) (ap (λ es. hovers ∷ Said signal.Go ∷ es) from.1) silent heard

silent : IsKeptShow brief (begun (flown_by 2 500 (pos 225) 500)) → ⊥
unfolding has_go heard_in
silent k = not-heard (flown_by 2 500 (pos 225) 500) 999 refl (omega arith) refl k

leapt : IsKeptShow brief (begun (flown_by 0 1000 (pos 0) 0)) → ⊥
unfolding has_go heard_in
leapt k = not-heard (flown_by 0 1000 (pos 0) 0) 600 refl (omega arith) refl k

unfinished : IsKeptShow brief (begun (flown_by 0 500 (pos 255) 499)) → ⊥
unfolding has_go
unfinished k =
    let from = from_go (flown_by 0 500 (pos 255) 499) k refl in
    let all = ap time (from.1 ∙ sym (append_assoc k.during (k.last ∷ []) k.rest)) in
    let parts = time-append (k.during ++ k.last ∷ []) k.rest in
    let whole = k.whole in
    omega (arith, all, parts, whole)

no_go : IsKeptShow brief (heard_at 0 (pos 0) true ∷ flown_by 0 500 (pos 255) 500) → ⊥
unfolding has_go
no_go k = no-go (heard_at 0 (pos 0) true ∷ flown_by 0 500 (pos 255) 500) k.before (k.during ++ k.last ∷ k.rest) refl k.are

nothing-told : orders_to 0 (sent brief (start brief) (Said signal.Go ∷ heard_at 0 (pos 0) true ∷ flown_by 0 500 (pos 255) 500)) ≡ []
unfolding is_fit_by is_kept tracks_after heard is_due notes is_fault choice done led happens says decoded moment bernstein
nothing-told = refl

early_go : IsKeptShow brief (Said signal.Go ∷ heard_at 0 (pos 0) true ∷ flown_by 0 500 (pos 255) 500) → ⊥
unfolding has_go
early_go k =
    let tail = heard_at 0 (pos 0) true ∷ flown_by 0 500 (pos 255) 500 in
    let from = first tail k.before (k.during ++ k.last ∷ k.rest) refl k.are in
    let told : orders_to 0 (sent brief (start brief) (Said signal.Go ∷ k.during)) ≡ order.Start ∷ [] =
    subst (λ b. orders_to 0 (sent brief (start brief) (b ++ Said signal.Go ∷ k.during)) ≡ orders_to 0 (sent brief (start brief) b) ++ order.Start ∷ []) from.0 (k.started 0) in
    let later = sent brief (after brief (start brief) (Said signal.Go ∷ k.during)) (k.last ∷ k.rest) in
    let all : orders_to 0 (sent brief (start brief) (Said signal.Go ∷ tail)) ≡ orders_to 0 (sent brief (start brief) (Said signal.Go ∷ k.during)) ++ orders_to 0 later =
    ap (λ es. orders_to 0 (sent brief (start brief) (Said signal.Go ∷ es))) from.1
    ∙ (ap (λ fs. orders_to 0 fs) (sent-append brief (start brief) (Said signal.Go ∷ k.during) (k.last ∷ k.rest))
    ∙ orders_to-append 0 (sent brief (start brief) (Said signal.Go ∷ k.during)) later) in
    nothing (orders_to 0 later) (sym nothing-told ∙ (all ∙ ap (λ os. os ++ orders_to 0 later) told)) where
      nothing : (os : List Order) → [] ≡ (order.Start ∷ []) ++ os → ⊥
      nothing os e = absurd (cc)

kept_rows : KeptRows
kept_rows = record {
  kept = is_kept_show;
  astray = astray;
  unsure = unsure;
  late_kept = late_kept;
  late_astray = late_astray;
  silent = silent;
  leapt = leapt;
  unfinished = unfinished;
  no_go = no_go;
  early_go = early_go;
}

pub rejected_law : RejectedLaw
rejected_law = record { positions = positions.rows; down = positions.down_rows; sure = positions.sure_rows; shows = kept_rows }
