-- What one more event does to what is acknowledged, counted and answered.
use Rattle.upload_model.proofs.Prelude.{common_steps, ◌≡◌, ◌≢◌, ℕ, zero, suc, ◌+◌, ◌-◌, ◌<◌, ◌≤◌, Bool, true, false, not, cond, ◌&&◌, eqb, List, [], ◌∷◌, ◌++◌, length, take, refl, ap, sym, ◌∙◌, arith, Option, Some, None, slice_get, find, filter, count_by, range_with_len, list_all, flat_map, false≢true, take-append-le, take_all, length_push, length-append, append-nil, append_assoc, filter-append, Event, Phase, Loading, Reading, Starting, Sent, Progress, Going, Done, Upload, drone_count, packet_count, first_of, count_of, reply_to, Packets, all_settled, phase_of, allowed, flight_in, flight_at, flight_after, flight, sent_to, acknowledges, joined, acked, is_tick, includes, ticks, all_packets, gave_up, ended_by, ending, or_else, progress_within, progress}
use Rattle.std.proofs.lemmas.List.Sums.{length-filter}
use Rattle.upload_model.specs.declared.events.Event.TheVariants as event
use Rattle.upload_model.proofs.Readings.{count-loads}
use Rattle.upload_model.proofs.HostLaws.{acked-push, acked-nil, all_packets-each, allowed-few}

-- ---- lists

pub range-more : (a n : ℕ) → range_with_len a (suc n) ≡ range_with_len a n ++ (a + n) ∷ []
range-more a zero = ap (λ (k : ℕ). k ∷ []) (let e : a ≡ a + 0 = omega arith in e)
range-more a (suc n) =
    ap (λ (xs : List ℕ). a ∷ xs) (range-more (a + 1) n ∙ ap (λ (k : ℕ). range_with_len (a + 1) n ++ k ∷ []) (let e : a + 1 + n ≡ a + suc n = omega arith in e))

pub filter-range-agree : (p q : ℕ → Bool) (a n : ℕ) → ((k : ℕ) → a ≤ k → k < a + n → p k ≡ q k) →
    filter p (range_with_len a n) ≡ filter q (range_with_len a n)
filter-range-agree p q a zero h = refl
filter-range-agree p q a (suc n) h =
    ap (λ (b : Bool). cond b (a ∷ filter p (range_with_len (a + 1) n)) (filter p (range_with_len (a + 1) n))) (h a (omega arith) (omega arith))
    ∙ ap (λ (xs : List ℕ). cond (q a) (a ∷ xs) xs) (filter-range-agree p q (a + 1) n (λ k l b. h k (omega arith) (omega arith)))

pub list_all-range-agree : (p q : ℕ → Bool) (a n : ℕ) → ((k : ℕ) → a ≤ k → k < a + n → p k ≡ q k) →
    list_all p (range_with_len a n) ≡ list_all q (range_with_len a n)
list_all-range-agree p q a zero h = refl
list_all-range-agree p q a (suc n) h =
    ap (λ (b : Bool). b && list_all p (range_with_len (a + 1) n)) (h a (omega arith) (omega arith))
    ∙ ap (λ (b : Bool). q a && b) (list_all-range-agree p q (a + 1) n (λ k l b. h k (omega arith) (omega arith)))

pub flat_map-range-agree : {X : Type 0} (f g : ℕ → List X) (a n : ℕ) → ((k : ℕ) → a ≤ k → k < a + n → f k ≡ g k) →
    flat_map f (range_with_len a n) ≡ flat_map g (range_with_len a n)
flat_map-range-agree f g a zero h = refl
flat_map-range-agree {X} f g a (suc n) h =
    ap (λ (xs : List X). xs ++ flat_map f (range_with_len (a + 1) n)) (h a (omega arith) (omega arith))
    ∙ ap (λ (xs : List X). g a ++ xs) (flat_map-range-agree f g (a + 1) n (λ k l b. h k (omega arith) (omega arith)))

pub count_by-range-agree : (p q : ℕ → Bool) (a n : ℕ) → ((k : ℕ) → a ≤ k → k < a + n → p k ≡ q k) →
    count_by p (range_with_len a n) ≡ count_by q (range_with_len a n)
count_by-range-agree p q a n h =
    sym (length-filter p (range_with_len a n)) ∙ ap (λ (xs : List ℕ). length xs) (filter-range-agree p q a n h) ∙ length-filter q (range_with_len a n)

count_by-range-more : (p : ℕ → Bool) (n : ℕ) → count_by p (range_with_len 0 (suc n)) ≡ count_by p (range_with_len 0 n) + cond (p n) 1 0
count_by-range-more p n =
    sym (length-filter p (range_with_len 0 (suc n)))
    ∙ ap (λ (xs : List ℕ). length (filter p xs)) (range-more 0 n)
    ∙ ap (λ (xs : List ℕ). length xs) (filter-append p (range_with_len 0 n) ((0 + n) ∷ []))
    ∙ length-append (filter p (range_with_len 0 n)) (filter p ((0 + n) ∷ []))
    ∙ ap (λ (k : ℕ). k + length (filter p ((0 + n) ∷ []))) (length-filter p (range_with_len 0 n))
    ∙ ap (λ (k : ℕ). count_by p (range_with_len 0 n) + length (filter p (k ∷ []))) (let e : 0 + n ≡ n = omega arith in e)
    ∙ ap (λ (k : ℕ). count_by p (range_with_len 0 n) + k) (one (p n)) where
      one : (b : Bool) → length (cond b (n ∷ []) []) ≡ cond b 1 0
      one true = refl
      one false = refl

pub slice_get-last : {X : Type 0} (xs : List X) (x : X) → slice_get (xs ++ x ∷ []) (length xs) ≡ Some x
slice_get-last [] x = refl
slice_get-last (y ∷ ys) x = slice_get-last ys x

pub slice_get-before : {X : Type 0} (xs ys : List X) (i : ℕ) → i < length xs → slice_get (xs ++ ys) i ≡ slice_get xs i
slice_get-before [] ys i h = absurd (omega arith)
slice_get-before (x ∷ xs) ys zero h = refl
slice_get-before (x ∷ xs) ys (suc i) h = slice_get-before xs ys i (omega arith)

-- ---- one more event

find-none : {X : Type 0} (xs : List X) → find (λ x. false) xs ≡ None
find-none [] = refl
find-none (x ∷ xs) = find-none xs

pub acknowledges-tick : (s : Upload) (done : Packets) → acknowledges s done event.Tick ≡ None
unfolding acknowledges reply_to
acknowledges-tick s done = find-none (flight_after s done)

pub acked-tick : (s : Upload) (h : List Event) → acked s (h ++ event.Tick ∷ []) ≡ acked s h
acked-tick s h = acked-push s h event.Tick ∙ ap (joined (acked s h)) (acknowledges-tick s (acked s h))

pub flight-tick : (s : Upload) (h : List Event) → flight s (h ++ event.Tick ∷ []) ≡ flight s h
flight-tick s h = ap (flight_after s) (acked-tick s h)

pub ticks-push : (s : Upload) (h : List Event) (e : Event) (x : Sent) →
    ticks s (h ++ e ∷ []) x ≡ ticks s h x + cond (is_tick (Some e) && includes (flight s h) x) 1 0
unfolding ticks
ticks-push s h e x =
    ap (λ (n : ℕ). count_by new (range_with_len 0 n)) (length_push h e ∙ (let g : length h + 1 ≡ suc (length h) = omega arith in g))
    ∙ count_by-range-more new (length h)
    ∙ ap (λ (n : ℕ). n + cond (new (length h)) 1 0) (count_by-range-agree new old 0 (length h) same)
    ∙ ap (λ (b : Bool). count_by old (range_with_len 0 (length h)) + cond b 1 0) here where
      new : ℕ → Bool
      new i = is_tick (slice_get (h ++ e ∷ []) i) && includes (flight s (take i (h ++ e ∷ []))) x

      old : ℕ → Bool
      old i = is_tick (slice_get h i) && includes (flight s (take i h)) x

      same : (i : ℕ) → 0 ≤ i → i < 0 + length h → new i ≡ old i
      same i a b =
          ap (λ (o : Option Event). is_tick o && includes (flight s (take i (h ++ e ∷ []))) x) (slice_get-before h (e ∷ []) i (omega arith))
          ∙ ap (λ (g : List Event). is_tick (slice_get h i) && includes (flight s g) x) (take-append-le i h (e ∷ []) (omega arith))

      here : new (length h) ≡ (is_tick (Some e) && includes (flight s h) x)
      here =
          ap (λ (o : Option Event). is_tick o && includes (flight s (take (length h) (h ++ e ∷ []))) x) (slice_get-last h e)
          ∙ ap (λ (g : List Event). is_tick (Some e) && includes (flight s g) x) (take-append-le (length h) h (e ∷ []) (omega arith) ∙ take_all (length h) h (omega arith))

-- ---- progress, one event at a time

progress_within-before : (s : Upload) (h t : List Event) (n : ℕ) → n ≤ length h → progress_within s (h ++ t) n ≡ progress_within s h n
unfolding progress_within
progress_within-before s h t zero l = refl
progress_within-before s h t (suc n) l =
    ap (λ (p : Progress). or_else p (ending s (take (suc n) (h ++ t)))) (progress_within-before s h t n (omega arith))
    ∙ ap (λ (g : List Event). or_else (progress_within s h n) (ending s g)) (take-append-le (suc n) h t l)

pub progress-push : (s : Upload) (h : List Event) (e : Event) → progress s (h ++ e ∷ []) ≡ or_else (progress s h) (ending s (h ++ e ∷ []))
unfolding progress progress_within
progress-push s h e = grind (arith, common_steps, length_push, take, progress_within-before, take_all)

or_else-stays : (p q : Progress) → p ≢ Going → or_else p q ≡ p
or_else-stays Going q h = absurd (h refl)
or_else-stays p q h = refl

-- an answer that ended the upload stays
pub progress-stays : (s : Upload) (h t : List Event) → progress s h ≢ Going → progress s (h ++ t) ≡ progress s h
progress-stays s h [] n = ap (progress s) (append-nil h)
progress-stays s h (e ∷ t) n =
    let one : progress s (h ++ e ∷ []) ≡ progress s h = progress-push s h e ∙ or_else-stays (progress s h) (ending s (h ++ e ∷ [])) n in
    let rest = progress-stays s (h ++ e ∷ []) t (λ g. n (sym one ∙ g)) in
    ap (progress s) (sym (append_assoc h (e ∷ []) t)) ∙ rest ∙ one

or_else-going : (p q : Progress) → or_else p q ≡ Going → q ≡ Going
or_else-going Going q h = h
or_else-going p q h = absurd (cc)

pub ending-going : (s : Upload) (h : List Event) → progress s h ≡ Going → ending s h ≡ Going
unfolding progress progress_within
ending-going s h g = grind (arith, common_steps, take_all, or_else-going, take)

-- while the upload is going, something isn't acknowledged
pub going-open : (s : Upload) (h : List Event) → progress s h ≡ Going → list_all (λ x. acked s h x.drone x.packet) (all_packets s) ≡ false
unfolding ending
going-open s h g = by_all (list_all (λ x. acked s h x.drone x.packet) (all_packets s)) refl (ending-going s h g) where
  by_all : (b : Bool) → list_all (λ x. acked s h x.drone x.packet) (all_packets s) ≡ b → ending s h ≡ Going → b ≡ false
  by_all false f e = refl
  by_all true f e =
      let done : ending s h ≡ Done = ap (λ (b : Bool). cond b Done (ended_by s h (slice_get h (length h - 1)))) f in
      let no : Going ≡ Done = sym e ∙ done in
      absurd (cc)

last-push : (h : List Event) (e : Event) → slice_get (h ++ e ∷ []) (length (h ++ e ∷ []) - 1) ≡ Some e
last-push h e =
    ap (slice_get (h ++ e ∷ [])) (let l = length_push h e in let f : length (h ++ e ∷ []) - 1 ≡ length h = omega arith in f) ∙ slice_get-last h e

-- one more event of an upload that is going
pub progress-next : (s : Upload) (h : List Event) (e : Event) → progress s h ≡ Going →
    progress s (h ++ e ∷ [])
    ≡ cond (list_all (λ x. acked s (h ++ e ∷ []) x.drone x.packet) (all_packets s)) Done (ended_by s (h ++ e ∷ []) (Some e))
unfolding ending
progress-next s h e g = grind (arith, common_steps, progress-push, cond, last-push)

-- a tick of an upload that is going
pub progress-tick : (s : Upload) (h : List Event) → progress s h ≡ Going →
    progress s (h ++ event.Tick ∷ []) ≡ gave_up (find (λ x. eqb (ticks s (h ++ event.Tick ∷ []) x) 20) (flight s h))
progress-tick s h g =
    progress-next s h event.Tick g
    ∙ ap (λ (f : Packets). cond (list_all (λ x. f x.drone x.packet) (all_packets s)) Done (ended_by s (h ++ event.Tick ∷ []) (Some event.Tick))) (acked-tick s h)
    ∙ ap (λ (b : Bool). cond b Done (ended_by s (h ++ event.Tick ∷ []) (Some event.Tick))) (going-open s h g)
    ∙ ap (λ (xs : List Sent). gave_up (find (λ x. eqb (ticks s (h ++ event.Tick ∷ []) x) 20) xs)) (flight-tick s h)

-- ---- what is in flight depends on the packets of the session alone

abbrev pub Agree : Upload → Packets → Packets → Type 0
Agree s f g = (d k : ℕ) → d < drone_count s → k < packet_count s d → f d k ≡ g d k

-- the packets of a phase are packets of the session
pub phase-inside : (s : Upload) (p : Phase) (d : ℕ) → first_of s p d + count_of s p d ≤ packet_count s d
unfolding packet_count
phase-inside s Loading d = omega arith
phase-inside s Reading d = omega arith
phase-inside s Starting d = omega arith

pub all_settled-agree : (s : Upload) (p : Phase) (f g : Packets) → Agree s f g → all_settled s p f ≡ all_settled s p g
unfolding all_settled
all_settled-agree s p f g same =
    list_all-range-agree (λ d. list_all (f d) (range_with_len (first_of s p d) (count_of s p d))) (λ d. list_all (g d) (range_with_len (first_of s p d) (count_of s p d))) 0 (drone_count s)
    (λ d l b. list_all-range-agree (f d) (g d) (first_of s p d) (count_of s p d) (λ k m c. let n = phase-inside s p d in same d k (omega arith) (omega arith)))

pub phase_of-agree : (s : Upload) (f g : Packets) → Agree s f g → phase_of s f ≡ phase_of s g
unfolding phase_of
phase_of-agree s f g same =
    ap (λ (b : Bool). cond (not b) Loading (cond (not (all_settled s Reading f)) Reading Starting)) (all_settled-agree s Loading f g same)
    ∙ ap (λ (b : Bool). cond (not (all_settled s Loading g)) Loading (cond (not b) Reading Starting)) (all_settled-agree s Reading f g same)

allowed-agree : (s : Upload) (p : Phase) (f g : Packets) (d : ℕ) → d < drone_count s → Agree s f g → allowed s p f d ≡ allowed s p g d
allowed-agree s Loading f g d l same = grind (arith, common_steps, count-loads, cond, list_all-range-agree)
allowed-agree s p f g d l same = refl

pub flight_in-agree : (s : Upload) (p : Phase) (f g : Packets) (d : ℕ) → d < drone_count s → Agree s f g → flight_in s p f d ≡ flight_in s p g d
unfolding flight_in
flight_in-agree s p f g d l same = grind (arith, common_steps, take, not, allowed-agree, filter-range-agree, phase-inside, allowed-few)

pub flight_at-agree : (s : Upload) (p : Phase) (f g : Packets) → Agree s f g → flight_at s p f ≡ flight_at s p g
unfolding flight_at
flight_at-agree s p f g same =
    flat_map-range-agree (λ d. sent_to d (flight_in s p f d)) (λ d. sent_to d (flight_in s p g d)) 0 (drone_count s)
    (λ d l b. ap (sent_to d) (flight_in-agree s p f g d (omega arith) same))

pub flight_after-agree : (s : Upload) (f g : Packets) → Agree s f g → flight_after s f ≡ flight_after s g
flight_after-agree s f g same =
    ap (λ (p : Phase). flight_at s p f) (phase_of-agree s f g same) ∙ flight_at-agree s (phase_of s g) f g same

-- ---- no event

pub ticks-nil : (s : Upload) (x : Sent) → ticks s [] x ≡ 0
unfolding ticks
ticks-nil s x = refl

pub progress-nil : (s : Upload) → 1 ≤ drone_count s → progress s [] ≡ Going
unfolding progress progress_within ending
progress-nil s some = by_all (list_all (λ x. acked s [] x.drone x.packet) (all_packets s)) refl where
  by_all : (b : Bool) → list_all (λ x. acked s [] x.drone x.packet) (all_packets s) ≡ b → cond b Done (ended_by s [] (slice_get [] (length {A = Event} [] - 1))) ≡ Going
  by_all false e = refl
  by_all true e =
      let c = count-loads s 0 in
      absurd (false≢true (sym (acked-nil s 0 0) ∙ all_packets-each s (λ x. acked s [] x.drone x.packet) e 0 0 (omega arith) (omega arith)))
