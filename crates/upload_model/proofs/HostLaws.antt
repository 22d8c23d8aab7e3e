-- Laws of what is acknowledged, in flight and answered.
use Rattle.upload_model.proofs.Prelude.{common_steps, ◌≡◌, ℕ, zero, suc, ◌+◌, ◌-◌, ◌<◌, ◌≤◌, Bool, true, false, not, cond, ◌&&◌, eqb, ltb, List, [], ◌∷◌, ◌++◌, length, take, drop, refl, ap, sym, ◌∙◌, arith, Option, Some, None, ◌⊎◌, inl, inr, subst, slice_get, find, filter, All, range_with_len, list_all, flat_map, cases_lt, and_parts, or_cases, or_left, false≢true, eqb-true, take-append-drop, get_or_from_slice_get, slice_get_within, All-nil, All-cons, All-append, All-filter, All-map, All-take, All-weaker, Event, Phase, Loading, Reading, Starting, Sent, Progress, Going, Done, GaveUp, Upload, drone_count, load_count, start_number, packet_count, first_of, count_of, ReadBack, status_reply, compared, read_reply, reply_in, reply_to, is_good, end_of, Packets, all_settled, phase_of, allowed, flight_in, flight_at, flight_after, flight, sent_to, acknowledges, joined, acked_from, acked, ticks, all_packets, gave_up, ended_for, ends_for, ended_by, ending, or_else, progress_within, progress, includes, sent_at, if_going, out}
use Rattle.std.proofs.lemmas.List.Folds.{list_all-append, list_all-map}
use Rattle.upload_model.specs.declared.events.Event.TheVariants as event

-- ---- lists over ranges

pub All-range : (P : ℕ → Type 0) (a n : ℕ) → ((k : ℕ) → a ≤ k → k < a + n → P k) → All P (range_with_len a n)
All-range P a zero h = All-nil P
All-range P a (suc n) h =
    All-cons P a (range_with_len (a + 1) n) (h a (omega arith) (omega arith)) (All-range P (a + 1) n (λ k l b. h k (omega arith) (omega arith)))

pub All-flat_map_range : {X : Type 0} (P : X → Type 0) (f : ℕ → List X) (a n : ℕ) → ((d : ℕ) → a ≤ d → d < a + n → All P (f d)) →
    All P (flat_map f (range_with_len a n))
All-flat_map_range P f a zero h = All-nil P
All-flat_map_range P f a (suc n) h =
    All-append P (f a) (flat_map f (range_with_len (a + 1) n)) (h a (omega arith) (omega arith))
    (All-flat_map_range P f (a + 1) n (λ d l b. h d (omega arith) (omega arith)))

pub list_all-range : (p : ℕ → Bool) (a n : ℕ) → list_all p (range_with_len a n) ≡ true → (k : ℕ) → a ≤ k → k < a + n → p k ≡ true
list_all-range p a zero h k l b = absurd (omega arith)
list_all-range p a (suc n) h k l b =
    let parts = and_parts (p a) (list_all p (range_with_len (a + 1) n)) h in
    elim (cases_lt a k) [
      | inl past ↦ list_all-range p (a + 1) n parts.1 k (omega arith) (omega arith)
      | inr le ↦ let same : a ≡ k = omega arith in subst (λ (m : ℕ). p m ≡ true) same parts.0
    ]

pub list_all-flat_map_range : {X : Type 0} (p : X → Bool) (f : ℕ → List X) (a n : ℕ) → list_all p (flat_map f (range_with_len a n)) ≡ true →
    (d : ℕ) → a ≤ d → d < a + n → list_all p (f d) ≡ true
list_all-flat_map_range p f a zero h d l b = absurd (omega arith)
list_all-flat_map_range p f a (suc n) h d l b =
    let parts = and_parts (list_all p (f a)) (list_all p (flat_map f (range_with_len (a + 1) n)))
    (sym (list_all-append p (f a) (flat_map f (range_with_len (a + 1) n))) ∙ h) in
    elim (cases_lt a d) [
      | inl past ↦ list_all-flat_map_range p f (a + 1) n parts.1 d (omega arith) (omega arith)
      | inr le ↦ let same : a ≡ d = omega arith in subst (λ (m : ℕ). list_all p (f m) ≡ true) same parts.0
    ]

pub find_passes : {X : Type 0} (p : X → Bool) (xs : List X) (x : X) → find p xs ≡ Some x → p x ≡ true
find_passes p [] x h = absurd (cc)
find_passes p (y ∷ ys) x h = at (p y) refl (λ f. find_passes p ys x f) h where
  at : (b : Bool) → p y ≡ b → (find p ys ≡ Some x → p x ≡ true) → cond b (Some y) (find p ys) ≡ Some x → p x ≡ true
  at true e later f = let same : y ≡ x = cc in subst (λ z. p z ≡ true) same e
  at false e later f = later f

-- ---- what is acknowledged stays so, and what is new was in flight

pub acked_from-append : (s : Upload) (done : Packets) (h t : List Event) → acked_from s done (h ++ t) ≡ acked_from s (acked_from s done h) t
unfolding acked_from
acked_from-append s done [] t = refl
acked_from-append s done (e ∷ h) t = acked_from-append s (joined done (acknowledges s done e)) h t

pub acked-push : (s : Upload) (h : List Event) (e : Event) → acked s (h ++ e ∷ []) ≡ joined (acked s h) (acknowledges s (acked s h) e)
unfolding acked acked_from
acked-push s h e = acked_from-append s (λ d k. false) h (e ∷ [])

joined-more : (done : Packets) (o : Option Sent) (d k : ℕ) → done d k ≡ true → joined done o d k ≡ true
joined-more done None d k h = h
joined-more done (Some x) d k h = or_left (done d k) (eqb x.drone d && eqb x.packet k) h

acked_from-more : (s : Upload) (done : Packets) (t : List Event) (d k : ℕ) → done d k ≡ true → acked_from s done t d k ≡ true
unfolding acked_from
acked_from-more s done [] d k h = h
acked_from-more s done (e ∷ t) d k h =
    acked_from-more s (joined done (acknowledges s done e)) t d k (joined-more done (acknowledges s done e) d k h)

pub acked-more : (s : Upload) (h t : List Event) (d k : ℕ) → acked s h d k ≡ true → acked s (h ++ t) d k ≡ true
unfolding acked
acked-more s h t d k a =
    ap (λ (f : Packets). f d k) (acked_from-append s (λ d k. false) h t) ∙ acked_from-more s (acked_from s (λ d k. false) h) t d k a

pub acked-take : (s : Upload) (h : List Event) (n d k : ℕ) → acked s (take n h) d k ≡ true → acked s h d k ≡ true
acked-take s h n d k a = subst (λ g. acked s g d k ≡ true) (take-append-drop n h) (acked-more s (take n h) (drop n h) d k a)

pub acked-nil : (s : Upload) (d k : ℕ) → acked s [] d k ≡ false
unfolding acked acked_from
acked-nil s d k = refl

pub joined-cases : (done : Packets) (o : Option Sent) (d k : ℕ) → joined done o d k ≡ true →
    (done d k ≡ true) ⊎ (o ≡ Some (record { drone = d; packet = k }))
joined-cases done None d k h = inl h
joined-cases done (Some x) d k h = grind (arith, common_steps, or_cases, eqb, and_parts, eqb-true)

acknowledges-good : (s : Upload) (done : Packets) (e : Event) (d k : ℕ) → acknowledges s done e ≡ Some (record { drone = d; packet = k }) → is_good (reply_to s d k e) ≡ true
unfolding acknowledges
acknowledges-good s done e d k h = find_passes (λ x. is_good (reply_to s x.drone x.packet e)) (flight_after s done) (record { drone = d; packet = k }) h

pub acked-cases : (s : Upload) (h : List Event) (e : Event) (d k : ℕ) → acked s (h ++ e ∷ []) d k ≡ true →
    (acked s h d k ≡ true) ⊎ (is_good (reply_to s d k e) ≡ true)
acked-cases s h e d k a = grind (arith, common_steps, joined-cases, acked-push, acknowledges-good)

-- ---- phases, and what is in flight

-- all packets of this phase are among these
abbrev pub Settled : Upload → Phase → Packets → Type 0
Settled s p done = (i : ℕ) → i < drone_count s → (k : ℕ) → first_of s p i ≤ k → k < first_of s p i + count_of s p i → done i k ≡ true

pub Settled-from : (s : Upload) (p : Phase) (done : Packets) → all_settled s p done ≡ true → Settled s p done
unfolding all_settled
Settled-from s p done all i l k a b =
    list_all-range (done i) (first_of s p i) (count_of s p i)
    (list_all-range (λ d. list_all (done d) (range_with_len (first_of s p d) (count_of s p d))) 0 (drone_count s) all i (omega arith) (omega arith)) k a b

pub Settled-more : (s : Upload) (p : Phase) (h t : List Event) → Settled s p (acked s h) → Settled s p (acked s (h ++ t))
Settled-more s p h t f i l k a b = acked-more s h t i k (f i l k a b)

-- the phases before this one are complete
abbrev pub Begun : Upload → Packets → Phase → Type 0
Begun s done Loading = Unit {0}
Begun s done Reading = Settled s Loading done
Begun s done Starting = Settled s Loading done × Settled s Reading done

pub not-false : (b : Bool) → not b ≡ false → b ≡ true
not-false true h = refl
not-false false h = absurd (false≢true (sym h))

pub phase-begun : (s : Upload) (done : Packets) → Begun s done (phase_of s done)
unfolding phase_of
phase-begun s done = by_loading (not (all_settled s Loading done)) refl where
  by_reading : (b : Bool) → not (all_settled s Reading done) ≡ b → Settled s Loading done → Begun s done (cond b Reading Starting)
  by_reading true e l = l
  by_reading false e l = (l, Settled-from s Reading done (not-false (all_settled s Reading done) e))

  by_loading : (b : Bool) → not (all_settled s Loading done) ≡ b → Begun s done (cond b Loading (cond (not (all_settled s Reading done)) Reading Starting))
  by_loading true e = tt
  by_loading false e = by_reading (not (all_settled s Reading done)) refl (Settled-from s Loading done (not-false (all_settled s Loading done) e))

pub allowed-few : (s : Upload) (p : Phase) (done : Packets) (d : ℕ) → allowed s p done d ≤ count_of s p d
allowed-few s Loading done d = grind (arith, common_steps, cond)
allowed-few s p done d = omega arith

-- a packet of this phase
pub record IsIn (s : Upload) (p : Phase) (d k : ℕ) : Type 0 where
  pub from : first_of s p d ≤ k
  pub below : k < first_of s p d + count_of s p d

pub flight_in-in : (s : Upload) (p : Phase) (done : Packets) (d : ℕ) → All (IsIn s p d) (flight_in s p done d)
unfolding flight_in
flight_in-in s p done d =
    let few = allowed-few s p done d in
    All-take (IsIn s p d) 4 (filter (λ k. not (done d k)) (range_with_len (first_of s p d) (allowed s p done d)))
    (All-filter (λ k. not (done d k)) (IsIn s p d) (range_with_len (first_of s p d) (allowed s p done d))
    (All-range (IsIn s p d) (first_of s p d) (allowed s p done d) (λ k l b. record { from = l; below = omega arith })))

-- a packet of the session; a read only where all writes and defines are among these, a start only where all reads are, too
pub record InFlight (s : Upload) (done : Packets) (d k : ℕ) : Type 0 where
  pub inside : k < packet_count s d
  pub loaded : load_count s d ≤ k → Settled s Loading done
  pub read : start_number s d ≤ k → Settled s Reading done

pub in_flight : (s : Upload) (p : Phase) (done : Packets) (d k : ℕ) → Begun s done p → IsIn s p d k → InFlight s done d k
unfolding packet_count
in_flight s Loading done d k begun is =
    let b = is.below in
    record { inside = omega arith; loaded = λ l. absurd (omega arith); read = λ l. absurd (omega arith) }
in_flight s Reading done d k begun is =
    let b = is.below in
    record { inside = omega arith; loaded = λ l. begun; read = λ l. absurd (omega arith) }
in_flight s Starting done d k begun is =
    let b = is.below in
    record { inside = b; loaded = λ l. begun.0; read = λ l. begun.1 }

pub record IsFlight (s : Upload) (done : Packets) (x : Sent) : Type 0 where
  pub drone : x.drone < drone_count s
  pub packet : InFlight s done x.drone x.packet

pub flight_at-fits : (s : Upload) (p : Phase) (done : Packets) → Begun s done p → All (IsFlight s done) (flight_at s p done)
unfolding flight_at
flight_at-fits s p done begun =
    All-flat_map_range (IsFlight s done) (λ d. sent_to d (flight_in s p done d)) 0 (drone_count s)
    (λ d l b. All-map (IsFlight s done) (λ (k : ℕ). record { drone = d; packet = k }) (flight_in s p done d)
    (All-weaker (IsIn s p d) (λ k. IsFlight s done (record { drone = d; packet = k }))
    (λ k f. record { drone = omega arith; packet = in_flight s p done d k begun f }) (flight_in s p done d) (flight_in-in s p done d)))

pub flight-fits : (s : Upload) (done : Packets) → All (IsFlight s done) (flight_after s done)
flight-fits s done = flight_at-fits s (phase_of s done) done (phase-begun s done)

IsFlight-more : (s : Upload) (h t : List Event) (x : Sent) → IsFlight s (acked s h) x → IsFlight s (acked s (h ++ t)) x
IsFlight-more s h t x f = record {
  drone = f.drone;
  packet = record {
    inside = f.packet.inside;
    loaded = λ e. Settled-more s Loading h t (f.packet.loaded e);
    read = λ e. Settled-more s Reading h t (f.packet.read e);
  };
}

sent_at-fits : (s : Upload) (g : List Event) (e : Event) → All (IsFlight s (acked s (g ++ e ∷ []))) (sent_at s g e)
sent_at-fits s g event.Tick =
    All-weaker (IsFlight s (acked s g)) (IsFlight s (acked s (g ++ event.Tick ∷ []))) (λ x f. IsFlight-more s g (event.Tick ∷ []) x f) (flight s g) (flight-fits s (acked s g))
sent_at-fits s g (event.Up from packet) =
    All-filter (λ x. not (includes (flight s g) x)) (IsFlight s (acked s (g ++ event.Up from packet ∷ []))) (flight s (g ++ event.Up from packet ∷ []))
    (flight-fits s (acked s (g ++ event.Up from packet ∷ [])))

pub if_going-fits : (P : Sent → Type 0) (p : Progress) (xs : List Sent) → All P xs → All P (if_going p xs)
if_going-fits P Going xs all = all
if_going-fits P p xs all = All-nil P

pub out-fits : (s : Upload) (g : List Event) (e : Event) → All (IsFlight s (acked s (g ++ e ∷ []))) (out s g e)
unfolding out
out-fits s g e = if_going-fits (IsFlight s (acked s (g ++ e ∷ []))) (progress s (g ++ e ∷ [])) (sent_at s g e) (sent_at-fits s g e)

-- ---- how an upload ends

progress_within-cases : (s : Upload) (h : List Event) (n : ℕ) (p : Progress) → progress_within s h n ≡ p → (p ≡ Going) ⊎ ((m : ℕ) × (ending s (take m h) ≡ p))
unfolding progress_within
progress_within-cases s h zero p e = inr (0, e)
progress_within-cases s h (suc n) p e = by_before (progress_within s h n) (progress_within-cases s h n (progress_within s h n) refl) e where
  by_before : (q : Progress) → (q ≡ Going) ⊎ ((m : ℕ) × (ending s (take m h) ≡ q)) → or_else q (ending s (take (suc n) h)) ≡ p →
      (p ≡ Going) ⊎ ((m : ℕ) × (ending s (take m h) ≡ p))
  by_before Going c f = inr (suc n, f)
  by_before q (inl g) f = inl (sym f ∙ g)
  by_before q (inr c) f = inr (c.0, c.1 ∙ f)

-- no reply says that an upload is done
status-not_done : (d k : ℕ) (o : Option ℕ) → end_of (status_reply d k o) ≡ Done → ⊥
status-not_done d k None h = cc
status-not_done d k (Some status) h = grind (arith, common_steps, eqb, cond)

compared-not_done : (d address : ℕ) (bytes got : List ℕ) (o : Option ℕ) → end_of (compared d address bytes got o) ≡ Done → ⊥
compared-not_done d address bytes got o h = grind (arith, common_steps)

read-not_done : (s : Upload) (d k j : ℕ) (o : Option ReadBack) → end_of (read_reply s d k j o) ≡ Done → ⊥
read-not_done s d k j None h = cc
read-not_done s d k j (Some r) h = grind (arith, common_steps, eqb, cond, compared-not_done)

reply-not_done : (s : Upload) (d k : ℕ) (e : Event) → end_of (reply_to s d k e) ≡ Done → ⊥
unfolding reply_to reply_in
reply-not_done s d k event.Tick h = cc
reply-not_done s d k (event.Up from packet) h = grind (arith, common_steps, eqb, ltb, cond, read-not_done, status-not_done)

-- what holds of each way in which events may end an upload
module _ (P : Progress → Type 0) (going : P Going) (tired : (d k : ℕ) → P (GaveUp d k)) (s : Upload) where
  ended_by-has : (g : List Event) (o : Option Event) → ((e : Event) → o ≡ Some e → (d k : ℕ) → P (end_of (reply_to s d k e))) → P (ended_by s g o)
  ended_by-has g None h = going
  ended_by-has g (Some event.Tick) h = by_found (find (λ x. eqb (ticks s g x) 20) (flight s g)) where
    by_found : (o : Option Sent) → P (gave_up o)
    by_found None = going
    by_found (Some x) = tired x.drone x.packet
  ended_by-has g (Some (event.Up from packet)) h = by_found (find (λ x. ends_for s (acked s g) (event.Up from packet) x) (all_packets s)) where
    by_found : (o : Option Sent) → P (ended_for s (event.Up from packet) o)
    by_found None = going
    by_found (Some x) = h (event.Up from packet) refl x.drone x.packet

  module _ (done : P Done) where
    pub ending-has : (g : List Event) → All (λ e. (d k : ℕ) → P (end_of (reply_to s d k e))) g → P (ending s g)
    unfolding ending
    ending-has g all = by_all (list_all (λ x. acked s g x.drone x.packet) (all_packets s)) where
      by_all : (b : Bool) → P (cond b Done (ended_by s g (slice_get g (length g - 1))))
      by_all true = done
      by_all false =
          ended_by-has g (slice_get g (length g - 1))
          (λ e at. subst (λ x. (d k : ℕ) → P (end_of (reply_to s d k x))) (get_or_from_slice_get g (length g - 1) e e at)
          (all (length g - 1) e (slice_get_within g (length g - 1) e at)))

    or_else-has : (p q : Progress) → P p → P q → P (or_else p q)
    or_else-has Going q a b = b
    or_else-has p q a b = a

    progress_within-has : (h : List Event) (n : ℕ) → All (λ e. (d k : ℕ) → P (end_of (reply_to s d k e))) h → P (progress_within s h n)
    unfolding progress_within
    progress_within-has h zero all = ending-has (take 0 h) (All-take (λ e. (d k : ℕ) → P (end_of (reply_to s d k e))) 0 h all)
    progress_within-has h (suc n) all =
        or_else-has (progress_within s h n) (ending s (take (suc n) h)) (progress_within-has h n all)
        (ending-has (take (suc n) h) (All-take (λ e. (d k : ℕ) → P (end_of (reply_to s d k e))) (suc n) h all))

    pub progress-has : (h : List Event) → All (λ e. (d k : ℕ) → P (end_of (reply_to s d k e))) h → P (progress s h)
    unfolding progress
    progress-has h all = progress_within-has h (length h) all

ending-done : (s : Upload) (g : List Event) → ending s g ≡ Done → list_all (λ x. acked s g x.drone x.packet) (all_packets s) ≡ true
unfolding ending
ending-done s g h = grind (arith, common_steps, cond, reply-not_done)

pub all_packets-each : (s : Upload) (p : Sent → Bool) → list_all p (all_packets s) ≡ true →
    (d k : ℕ) → d < drone_count s → k < packet_count s d → p (record { drone = d; packet = k }) ≡ true
unfolding all_packets
all_packets-each s p all d k l b =
    let one = list_all-flat_map_range p (λ i. sent_to i (range_with_len 0 (packet_count s i))) 0 (drone_count s) all d (omega arith) (omega arith) in
    let each = sym (list_all-map p (λ (j : ℕ). record { drone = d; packet = j }) (range_with_len 0 (packet_count s d))) ∙ one in
    list_all-range (λ j. p (record { drone = d; packet = j })) 0 (packet_count s d) each k (omega arith) (omega arith)

-- after Done every packet is acknowledged
pub acked-done : (s : Upload) (h : List Event) → progress s h ≡ Done → (d k : ℕ) → d < drone_count s → k < packet_count s d → acked s h d k ≡ true
unfolding progress
acked-done s h e d k l b =
    elim (progress_within-cases s h (length h) Done e) [
      | inl never ↦ absurd (cc)
      | inr at ↦ acked-take s h at.0 d k (all_packets-each s (λ x. acked s (take at.0 h) x.drone x.packet) (ending-done s (take at.0 h) at.1) d k l b)
    ]
