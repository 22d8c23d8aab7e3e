-- From the rows of a host to the definitions over its list of events.
use Rattle.upload_core.proofs.Prelude.{common_steps, ◌≡◌, ◌==◌, ◌≢◌, ℕ, zero, suc, ◌+◌, ◌<◌, ◌≤◌, Bool, true, false, not, cond, ◌&&◌, ◌||◌, eqb, List, [], ◌∷◌, ◌++◌, length, map, filter, refl, ap, sym, subst, ◌∙◌, arith, Option, Some, None, inl, inr, find, nat_lt, All, range_with_len, list_all, flat_map, option_or, cases_eq, eq-eqb, false≢true, false_from_ne_true, length-map, find-append, or_right, All-nil, All-cons, All-head, All-tail, All-map, All-weaker, All-from_get_or, Event, Phase, Loading, Sent, Progress, Going, Done, Upload, drone_count, load_count, packet_count, reply_to, is_good, is_end, Packets, phase_of, includes, gave_up, if_going, sent_at, sent_to, all_packets, acknowledges, joined, acked, counts, flight_after, flight, ticks, ended_for, ends_for, ended_by, progress, out, All-flat_map_range, acked-push, acked-more, acked-done, IsFlight, flight-fits, flat_map-range-agree, acked-tick, flight-tick, ticks-push, progress-stays, progress-next, progress-tick, Agree, all_settled-agree, phase_of-agree, flight_after-agree, InFlight, Row, packets_in, among, is_past, is_marked, row_at, marked, window_at, counted, count_in, IsRow, older, older_row, tired_in, RowStands, RowsStand, IsReady, IsLow, in_windows, HostView, IsPacketOf, HostStandsFor, All-range}
use Rattle.upload_model.specs.declared.events.Event.TheVariants as event
use Rattle.upload_core.proofs.Numbers.{between-weaker}
use Rattle.upload_core.proofs.RowLemmas.{packets-older, count_in-older}
use Rattle.upload_core.proofs.Staying.{includes-flight_at, flight-open, ticks-none}
use Rattle.upload_core.proofs.Windows.{windows-flight, includes-windows}
use Rattle.upload_core.proofs.Walks.{all-at, packet_of, tired-row}

-- ---- tests that agree

find-agree : (p q : Sent → Bool) (xs : List Sent) → All (λ x. p x ≡ q x) xs → find p xs ≡ find q xs
find-agree p q [] all = refl
find-agree p q (x ∷ xs) all =
    ap (λ b. cond b (Some x) (find p xs)) (All-head (λ y. p y ≡ q y) x xs all)
    ∙ ap (λ (o : Option Sent). cond (q x) (Some x) o) (find-agree p q xs (All-tail (λ y. p y ≡ q y) x xs all))

list_all-agree : (p q : Sent → Bool) (xs : List Sent) → All (λ x. p x ≡ q x) xs → list_all p xs ≡ list_all q xs
list_all-agree p q [] all = refl
list_all-agree p q (x ∷ xs) all =
    ap (λ b. b && list_all p xs) (All-head (λ y. p y ≡ q y) x xs all) ∙ ap (λ b. q x && b) (list_all-agree p q xs (All-tail (λ y. p y ≡ q y) x xs all))

-- they agree at the packets of a session
abbrev pub SameTest : Upload → (Sent → Bool) → (Sent → Bool) → Type 0
SameTest s p q = (d k : ℕ) → d < drone_count s → k < packet_count s d → p (record { drone = d; packet = k }) ≡ q (record { drone = d; packet = k })

same-packets : (s : Upload) (p q : Sent → Bool) → SameTest s p q → All (λ x. p x ≡ q x) (all_packets s)
unfolding all_packets
same-packets s p q h =
    All-flat_map_range (λ x. p x ≡ q x) (λ d. sent_to d (range_with_len 0 (packet_count s d))) 0 (drone_count s)
    (λ d l b. All-map (λ x. p x ≡ q x) (λ (k : ℕ). record { drone = d; packet = k }) (range_with_len 0 (packet_count s d))
    (All-range (λ k. p (record { drone = d; packet = k }) ≡ q (record { drone = d; packet = k })) 0 (packet_count s d) (λ k m c. h d k (omega arith) (omega arith))))

pub find-packets_agree : (s : Upload) (p q : Sent → Bool) → SameTest s p q → find p (all_packets s) ≡ find q (all_packets s)
find-packets_agree s p q h = find-agree p q (all_packets s) (same-packets s p q h)

pub list_all-packets_agree : (s : Upload) (p q : Sent → Bool) → SameTest s p q → list_all p (all_packets s) ≡ list_all q (all_packets s)
list_all-packets_agree s p q h = list_all-agree p q (all_packets s) (same-packets s p q h)

all-among : (ks : List ℕ) → All (λ k. among ks k ≡ true) ks
all-among [] = All-nil (λ k. among [] k ≡ true)
all-among (x ∷ ks) =
    All-cons (λ k. among (x ∷ ks) k ≡ true) x ks (ap (λ b. b || among ks x) (eq-eqb x x refl))
    (All-weaker (λ k. among ks k ≡ true) (λ k. among (x ∷ ks) k ≡ true) (λ k e. or_right (x == k) (among ks k) e) ks (all-among ks))

all-windows : (P : Sent → Type 0) (rows : List Row) (n : ℕ) → ((d k : ℕ) → d < n → among (window_at rows d) k ≡ true → P (record { drone = d; packet = k })) → All P (in_windows rows n)
all-windows P rows n h =
    All-flat_map_range P (λ d. sent_to d (window_at rows d)) 0 n
    (λ d l b. All-map P (λ (k : ℕ). record { drone = d; packet = k }) (window_at rows d)
    (All-weaker (λ k. among (window_at rows d) k ≡ true) (λ k. P (record { drone = d; packet = k })) (λ k f. h d k (omega arith) f) (window_at rows d) (all-among (window_at rows d))))

-- ---- what is in flight are packets of the session

pub flight_after-known : (s : Upload) (done : Packets) → All (IsPacketOf s) (flight_after s done)
flight_after-known s done =
    All-weaker (IsFlight s done) (IsPacketOf s) (λ x f. record { drone = f.drone; packet = f.packet.inside }) (flight_after s done) (flight-fits s done)

-- ---- rows with one tick more

pub row_at-older : (rows : List Row) (d : ℕ) → row_at (map older_row rows) d ≡ older_row (row_at rows d)
row_at-older [] d = refl
row_at-older (row ∷ rows) zero = refl
row_at-older (row ∷ rows) (suc d) = row_at-older rows d

pub older-packets : (rows : List Row) (d : ℕ) → window_at (map older_row rows) d ≡ window_at rows d
older-packets rows d = ap (λ (row : Row). packets_in row.window.items) (row_at-older rows d) ∙ packets-older (row_at rows d).window.items

pub older-marked : (rows : List Row) (d k : ℕ) → marked (map older_row rows) d k ≡ marked rows d k
older-marked rows d k =
    ap (λ (row : Row). is_marked row k) (row_at-older rows d) ∙ ap (λ (ks : List ℕ). is_past (row_at rows d).next ks k) (packets-older (row_at rows d).window.items)

pub older-counted : (rows : List Row) (d k : ℕ) → counted (map older_row rows) d k ≡ counted rows d k + cond (among (window_at rows d) k) 1 0
older-counted rows d k = ap (λ (row : Row). count_in row.window.items k) (row_at-older rows d) ∙ count_in-older (row_at rows d).window.items k

pub older-windows : (rows : List Row) (n : ℕ) → in_windows (map older_row rows) n ≡ in_windows rows n
older-windows rows n =
    flat_map-range-agree (λ d. sent_to d (window_at (map older_row rows) d)) (λ d. sent_to d (window_at rows d)) 0 n (λ d l b. ap (sent_to d) (older-packets rows d))

pub older-row : (a : ℕ) (row : Row) → IsRow a row → IsRow a (older_row row)
older-row a row h = grind (arith, common_steps, length-map, packets-older)

older-stands : (s : Upload) (p : Phase) (d : ℕ) (row : Row) → RowStands s p d row → RowStands s p d (older_row row)
older-stands s p d row stands = grind (arith, common_steps, older-row, packets-older)

pub older-rows : (s : Upload) (p : Phase) (rows : List Row) → RowsStand s p rows → RowsStand s p (map older_row rows)
older-rows s p rows stand = record {
  count = length-map rows older_row ∙ stand.count;
  each = λ d l. subst (RowStands s p d) (sym (row_at-older rows d)) (older-stands s p d (row_at rows d) (stand.each d l));
}

pub older-phase : (s : Upload) (rows : List Row) → phase_of s (marked rows) ≡ phase_of s (marked (map older_row rows))
older-phase s rows = sym (phase_of-agree s (marked (map older_row rows)) (marked rows) (λ d k l b. older-marked rows d k))

-- a row, seen from the number 0
pub row-shape : (s : Upload) (p : Phase) (rows : List Row) → RowsStand s p rows → (d : ℕ) → d < length rows → IsRow 0 (row_at rows d)
row-shape s p rows stand d l = grind (arith, common_steps, between-weaker)

-- ---- a tick after which the upload goes on

no-option : {X : Type 0} (o p : Option X) → option_or o p ≡ None → (o ≡ None) × (p ≡ None)
no-option None p e = (refl, e)
no-option (Some x) p e = absurd (cc)

no-packet : (d : ℕ) (o : Option ℕ) → packet_of d o ≡ None → o ≡ None
no-packet d None e = refl
no-packet d (Some k) e = absurd (cc)

not-given_up : (o : Option Sent) → gave_up o ≡ Going → o ≡ None
not-given_up None e = refl
not-given_up (Some x) e = absurd (cc)

-- what isn't found anywhere isn't found at one drone
find-nowhere : (q : Sent → Bool) (f : ℕ → List Sent) (a n : ℕ) → find q (flat_map f (range_with_len a n)) ≡ None → (d : ℕ) → a ≤ d → d < a + n → find q (f d) ≡ None
find-nowhere q f a zero e d l b = absurd (omega arith)
find-nowhere q f a (suc n) e d l b =
    let both = no-option (find q (f a)) (find q (flat_map f (range_with_len (a + 1) n))) (sym (find-append q (f a) (flat_map f (range_with_len (a + 1) n))) ∙ e) in
    elim (cases_eq a d) [
      | inl same ↦ ap (λ (i : ℕ). find q (f i)) (sym same) ∙ both.0
      | inr other ↦ find-nowhere q f (a + 1) n both.1 d (omega arith) (omega arith)
    ]

-- not at 20 ticks yet
abbrev pub IsUntired : InFlight → Type 0
IsUntired e = e.ticks < 20

not-tired : (es : List InFlight) → All IsUntired es → tired_in (map older es) ≡ None → All IsUntired (map older es)
not-tired [] low none = All-nil IsUntired
not-tired (x ∷ es) low none = at (x.ticks + 1 == 20) refl (λ f. not-tired es (All-tail IsUntired x es low) f) none where
  at : (b : Bool) → (x.ticks + 1 == 20) ≡ b → (tired_in (map older es) ≡ None → All IsUntired (map older es)) → cond b (Some x.packet) (tired_in (map older es)) ≡ None →
      All IsUntired (older x ∷ map older es)
  at true e later f = absurd (cc)
  at false e later f = All-cons IsUntired (older x) (map older es) younger (later f) where
    younger : x.ticks + 1 < 20
    younger = elim (cases_eq (x.ticks + 1) 20) [
      | inl same ↦ absurd (false≢true (sym e ∙ eq-eqb (x.ticks + 1) 20 same))
      | inr other ↦ let l = All-head IsUntired x es low in omega arith
    ]

pub ready-tick : (s : Upload) (p : Phase) (rows : List Row) → RowsStand s p rows → (answer : Progress) →
    answer ≡ gave_up (find (λ x. counted (map older_row rows) x.drone x.packet == 20) (in_windows rows (length rows))) →
    IsReady s rows → answer ≡ Going → IsReady s (map older_row rows)
ready-tick s p rows stand answer answer_is ready going = record {
  unfinished = list_all-packets_agree s (λ x. marked (map older_row rows) x.drone x.packet) (λ x. marked rows x.drone x.packet) (λ d k l b. older-marked rows d k) ∙ ready.unfinished;
  low = All-from_get_or (λ (row : Row). All IsUntired row.window.items) (map older_row rows) (record { window = record { items = [] }; next = 0; until = 0 })
      (λ d l. let n = length-map rows older_row in low_at d (omega arith));
} where
  tired : Sent → Bool
  tired x = counted (map older_row rows) x.drone x.packet == 20

  nothing : find tired (in_windows (map older_row rows) (length rows)) ≡ None
  nothing = ap (find tired) (older-windows rows (length rows)) ∙ not-given_up (find tired (in_windows rows (length rows))) (sym answer_is ∙ going)

  none_at : (d : ℕ) → d < length rows → tired_in (row_at (map older_row rows) d).window.items ≡ None
  none_at d l =
      no-packet d (tired_in (row_at (map older_row rows) d).window.items)
      (sym (tired-row (map older_row rows) d (subst (IsRow 0) (sym (row_at-older rows d)) (older-row 0 (row_at rows d) (row-shape s p rows stand d l))))
      ∙ find-nowhere tired (λ i. sent_to i (window_at (map older_row rows) i)) 0 (length rows) nothing d (omega arith) (omega arith))

  low_at : (d : ℕ) → d < length rows → All IsUntired (row_at (map older_row rows) d).window.items
  low_at d l =
      subst (λ (row : Row). All IsUntired row.window.items) (sym (row_at-older rows d))
      (not-tired (row_at rows d).window.items (all-at rows ready.low d l)
      (ap (λ (row : Row). tired_in row.window.items) (sym (row_at-older rows d)) ∙ none_at d l))

-- ---- a tick

module _ (s : Upload) (p : Phase) (rows : List Row) (stand : RowsStand s p rows) (phase : p ≡ phase_of s (marked rows)) (answer : Progress)
    (answer_is : answer ≡ gave_up (find (λ x. counted (map older_row rows) x.drone x.packet == 20) (in_windows rows (length rows)))) where
  windows : in_windows rows (length rows) ≡ flight_after s (marked rows)
  windows = ap (in_windows rows) stand.count ∙ sym (windows-flight s p rows stand phase)

  module _ (h : List Event) (stands : HostStandsFor (record { session = s; marked = marked rows; counted = counted rows; progress = Going }) h) where
    agree : Agree s (marked rows) (acked s h)
    agree d k l b = stands.marked (inl refl) d k l b

    in_flight : in_windows rows (length rows) ≡ flight s h
    in_flight = windows ∙ flight_after-agree s (marked rows) (acked s h) agree

    includes_is : (x : Sent) → x.drone < drone_count s → includes (flight s h) x ≡ among (window_at rows x.drone) x.packet
    includes_is x l = ap (λ (xs : List Sent). includes xs x) (sym in_flight) ∙ includes-windows rows (length rows) x (let n = stand.count in omega arith)

    ticks_more : (x : Sent) → x.drone < drone_count s → includes (flight s h) x ≡ true → counted (map older_row rows) x.drone x.packet ≡ ticks s (h ++ event.Tick ∷ []) x
    ticks_more x l there =
        older-counted rows x.drone x.packet ∙ ap (λ (n : ℕ). n + cond (among (window_at rows x.drone) x.packet) 1 0) (stands.counted refl x l there)
        ∙ ap (λ b. ticks s h x + cond b 1 0) (sym (includes_is x l)) ∙ sym (ticks-push s h event.Tick x)

    pub answer-tick : answer ≡ progress s (h ++ event.Tick ∷ [])
    answer-tick =
        answer_is
        ∙ ap gave_up (find-agree (λ x. counted (map older_row rows) x.drone x.packet == 20) (λ x. eqb (ticks s (h ++ event.Tick ∷ []) x) 20) (in_windows rows (length rows))
        (all-windows (λ x. (counted (map older_row rows) x.drone x.packet == 20) ≡ eqb (ticks s (h ++ event.Tick ∷ []) x) 20) rows (length rows)
        (λ d k l f.
        let n = stand.count in
        let known : d < drone_count s = omega arith in
        ap (λ (m : ℕ). m == 20) (ticks_more (record { drone = d; packet = k }) known (includes_is (record { drone = d; packet = k }) known ∙ f)))))
        ∙ ap (λ (xs : List Sent). gave_up (find (λ x. eqb (ticks s (h ++ event.Tick ∷ []) x) 20) xs)) in_flight
        ∙ sym (progress-tick s h (sym stands.answer))

    pub stands-tick : HostStandsFor (record { session = s; marked = marked (map older_row rows); counted = counted (map older_row rows); progress = answer }) (h ++ event.Tick ∷ [])
    stands-tick = record {
      answer = answer-tick;
      marked = λ either d k l b. older-marked rows d k ∙ agree d k l b ∙ ap (λ (f : Packets). f d k) (sym (acked-tick s h));
      counted = λ going x l there. ticks_more x l (ap (λ (xs : List Sent). includes xs x) (sym (flight-tick s h)) ∙ there);
    }

    pub sent-tick : if_going answer (in_windows rows (length rows)) ≡ out s h event.Tick
    unfolding out
    sent-tick = ap (λ (q : Progress). if_going q (in_windows rows (length rows))) answer-tick ∙ ap (if_going (progress s (h ++ event.Tick ∷ []))) in_flight

-- ---- an answer

acknowledges-agree : (s : Upload) (f g : Packets) (e : Event) → Agree s f g → acknowledges s f e ≡ acknowledges s g e
unfolding acknowledges
acknowledges-agree s f g e same = ap (find (λ x. is_good (reply_to s x.drone x.packet e))) (flight_after-agree s f g same)

joined-agree : (f g : Packets) (o : Option Sent) (d k : ℕ) → f d k ≡ g d k → joined f o d k ≡ joined g o d k
joined-agree f g None d k e = e
joined-agree f g (Some x) d k e = ap (λ b. b || (x.drone == d && x.packet == k)) e

module _ (s : Upload) (rows rows' : List Row) (from : ℕ) (packet : List ℕ) (answer : Progress)
    (marks_is : (d k : ℕ) → d < drone_count s → marked rows' d k ≡ joined (marked rows) (acknowledges s (marked rows) (event.Up from packet)) d k)
    (counts_is : (x : Sent) → includes (flight_after s (marked rows')) x ≡ true →
    counted rows' x.drone x.packet ≡ cond (includes (flight_after s (marked rows)) x) (counted rows x.drone x.packet) 0)
    (finished : list_all (λ x. marked rows' x.drone x.packet) (all_packets s) ≡ true → answer ≡ Done)
    (unfinished : list_all (λ x. marked rows' x.drone x.packet) (all_packets s) ≡ false → answer
    ≡ ended_for s (event.Up from packet) (find (λ x. ends_for s (marked rows') (event.Up from packet) x) (all_packets s))) where
  abbrev up : Event
  up = event.Up from packet

  pub ready-hear : (IsLow rows') → answer ≡ Going → IsReady s rows'
  ready-hear low going = record { unfinished = at (list_all (λ x. marked rows' x.drone x.packet) (all_packets s)) refl; low = low } where
    at : (b : Bool) → list_all (λ x. marked rows' x.drone x.packet) (all_packets s) ≡ b → b ≡ false
    at true e = let done_now = finished e in absurd (cc)
    at false e = refl

  module _ (h : List Event) (stands : HostStandsFor (record { session = s; marked = marked rows; counted = counted rows; progress = Going }) h) where
    before : Agree s (marked rows) (acked s h)
    before d k l b = stands.marked (inl refl) d k l b

    now : Agree s (marked rows') (acked s (h ++ up ∷ []))
    now d k l b =
        marks_is d k l
        ∙ ap (λ (o : Option Sent). joined (marked rows) o d k) (acknowledges-agree s (marked rows) (acked s h) up before)
        ∙ joined-agree (marked rows) (acked s h) (acknowledges s (acked s h) up) d k (before d k l b)
        ∙ ap (λ (f : Packets). f d k) (sym (acked-push s h up))

    same_test : SameTest s (λ x. ends_for s (marked rows') up x) (λ x. ends_for s (acked s (h ++ up ∷ [])) up x)
    same_test d k l b =
        ap (λ t. is_end (reply_to s d k up) && counts s (marked rows') d k && not t) (now d k l b)
        ∙ ap (λ t. is_end (reply_to s d k up) && (nat_lt k (load_count s d) || not s.readback || t) && not (acked s (h ++ up ∷ []) d k))
        (all_settled-agree s Loading (marked rows') (acked s (h ++ up ∷ [])) now)

    pub answer-hear : answer ≡ progress s (h ++ up ∷ [])
    answer-hear = by_all (list_all (λ x. marked rows' x.drone x.packet) (all_packets s)) refl ∙ sym (progress-next s h up (sym stands.answer)) where
      all_same : list_all (λ x. marked rows' x.drone x.packet) (all_packets s) ≡ list_all (λ x. acked s (h ++ up ∷ []) x.drone x.packet) (all_packets s)
      all_same = list_all-packets_agree s (λ x. marked rows' x.drone x.packet) (λ x. acked s (h ++ up ∷ []) x.drone x.packet) now

      by_all : (b : Bool) → list_all (λ x. marked rows' x.drone x.packet) (all_packets s) ≡ b →
          answer ≡ cond (list_all (λ x. acked s (h ++ up ∷ []) x.drone x.packet) (all_packets s)) Done (ended_by s (h ++ up ∷ []) (Some up))
      by_all true e = finished e ∙ sym (ap (λ t. cond t Done (ended_by s (h ++ up ∷ []) (Some up))) (sym all_same ∙ e))
      by_all false e =
          unfinished e
          ∙ ap (ended_for s up) (find-packets_agree s (λ x. ends_for s (marked rows') up x) (λ x. ends_for s (acked s (h ++ up ∷ [])) up x) same_test)
          ∙ sym (ap (λ t. cond t Done (ended_by s (h ++ up ∷ []) (Some up))) (sym all_same ∙ e))

    flights : flight_after s (marked rows) ≡ flight s h
    flights = flight_after-agree s (marked rows) (acked s h) before

    flights' : flight_after s (marked rows') ≡ flight s (h ++ up ∷ [])
    flights' = flight_after-agree s (marked rows') (acked s (h ++ up ∷ [])) now

    counts_stand : (x : Sent) → x.drone < drone_count s → includes (flight s (h ++ up ∷ [])) x ≡ true → counted rows' x.drone x.packet ≡ ticks s (h ++ up ∷ []) x
    counts_stand x l there =
        counts_is x (ap (λ (xs : List Sent). includes xs x) flights' ∙ there)
        ∙ ap (λ (xs : List Sent). cond (includes xs x) (counted rows x.drone x.packet) 0) flights
        ∙ by_flight (includes (flight s h) x) refl
        ∙ (let e : ticks s h x ≡ ticks s h x + 0 = omega arith in e) ∙ sym (ticks-push s h up x) where
          opened : acked s (h ++ up ∷ []) x.drone x.packet ≡ false
          opened = (flight-open s (phase_of s (acked s (h ++ up ∷ []))) (acked s (h ++ up ∷ [])) x.drone x.packet
              (sym (includes-flight_at s (phase_of s (acked s (h ++ up ∷ []))) (acked s (h ++ up ∷ [])) x l) ∙ there)).2

          by_flight : (b : Bool) → includes (flight s h) x ≡ b → cond b (counted rows x.drone x.packet) 0 ≡ ticks s h x
          by_flight true e = stands.counted refl x l e
          by_flight false e =
              sym (ticks-none s h x l (false_from_ne_true (acked s h x.drone x.packet) (λ t. false≢true (sym opened ∙ acked-more s h (up ∷ []) x.drone x.packet t))) e)

    pub stands-hear : HostStandsFor (record { session = s; marked = marked rows'; counted = counted rows'; progress = answer }) (h ++ up ∷ [])
    stands-hear = record {
      answer = answer-hear;
      marked = λ either d k l b. now d k l b;
      counted = λ going x l there. counts_stand x l there;
    }

    pub sent-hear : if_going answer (filter (λ x. not (includes (flight_after s (marked rows)) x)) (flight_after s (marked rows'))) ≡ out s h up
    unfolding out
    sent-hear =
        ap (λ (q : Progress). if_going q (filter (λ x. not (includes (flight_after s (marked rows)) x)) (flight_after s (marked rows')))) answer-hear
        ∙ ap (λ (xs : List Sent). if_going (progress s (h ++ up ∷ [])) (filter (λ x. not (includes xs x)) (flight_after s (marked rows')))) flights
        ∙ ap (λ (xs : List Sent). if_going (progress s (h ++ up ∷ [])) (filter (λ x. not (includes (flight s h) x)) xs)) flights'

-- ---- after the end

pub stands-ended : (host : HostView) (h : List Event) (e : Event) → host.progress ≢ Going → HostStandsFor host h → HostStandsFor host (h ++ e ∷ [])
stands-ended host h e ended stands = grind (arith, common_steps, progress-stays, acked-done, acked-more)

if_going-ended : (p : Progress) (xs : List Sent) → p ≢ Going → if_going p xs ≡ []
if_going-ended Going xs h = absurd (h refl)
if_going-ended p xs h = refl

pub sent-ended : (host : HostView) (h : List Event) (e : Event) → host.progress ≢ Going → HostStandsFor host h → out host.session h e ≡ []
unfolding out
sent-ended host h e ended stands =
    let stays = (stands-ended host h e ended stands).answer in
    if_going-ended (progress host.session (h ++ e ∷ [])) (sent_at host.session h e) (λ g. ended (stays ∙ g))
