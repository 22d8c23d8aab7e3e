-- What an answer makes of an upload: what it acknowledges, and what it ends it with.
use Rattle.upload_core.proofs.Prelude.{common_steps, ◌≡◌, ◌⊎◌, ◌==◌, ℕ, ◌<◌, ◌≤◌, Bool, true, false, not, cond, ◌&&◌, ◌||◌, List, [], ◌∷◌, filter, refl, ap, sym, subst, ◌∙◌, arith, Option, Some, None, Err, inl, inr, find, range_with_len, list_all, cases_eq, eq-eqb, eqb-true, lt-ltb, false≢true, and_parts, and_from, false_from_ne_true, or_left, or_right, or_parts, and_left, and_right, up_of, PacketFault, Event, Sent, Phase, Progress, Going, Done, Reply, Silent, Good, Ends, Upload, drone_count, packet_count, reply_in, reply_to, is_good, is_end, end_of, Packets, phase_of, includes, flight_after, acknowledges, joined, all_packets, counts as counts_for, ended_for, ends_for, if_going, reply-by, Row, marked, counted, IsFor, RowsStand, Hears}
use Rattle.upload_model.specs.declared.events.Event.TheVariants as event
use Rattle.upload_core.proofs.Numbers.{among-range_in}
use Rattle.upload_core.proofs.Staying.{includes-rows}

-- ---- searches

find-none : (p : Sent → Bool) → ((x : Sent) → p x ≡ false) → (xs : List Sent) → find p xs ≡ None
find-none p h [] = refl
find-none p h (x ∷ xs) = ap (λ (b : Bool). cond b (Some x) (find p xs)) (h x) ∙ find-none p h xs

sent-same : (x y : Sent) → x.drone ≡ y.drone → x.packet ≡ y.packet → x ≡ y
sent-same x y e f = ap (λ (i : ℕ). record { drone = i; packet = x.packet }) e ∙ ap (λ (j : ℕ). record { drone = y.drone; packet = j }) f

-- the one that passes is found where it is among these
find-only : (p : Sent → Bool) (x : Sent) → p x ≡ true → ((y : Sent) → p y ≡ true → y ≡ x) → (xs : List Sent) → includes xs x ≡ true → find p xs ≡ Some x
find-only p x here one [] found = absurd (false≢true found)
find-only p x here one (y ∷ ys) found = at (λ later. find-only p x here one ys later) (p y) refl where
  at : (includes ys x ≡ true → find p ys ≡ Some x) → (b : Bool) → p y ≡ b → cond b (Some y) (find p ys) ≡ Some x
  at rest true e = ap Some (one y e)
  at rest false e =
      rest
      (sym (ap (λ (b : Bool). b || includes ys x)
      (false_from_ne_true (y.drone == x.drone && y.packet == x.packet) (λ t.
      let parts = and_parts (y.drone == x.drone) (y.packet == x.packet) t in
      let same : y ≡ x = sent-same y x (eqb-true y.drone x.drone parts.0) (eqb-true y.packet x.packet parts.1) in
      false≢true (sym e ∙ ap p same ∙ here)))) ∙ found)

-- none is found where it is not
find-other : (p : Sent → Bool) (x : Sent) → ((y : Sent) → p y ≡ true → y ≡ x) → (xs : List Sent) → includes xs x ≡ false → find p xs ≡ None
find-other p x one [] out = refl
find-other p x one (y ∷ ys) out =
    let parts = or_parts (y.drone == x.drone && y.packet == x.packet) (includes ys x) out in
    at parts.0 (find-other p x one ys parts.1) (p y) refl where
      at : (y.drone == x.drone && y.packet == x.packet) ≡ false → find p ys ≡ None → (b : Bool) → p y ≡ b → cond b (Some y) (find p ys) ≡ None
      at apart rest true e =
          let same = one y e in
          absurd (false≢true (sym apart
          ∙ ap (λ (b : Bool). b && y.packet == x.packet) (eq-eqb y.drone x.drone (ap (λ (z : Sent). z.drone) same)) ∙ eq-eqb y.packet x.packet (ap (λ (z : Sent). z.packet) same)))
      at apart rest false e = rest

all_packets-has : (s : Upload) (x : Sent) → x.drone < drone_count s → x.packet < packet_count s x.drone → includes (all_packets s) x ≡ true
unfolding all_packets
all_packets-has s x l b =
    includes-rows (λ d. range_with_len 0 (packet_count s d)) 0 (drone_count s) x (omega arith) (omega arith)
    ∙ among-range_in 0 (packet_count s x.drone) x.packet (omega arith) (omega arith)

-- ---- what an answer says of the packets of a session

-- nothing of any
abbrev pub IsSilent : Upload → Event → Type 0
IsSilent s e = (x : Sent) → reply_to s x.drone x.packet e ≡ Silent

-- nothing of any but this one
abbrev pub IsOnly : Upload → Event → Sent → Type 0
IsOnly s e x = (y : Sent) → (reply_to s y.drone y.packet e ≡ Silent → ⊥) → y ≡ x

pub silent-unknown : (s : Upload) (from : ℕ) (packet : List ℕ) → drone_count s ≤ from → IsSilent s (event.Up from packet)
silent-unknown s from packet past x = reply-by (λ (r : Reply). r ≡ Silent) s x.drone x.packet from packet refl (λ e l b. absurd (omega arith))

reply-fault : (s : Upload) (d k : ℕ) (fault : PacketFault) → reply_in s d k (Err fault) ≡ Silent
unfolding reply_in
reply-fault s d k fault = grind (arith, common_steps, cond)

pub silent-fault : (s : Upload) (from : ℕ) (packet : List ℕ) (fault : PacketFault) → up_of packet ≡ Err fault → IsSilent s (event.Up from packet)
silent-fault s from packet fault is x =
    reply-by (λ (r : Reply). r ≡ Silent) s x.drone x.packet from packet refl
    (λ e l b. ap (reply_in s x.drone x.packet) is ∙ reply-fault s x.drone x.packet fault)

pub silent-none : (s : Upload) (from : ℕ) (packet : List ℕ) → IsFor s from (up_of packet) None → IsSilent s (event.Up from packet)
silent-none s from packet none x =
    reply-by (λ (r : Reply). r ≡ Silent) s x.drone x.packet from packet refl
    (λ e l b. subst (λ (d : ℕ). x.packet < packet_count s d → reply_in s d x.packet (up_of packet) ≡ Silent) e (λ c. none x.packet c) b)

pub only-some : (s : Upload) (from k : ℕ) (packet : List ℕ) → IsFor s from (up_of packet) (Some k) → IsOnly s (event.Up from packet) (record { drone = from; packet = k })
only-some s from k packet only y heard = elim (cases_eq y.drone from) [
  | inl here ↦ elim (cases_eq y.packet k) [
    | inl same ↦ sent-same y (record { drone = from; packet = k }) here same
    | inr other ↦ absurd (heard
        (reply-by (λ (r : Reply). r ≡ Silent) s y.drone y.packet from packet refl
        (λ e l b. subst (λ (d : ℕ). y.packet < packet_count s d → reply_in s d y.packet (up_of packet) ≡ Silent) e (λ c. only.1 y.packet c other) b)))
  ]
  | inr there ↦ absurd (heard (reply-by (λ (r : Reply). r ≡ Silent) s y.drone y.packet from packet refl (λ e l b. absurd (there (sym e)))))
]

pub reply-here : (s : Upload) (d k : ℕ) (packet : List ℕ) → d < drone_count s → k < packet_count s d → reply_to s d k (event.Up d packet) ≡ reply_in s d k (up_of packet)
unfolding reply_to
reply-here s d k packet l b = grind (arith, common_steps, cond, eq-eqb, lt-ltb)

-- silence alone
pub only-silent : (s : Upload) (e : Event) (x : Sent) → IsOnly s e x → reply_to s x.drone x.packet e ≡ Silent → IsSilent s e
only-silent s e x only none y = grind (arith, common_steps)

-- ---- what it acknowledges, and for which packet it ends the upload

module _ (s : Upload) (e : Event) (done : Packets) where
  pub acknowledges-silent : IsSilent s e → acknowledges s done e ≡ None
  unfolding acknowledges
  acknowledges-silent silent = find-none (λ x. is_good (reply_to s x.drone x.packet e)) (λ x. ap is_good (silent x)) (flight_after s done)

  pub ends-silent : IsSilent s e → find (λ x. ends_for s done e x) (all_packets s) ≡ None
  ends-silent silent =
      find-none (λ x. ends_for s done e x)
      (λ x. ap (λ (r : Reply). is_end r && counts_for s done x.drone x.packet && not (done x.drone x.packet)) (silent x)) (all_packets s)

  module _ (x : Sent) (only : IsOnly s e x) where
    good-one : (y : Sent) → is_good (reply_to s y.drone y.packet e) ≡ true → y ≡ x
    good-one y g = only y (λ silent. false≢true (sym (ap is_good silent) ∙ g))

    pub acknowledges-here : reply_to s x.drone x.packet e ≡ Good → includes (flight_after s done) x ≡ true → acknowledges s done e ≡ Some x
    unfolding acknowledges
    acknowledges-here good there =
        find-only (λ y. is_good (reply_to s y.drone y.packet e)) x (ap is_good good) good-one (flight_after s done) there

    pub acknowledges-out : includes (flight_after s done) x ≡ false → acknowledges s done e ≡ None
    unfolding acknowledges
    acknowledges-out out = find-other (λ y. is_good (reply_to s y.drone y.packet e)) x good-one (flight_after s done) out

    pub acknowledges-bad : is_good (reply_to s x.drone x.packet e) ≡ false → acknowledges s done e ≡ None
    unfolding acknowledges
    acknowledges-bad bad =
        find-none (λ y. is_good (reply_to s y.drone y.packet e))
        (λ y. false_from_ne_true (is_good (reply_to s y.drone y.packet e))
        (λ g. false≢true (sym bad ∙ ap (λ (z : Sent). is_good (reply_to s z.drone z.packet e)) (sym (good-one y g)) ∙ g)))
        (flight_after s done)

    ends-one : (y : Sent) → ends_for s done e y ≡ true → y ≡ x
    ends-one y t =
        let outer = and_parts (is_end (reply_to s y.drone y.packet e) && counts_for s done y.drone y.packet) (not (done y.drone y.packet)) t in
        let inner = and_parts (is_end (reply_to s y.drone y.packet e)) (counts_for s done y.drone y.packet) outer.0 in
        only y (λ silent. false≢true (sym (ap is_end silent) ∙ inner.0))

    pub ends-none : ends_for s done e x ≡ false → find (λ y. ends_for s done e y) (all_packets s) ≡ None
    ends-none calm =
        find-none (λ y. ends_for s done e y)
        (λ y. false_from_ne_true (ends_for s done e y) (λ t. false≢true (sym calm ∙ ap (λ (z : Sent). ends_for s done e z) (sym (ends-one y t)) ∙ t)))
        (all_packets s)

    pub ends-here : x.drone < drone_count s → x.packet < packet_count s x.drone → ends_for s done e x ≡ true → find (λ y. ends_for s done e y) (all_packets s) ≡ Some x
    ends-here l b t = find-only (λ y. ends_for s done e y) x t ends-one (all_packets s) (all_packets-has s x l b)

-- ---- an answer that changes nothing

if_going-nothing : (p : Progress) → if_going p [] ≡ []
if_going-nothing Going = refl
if_going-nothing p = refl

filter-itself : (xs ys : List Sent) → ((x : Sent) → includes ys x ≡ true → includes xs x ≡ true) → filter (λ x. not (includes xs x)) ys ≡ []
filter-itself xs [] sub = refl
filter-itself xs (y ∷ ys) sub =
    ap (λ (b : Bool). cond (not b) (y ∷ filter (λ x. not (includes xs x)) ys) (filter (λ x. not (includes xs x)) ys))
    (sub y (or_left (y.drone == y.drone && y.packet == y.packet) (includes ys y)
    (ap (λ (b : Bool). b && y.packet == y.packet) (eq-eqb y.drone y.drone refl) ∙ eq-eqb y.packet y.packet refl)))
    ∙ filter-itself xs ys (λ x f. sub x (or_right (y.drone == x.drone && y.packet == x.packet) (includes ys x) f))

module _ (s : Upload) (e : Event) (p : Phase) (rows : List Row) (sent : List Sent) (stand : RowsStand s p rows) (phase : p ≡ phase_of s (marked rows))
    (going : list_all (λ x. marked rows x.drone x.packet) (all_packets s) ≡ false) (empty : sent ≡ []) where
  hears-same : (answer : Progress) → acknowledges s (marked rows) e ≡ None → answer ≡ ended_for s e (find (λ x. ends_for s (marked rows) e x) (all_packets s)) →
      Hears s e rows p rows answer sent
  hears-same answer none ends = record {
    rows = stand;
    phase = phase;
    marks = λ d k l. ap (λ (o : Option Sent). joined (marked rows) o d k) (sym none);
    counts = λ x there. sym (ap (λ (b : Bool). cond b (counted rows x.drone x.packet) 0) there);
    low = λ low. low;
    len = refl;
    finished = λ all. absurd (false≢true (sym going ∙ all));
    unfinished = λ some. ends;
    sent = empty
        ∙ sym (ap (if_going answer) (filter-itself (flight_after s (marked rows)) (flight_after s (marked rows)) (λ x f. f)) ∙ if_going-nothing answer);
  }

  -- of nothing at all
  pub hears-silent : IsSilent s e → Hears s e rows p rows Going sent
  hears-silent silent =
      hears-same Going (acknowledges-silent s e (marked rows) silent) (sym (ap (ended_for s e) (ends-silent s e (marked rows) silent)))

  module _ (x : Sent) (only : IsOnly s e x) where
    -- a good answer to what isn't in flight
    pub hears-out : reply_to s x.drone x.packet e ≡ Good → includes (flight_after s (marked rows)) x ≡ false → Hears s e rows p rows Going sent
    hears-out good out =
        hears-same Going (acknowledges-out s e (marked rows) x only out)
        (sym (ap (ended_for s e)
        (ends-none s e (marked rows) x only (ap (λ (r : Reply). is_end r && counts_for s (marked rows) x.drone x.packet && not (marked rows x.drone x.packet)) good))))

    module _ (end : Progress) (ends : reply_to s x.drone x.packet e ≡ Ends end) where
      -- an answer that would end the upload, but comes too late or doesn't count
      pub hears-past : (counts_for s (marked rows) x.drone x.packet ≡ false) ⊎ (marked rows x.drone x.packet ≡ true) → Hears s e rows p rows Going sent
      hears-past either =
          hears-same Going (acknowledges-bad s e (marked rows) x only (ap is_good ends)) (sym (ap (ended_for s e) (ends-none s e (marked rows) x only calm))) where
            calm : ends_for s (marked rows) e x ≡ false
            calm = elim either [
              | inl out ↦
                  and_left (is_end (reply_to s x.drone x.packet e) && counts_for s (marked rows) x.drone x.packet) (not (marked rows x.drone x.packet))
                  (and_right (is_end (reply_to s x.drone x.packet e)) (counts_for s (marked rows) x.drone x.packet) out)
              | inr past ↦
                  and_right (is_end (reply_to s x.drone x.packet e) && counts_for s (marked rows) x.drone x.packet) (not (marked rows x.drone x.packet)) (ap not past)
            ]

      -- one that ends it
      pub hears-end : x.drone < drone_count s → x.packet < packet_count s x.drone → counts_for s (marked rows) x.drone x.packet ≡ true →
          marked rows x.drone x.packet ≡ false → Hears s e rows p rows end sent
      hears-end l b counts opened =
          hears-same end (acknowledges-bad s e (marked rows) x only (ap is_good ends))
          (sym (ap (ended_for s e)
          (ends-here s e (marked rows) x only l b
          (and_from (is_end (reply_to s x.drone x.packet e) && counts_for s (marked rows) x.drone x.packet) (not (marked rows x.drone x.packet))
          (and_from (is_end (reply_to s x.drone x.packet e)) (counts_for s (marked rows) x.drone x.packet) (ap is_end ends) counts) (ap not opened)))
          ∙ ap end_of ends))

-- a good answer to what is in flight
module _ (s : Upload) (e : Event) (rows later : List Row) (answer : Progress) (x : Sent) (only : IsOnly s e x) (good : reply_to s x.drone x.packet e ≡ Good) where
  pub marks-more : includes (flight_after s (marked rows)) x ≡ true → ((d k : ℕ) → marked later d k ≡ (marked rows d k || (x.drone == d && x.packet == k))) →
      (d k : ℕ) → d < drone_count s → marked later d k ≡ joined (marked rows) (acknowledges s (marked rows) e) d k
  marks-more there marks d k l = marks d k ∙ ap (λ (o : Option Sent). joined (marked rows) o d k) (sym (acknowledges-here s e (marked rows) x only good there))

  pub unfinished-more : answer ≡ cond (list_all (λ y. marked later y.drone y.packet) (all_packets s)) Done Going →
      list_all (λ y. marked later y.drone y.packet) (all_packets s) ≡ false → answer ≡ ended_for s e (find (λ y. ends_for s (marked later) e y) (all_packets s))
  unfinished-more is some =
      is ∙ ap (λ (b : Bool). cond b Done Going) some
      ∙ sym (ap (ended_for s e)
      (ends-none s e (marked later) x only (ap (λ (r : Reply). is_end r && counts_for s (marked later) x.drone x.packet && not (marked later x.drone x.packet)) good)))
