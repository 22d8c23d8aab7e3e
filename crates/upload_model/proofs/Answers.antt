-- What an answer says of a packet, from the statuses and bytes that it carries.
use Rattle.upload_model.proofs.Prelude.{ext_get_or, common_steps, ◌≡◌, ℕ, zero, suc, ◌+◌, ◌-◌, ◌<◌, ◌≤◌, Bool, true, false, not, cond, eqb, ltb, List, length, get_or, refl, ap, sym, ◌∙◌, arith, Option, Some, None, Result, Ok, inl, inr, subst, find, range_with_len, and_parts, cases_eq, false≢true, eqb-true, eq-eqb, ltb-true, up_of, PacketFault, Up, Event, Going, Refused, Differs, Reply, Silent, Ends, Upload, drone_count, load_count, read_count, packet_count, is_read, read_address, wanted, ReadBack, status_in, read_in, status_reply, first_other, compared, read_reply, reply_in, reply_to, is_good, is_end, end_of}
use Rattle.crtp_packets.specs.declared.reading.Up.TheVariants.{ReadAnswer}
use Rattle.upload_model.specs.declared.events.Event.TheVariants as event
use Rattle.upload_model.proofs.OneDrone.{accepts, refuses}
use Rattle.upload_model.proofs.Readings.{is_read-at}
use Rattle.upload_model.proofs.HostLaws.{not-false}

-- ---- which of both a reply is

pub reply-plain : (s : Upload) (d k : ℕ) (m : Result Up PacketFault) → is_read s d k ≡ false → reply_in s d k m ≡ status_reply d k (status_in s d k m)
unfolding reply_in
reply-plain s d k m h =
    ap (λ (b : Bool). cond b (read_reply s d k (k - load_count s d) (read_in s d (k - load_count s d) m)) (status_reply d k (status_in s d k m))) h

pub reply-of_read : (s : Upload) (d k : ℕ) (m : Result Up PacketFault) → is_read s d k ≡ true →
    reply_in s d k m ≡ read_reply s d k (k - load_count s d) (read_in s d (k - load_count s d) m)
unfolding reply_in
reply-of_read s d k m h =
    ap (λ (b : Bool). cond b (read_reply s d k (k - load_count s d) (read_in s d (k - load_count s d) m)) (status_reply d k (status_in s d k m))) h

pub reply-read : (s : Upload) (d k j : ℕ) (m : Result Up PacketFault) → j < read_count s d → k ≡ load_count s d + j →
    reply_in s d k m ≡ read_reply s d k j (read_in s d j m)
reply-read s d k j m l e =
    let same : k - load_count s d ≡ j = omega arith in
    reply-of_read s d k m (is_read-at s d k j l e) ∙ ap (λ (i : ℕ). read_reply s d k i (read_in s d i m)) same

-- ---- a status

pub status-good : (d k : ℕ) (o : Option ℕ) → is_good (status_reply d k o) ≡ true → accepts o ≡ true
status-good d k None h = h
status-good d k (Some status) h = grind (arith, common_steps, eqb, cond, false≢true)

pub status-end : (d k : ℕ) (o : Option ℕ) → refuses o ≡ false → is_end (status_reply d k o) ≡ false
status-end d k None h = refl
status-end d k (Some status) h = grind (arith, common_steps, eqb, not, cond, false≢true)

pub status-same : (d k : ℕ) (o : Option ℕ) (i address byte got : ℕ) → end_of (status_reply d k o) ≡ Differs i address byte got → ⊥
status-same d k None i address byte got h = cc
status-same d k (Some status) i address byte got h = grind (arith, common_steps, eqb, cond)

-- ---- bytes

find_none : (p : ℕ → Bool) (a n : ℕ) → find p (range_with_len a n) ≡ None → (k : ℕ) → a ≤ k → k < a + n → p k ≡ false
find_none p a zero h k l b = absurd (omega arith)
find_none p a (suc n) h k l b = at (p a) refl (λ f o. find_none p (a + 1) n f k (omega arith) (omega arith)) h where
  at : (t : Bool) → p a ≡ t → (find p (range_with_len (a + 1) n) ≡ None → (a ≡ k → ⊥) → p k ≡ false) →
      cond t (Some a) (find p (range_with_len (a + 1) n)) ≡ None → p k ≡ false
  at true e later f = absurd (let no : Some a ≡ None = f in cc)
  at false e later f = elim (cases_eq a k) [ inl same ↦ subst (λ (m : ℕ). p m ≡ false) same e | inr other ↦ later f other ]

find-nothing : (p : ℕ → Bool) (a n : ℕ) → ((k : ℕ) → p k ≡ false) → find p (range_with_len a n) ≡ None
find-nothing p a zero h = refl
find-nothing p a (suc n) h = ap (λ (b : Bool). cond b (Some a) (find p (range_with_len (a + 1) n))) (h a) ∙ find-nothing p (a + 1) n h

-- bytes of one length that differ nowhere are the same
pub other-none : (bytes got : List ℕ) → length got ≡ length bytes → first_other bytes got ≡ None → got ≡ bytes
other-none bytes got long h =
    ext_get_or 0 got bytes long
    (λ i l.
    let same : eqb (get_or bytes i 0) (get_or got i 0) ≡ true
    = not-false (eqb (get_or bytes i 0) (get_or got i 0)) (find_none (λ j. not (eqb (get_or bytes j 0) (get_or got j 0))) 0 (length bytes) h i (omega arith) (omega arith)) in
    sym (eqb-true (get_or bytes i 0) (get_or got i 0) same))

pub other-same : (bytes : List ℕ) → first_other bytes bytes ≡ None
other-same bytes =
    find-nothing (λ i. not (eqb (get_or bytes i 0) (get_or bytes i 0))) 0 (length bytes) (λ i. ap not (eq-eqb (get_or bytes i 0) (get_or bytes i 0) refl))

-- an answer of status 0 has as many bytes as the read asks for
pub read_in-length : (s : Upload) (d j : ℕ) (m : Result Up PacketFault) (r : ReadBack) → read_in s d j m ≡ Some r → r.status ≡ 0 → length r.bytes ≡ length (wanted s d j)
read_in-length s d j (Ok (ReadAnswer id address status piece)) r h good = grind (arith, common_steps, eqb, not, cond, and_parts, eq-eqb, eqb-true)
read_in-length s d j m r h good = absurd (let no : None ≡ Some r = h in cc)

-- a good reply to a read brought the load's bytes
pub record Brought (s : Upload) (d j : ℕ) (m : Result Up PacketFault) : Type 0 where
  pub read : ReadBack
  pub is : read_in s d j m ≡ Some read
  pub good : read.status ≡ 0
  pub bytes : read.bytes ≡ wanted s d j

pub brought : (s : Upload) (d k j : ℕ) (m : Result Up PacketFault) → is_good (read_reply s d k j (read_in s d j m)) ≡ true → Brought s d j m
brought s d k j m h = grind (arith, common_steps, other-none, read_in-length, false≢true, eqb, cond, eqb-true)

-- an answer whose bytes, if it has status 0, are the load's never says that they differ; if its status is 0, it ends nothing
pub read-same : (s : Upload) (d k j : ℕ) (o : Option ReadBack) → ((r : ReadBack) → o ≡ Some r → r.status ≡ 0 → r.bytes ≡ wanted s d j) →
    (i address byte got : ℕ) → end_of (read_reply s d k j o) ≡ Differs i address byte got → ⊥
read-same s d k j None h i address byte got e = cc
read-same s d k j (Some r) h i address byte got e = at (eqb r.status 0) refl e where
  at : (b : Bool) → eqb r.status 0 ≡ b →
      end_of (cond b (compared d (read_address s j) (wanted s d j) r.bytes (first_other (wanted s d j) r.bytes)) (Ends (Refused d k r.status))) ≡ Differs i address byte got → ⊥
  at true f g =
      let same : first_other (wanted s d j) r.bytes ≡ None = ap (first_other (wanted s d j)) (h r refl (eqb-true r.status 0 f)) ∙ other-same (wanted s d j) in
      let no : Going ≡ Differs i address byte got = sym (ap (λ (o : Option ℕ). end_of (compared d (read_address s j) (wanted s d j) r.bytes o)) same) ∙ g in
      cc
  at false f g = cc

pub read-calm : (s : Upload) (d k j : ℕ) (o : Option ReadBack) → ((r : ReadBack) → o ≡ Some r → (r.status ≡ 0) × (r.bytes ≡ wanted s d j)) → is_end (read_reply s d k j o) ≡ false
read-calm s d k j None h = refl
read-calm s d k j (Some r) h =
    let both = h r refl in
    ap (λ (b : Bool). is_end (cond b (compared d (read_address s j) (wanted s d j) r.bytes (first_other (wanted s d j) r.bytes)) (Ends (Refused d k r.status)))) (eq-eqb r.status 0 both.0)
    ∙ ap (λ (o : Option ℕ). is_end (compared d (read_address s j) (wanted s d j) r.bytes o)) (ap (first_other (wanted s d j)) both.1 ∙ other-same (wanted s d j))

-- ---- an event

-- where a reply isn't silent, the event is an answer of that drone to one of its packets
pub record IsAnswer (s : Upload) (d k : ℕ) (e : Event) : Type 0 where
  pub packet : List ℕ
  pub is : e ≡ event.Up d packet
  pub known : d < drone_count s
  pub inside : k < packet_count s d
  pub reply : reply_to s d k e ≡ reply_in s d k (up_of packet)

pub answer_from : (s : Upload) (d k from : ℕ) (packet : List ℕ) → (reply_to s d k (event.Up from packet) ≡ Silent → ⊥) → IsAnswer s d k (event.Up from packet)
unfolding reply_to
answer_from s d k from packet h = grind (arith, common_steps, eqb, ltb, cond, and_parts, eqb-true, ltb-true)

pub good-heard : (s : Upload) (d k from : ℕ) (packet : List ℕ) → is_good (reply_to s d k (event.Up from packet)) ≡ true → IsAnswer s d k (event.Up from packet)
good-heard s d k from packet g = answer_from s d k from packet (λ silent. false≢true (sym (ap is_good silent) ∙ g))

-- what holds of each answer to a packet of that drone, and of silence, holds of what the event says
pub reply-by : (P : Reply → Type 0) (s : Upload) (d k from : ℕ) (packet : List ℕ) → P Silent → (from ≡ d → d < drone_count s → k < packet_count s d → P (reply_in s d k (up_of packet))) →
    P (reply_to s d k (event.Up from packet))
unfolding reply_to
reply-by P s d k from packet silent known = grind (arith, common_steps, eqb, ltb, cond, and_parts, eqb-true, ltb-true)
