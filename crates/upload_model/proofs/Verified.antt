-- Each read that is right was right when it was answered, whoever else alters a byte.
use Rattle.upload_model.proofs.Prelude.{common_steps, ◌≡◌, ℕ, ◌+◌, ◌<◌, ◌≤◌, true, false, List, [], ◌∷◌, ◌++◌, length, take, drop, refl, ap, sym, ◌∙◌, arith, Option, Some, inl, inr, subst, IfSome, slice_get, cases_Bool, false≢true, take-append-le, slice_get_within, read_answer_of, up_of, Event, Silent, WorldEvent, Hear, DroneState, Handled, handled, Upload, IsSession, drone_count, load_count, read_count, packet_at, read_address, wanted, read_at, ReadBack, read_in, reply_to, is_good, World, happens, world, IsCase, is_right, HasRange, WasRight, VerifiedLaw, StartsLastLaw}
use Rattle.upload_model.specs.declared.events.Event.TheVariants as event
use Rattle.upload_model.proofs.Readings.{Kind, a_write, a_define, a_read, a_start, packet_kind, packet_at-read, is_read-below, is_read-past, count-reads}
use Rattle.upload_model.proofs.OneRead.{read-fits, reads, read_answer_says, NoRead, session-no_read, range-from}
use Rattle.upload_model.proofs.Answers.{reply-read, Brought, brought, good-heard}
use Rattle.upload_model.proofs.HostLaws.{acked-cases, acked-nil, acked-done}
use Rattle.upload_model.proofs.HostSteps.{slice_get-last, slice_get-before}
use Rattle.upload_model.proofs.Sending.{IsSent, sends-world, by_last, world-last, start_sent}
use Rattle.upload_model.proofs.Moments.{All-slice_get}
use Rattle.upload_model.proofs.Giving.{take_before, take_whole, Heard, nothing, a_tick, an_answer, heard-happens, given_at, start-heard}

-- ---- the answer that makes a read right

tick-silent : (s : Upload) (d k : ℕ) → reply_to s d k event.Tick ≡ Silent
unfolding reply_to
tick-silent s d k = refl

-- a good answer to read k of drone d came from that drone, and brought the load's bytes
pub record IsBrought (s : Upload) (d k i : ℕ) (a : List ℕ) : Type 0 where
  pub drone : i ≡ d
  pub brought : Brought s d k (up_of a)

good_brought : (s : Upload) (d k i : ℕ) (a : List ℕ) → k < read_count s d → is_good (reply_to s d (load_count s d + k) (event.Up i a)) ≡ true → IsBrought s d k i a
good_brought s d k i a l g =
    let h = good-heard s d (load_count s d + k) i a g in
    let from : event.Up i a ≡ event.Up d h.packet = h.is in
    let same : i ≡ d = cc in
    let bytes : a ≡ h.packet = cc in
    let reply = sym (ap is_good h.reply) ∙ g in
    let read = sym (ap is_good (reply-read s d (load_count s d + k) k (up_of h.packet) l refl)) ∙ reply in
    record { drone = same; brought = subst (λ (p : List ℕ). Brought s d k (up_of p)) (sym bytes) (brought s d (load_count s d + k) k (up_of h.packet) read) }

-- ---- what the drone had when it gave the answer

if_some : (o : Option (List ℕ)) (a : List ℕ) (P : List ℕ → Type 0) → o ≡ Some a → IfSome o P → P a
if_some o a P e h = subst (λ (q : Option (List ℕ)). IfSome q P) e h

-- the answer to a packet of the session that brings the load's bytes shows them in the memory
had_range : (s : Upload) (h : List Event) (d k : ℕ) (x : DroneState) (packet a : List ℕ) (r : ReadBack) →
    IsSession s → d < drone_count s → k < read_count s d → IsSent s h d packet → (handled x packet).answer ≡ Some a →
    read_in s d k (up_of a) ≡ Some r → r.status ≡ 0 → r.bytes ≡ wanted s d k → HasRange s d k x
had_range s h d k x packet a r ok l b sent answers says good same = by_kind (packet_kind s d sent.number sent.inside) where
  at : (p : List ℕ) → packet_at s d sent.number ≡ p → (handled x p).answer ≡ Some a
  at p e = sym (ap (λ (q : List ℕ). (handled x q).answer) (sent.is ∙ e)) ∙ answers

  plain : Rattle.upload_model.specs.Sessions.is_read s d sent.number ≡ false → HasRange s d k x
  plain is =
      let n : NoRead s d a = if_some (handled x (packet_at s d sent.number)).answer a (NoRead s d) (at (packet_at s d sent.number) refl) (session-no_read s d sent.number x ok l sent.inside is) in
      absurd (cc (n k, says))

  by_kind : Kind s d sent.number → HasRange s d k x
  by_kind (a_write w) = plain (is_read-below s d sent.number (omega arith))
  by_kind (a_define e) = plain (is_read-below s d sent.number (omega arith))
  by_kind (a_start e f) = plain (is_read-past s d sent.number (omega arith))
  by_kind (a_read j m e) =
      let y = reads s d j x (ok.loads d l) m in
      let f = read-fits s d j (ok.loads d l) m in
      let fi = f.inside in
      let some : Some (read_answer_of s.memory_id (read_address s j) y.status y.bytes) ≡ Some a = sym (ap (λ (z : Handled). z.answer) y.is) ∙ at (read_at s d j) (packet_at-read s d sent.number j m e) in
      let is : read_answer_of s.memory_id (read_address s j) y.status y.bytes ≡ a = cc in
      let told = read_answer_says s d k j y.status y.bytes r (omega arith) (ap (λ (q : List ℕ). read_in s d k (up_of q)) is ∙ says) in
      let bytes : wanted s d k ≡ take (length (wanted s d j)) (drop (read_address s j) x.memory) = sym same ∙ told.2 ∙ y.memory (sym told.1 ∙ good) in
      range-from s d k x (bytes ∙ ap (λ (n : ℕ). take (length (wanted s d n)) (drop (read_address s n) x.memory)) (sym told.0))

-- ---- every list of events

WasRight-more : (s : Upload) (drones : ℕ → DroneState) (events : List WorldEvent) (e : WorldEvent) (d k : ℕ) →
    WasRight s drones events d k → WasRight s drones (events ++ e ∷ []) d k
WasRight-more s drones events e d k g = grind (arith, common_steps, slice_get_within, take, take-append-le, slice_get-before, given_at)

abbrev AllWereRight : Upload → (ℕ → DroneState) → List WorldEvent → Type 0
AllWereRight s drones es =
    (d k : ℕ) → d < drone_count s → k < read_count s d → is_right s (world s drones es).heard d k ≡ true → WasRight s drones es d k

module _ (s : Upload) (drones : ℕ → DroneState) (case : IsCase s drones) where
  none_right : AllWereRight s drones []
  none_right d k l b r = absurd (false≢true (sym (acked-nil s d (load_count s d + k)) ∙ sym (ap (λ (h : List Event). is_right s h d k) (start-heard s drones)) ∙ r))

  right_now : (es : List WorldEvent) (e : WorldEvent) (d k : ℕ) → d < drone_count s → k < read_count s d →
      is_right s (world s drones es).heard d k ≡ false →
      is_right s (world s drones (es ++ e ∷ [])).heard d k ≡ true → WasRight s drones (es ++ e ∷ []) d k
  right_now es e d k l b before after = by_heard (heard-happens s (world s drones es) e) where
    w : World
    w = world s drones es

    here : is_right s (happens s w e).heard d k ≡ true
    here = sym (ap (λ (v : World). is_right s v.heard d k) (world-last s drones es e)) ∙ after

    answered : (i n : ℕ) (a : List ℕ) → e ≡ Hear i n → slice_get (w.given i) n ≡ Some a → IsBrought s d k i a → WasRight s drones (es ++ e ∷ []) d k
    answered i n a is named r =
        let same : i ≡ d = r.drone in
        let g = given_at s drones es d n a (sym (ap (λ (j : ℕ). slice_get (w.given j) n) same) ∙ named) in
        let gl = g.within in
        let sent = All-slice_get (IsSent s (world s drones (take g.given_at es)).heard d) ((world s drones (take g.given_at es)).sent d)
        g.m g.packet g.named (sends-world s drones (take g.given_at es) d l) in
        let at : (m : ℕ) → m ≤ length es → take m (es ++ e ∷ []) ≡ take m es = λ m z. take-append-le m es (e ∷ []) z in
        record {
          heard_at = length es;
          n = n;
          hears = slice_get-last es e ∙ ap (λ (x : WorldEvent). Some x) is ∙ ap (λ (j : ℕ). Some (Hear j n)) same;
          before = ap (λ (fs : List WorldEvent). is_right s (world s drones fs).heard d k) (take_before es e) ∙ before;
          after = ap (λ (fs : List WorldEvent). is_right s (world s drones fs).heard d k) (take_whole es e) ∙ after;
          given_at = g.given_at;
          earlier = gl;
          m = g.m;
          takes = slice_get-before es (e ∷ []) g.given_at gl ∙ g.takes;
          answer = a;
          gives = ap (λ (fs : List WorldEvent). (world s drones fs).given d) (at (g.given_at + 1) (omega arith)) ∙ g.gives
              ∙ ap (λ (fs : List WorldEvent). (world s drones fs).given d ++ a ∷ []) (sym (at g.given_at (omega arith)));
          numbered = ap (λ (fs : List WorldEvent). length ((world s drones fs).given d)) (at g.given_at (omega arith)) ∙ g.numbered;
          had = subst (λ (fs : List WorldEvent). HasRange s d k ((world s drones fs).drones d)) (sym (at g.given_at (omega arith)))
              (had_range s (world s drones (take g.given_at es)).heard d k ((world s drones (take g.given_at es)).drones d)
              g.packet a r.brought.read case.session l b sent g.answers r.brought.is r.brought.good r.brought.bytes);
        }

    now_good : (f : Event) → (happens s w e).heard ≡ w.heard ++ f ∷ [] → is_good (reply_to s d (load_count s d + k) f) ≡ true
    now_good f grows =
        elim (acked-cases s w.heard f d (load_count s d + k) (sym (ap (λ (h : List Event). is_right s h d k) grows) ∙ here)) [
          | inl old ↦ absurd (false≢true (sym before ∙ old))
          | inr good ↦ good
        ]

    by_heard : Heard s w e (happens s w e).heard → WasRight s drones (es ++ e ∷ []) d k
    by_heard (nothing same) = absurd (false≢true (sym before ∙ sym (ap (λ (h : List Event). is_right s h d k) same) ∙ here))
    by_heard (a_tick grows) =
        absurd (false≢true (sym (ap is_good (tick-silent s d (load_count s d + k))) ∙ now_good event.Tick grows))
    by_heard (an_answer now) =
        answered now.i now.n now.answer now.hears now.named
        (good_brought s d k now.i now.answer b (now_good (event.Up now.i now.answer) now.grows))

  all_were_right : (events : List WorldEvent) → AllWereRight s drones events
  all_were_right events =
      by_last (AllWereRight s drones) none_right
      (λ es e h d k l b r. elim (cases_Bool (is_right s (world s drones es).heard d k)) [
        | inl old ↦ WasRight-more s drones es e d k (h d k l b old)
        | inr new ↦ right_now es e d k l b new r
      ]) events

-- at Done each read is right
pub verified_law : VerifiedLaw
verified_law s drones case events done d k l b =
    let c = count-reads s d in
    all_were_right s drones case events d k l b (acked-done s (world s drones events).heard done d (load_count s d + k) l (omega arith))

pub starts_last_law : StartsLastLaw
starts_last_law s drones case events d i k l m b has =
    let right = (start_sent s (world s drones events) (sends-world s drones events) d l has).1 i m (load_count s i + k) (omega arith) (omega arith) in
    (right, all_were_right s drones case events i k m b right)
