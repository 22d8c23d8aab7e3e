-- At Done each drone has taken a start, whoever else alters a byte: only a start is answered as one.
use Rattle.upload_model.proofs.Prelude.{common_steps, ◌≡◌, ℕ, ◌+◌, ◌*◌, ◌^◌, ◌<◌, true, false, not, ◌&&◌, cond, eqb, ltb, List, [], ◌∷◌, ◌++◌, take, drop, refl, ap, sym, ◌∙◌, arith, None, Some, inl, inr, subst, Bool, IfSome, slice_get, cases_Bool, cases_eq, cond_both, false≢true, le-ltb, take-append-le, slice_get_within, chunk_of, write_answer_of, read_answer_of, up_of, define_of, start_of, answer_of, Event, WorldEvent, Take, DroneState, Handled, answers, has_entry, write_taken, handled, Upload, IsSession, drone_count, load_of, write_count, start_number, packet_at, read_address, status_in, reply_to, is_good, acked, progress, Done, World, happens, world, IsCase, TakesStart, TakenLaw, bytes_eq}
use Rattle.upload_model.specs.declared.events.Event.TheVariants as event
use Rattle.upload_model.proofs.Readings.{Kind, a_write, a_define, a_read, a_start, packet_kind, packet_at-define, packet_at-read, packet_at-start, is_read-past, count-start, up_of-write_answer, up_of-read_answer}
use Rattle.upload_model.proofs.OneDrone.{accepts, handled-write, handled-define, handled-start, length-chunk_of, write_count-below}
use Rattle.upload_model.proofs.OneRead.{read-fits, reads}
use Rattle.upload_model.proofs.Taking.{if_some}
use Rattle.upload_model.proofs.Answers.{reply-plain, status-good, good-heard}
use Rattle.upload_model.proofs.HostLaws.{acked-cases, acked-nil, acked-done}
use Rattle.upload_model.proofs.HostSteps.{slice_get-before, acked-tick}
use Rattle.upload_model.proofs.Sending.{IsSent, sends-world, by_last, world-last}
use Rattle.upload_model.proofs.Moments.{All-slice_get}
use Rattle.upload_model.proofs.Giving.{Heard, nothing, a_tick, an_answer, heard-happens, given_at, start-heard}

-- ---- no other packet is answered as a start

-- an answer that isn't a good answer to a start
abbrev NoStart : Upload → ℕ → List ℕ → Type 0
NoStart s d a = accepts (status_in s d (start_number s d) (up_of a)) ≡ false

no_start-write : (s : Upload) (d id address status : ℕ) → address < 2 ^ 32 → NoStart s d (write_answer_of id address status)
no_start-write s d id address status fits = grind (arith, common_steps, accepts, up_of-write_answer, cond, eqb, le-ltb)

write-no_start : (s : Upload) (d : ℕ) (x : DroneState) (id address : ℕ) (piece : List ℕ) → address < 2 ^ 32 → IfSome (write_taken x id address piece).answer (NoStart s d)
write-no_start s d x id address piece fits = grind (arith, common_steps, cond_both, not, eqb, cond, ltb, no_start-write)

no_start-define : (s : Upload) (d offset pieces status : ℕ) → NoStart s d (answer_of (define_of s.trajectory_id offset pieces) status)
no_start-define s d offset pieces status = grind (arith, common_steps, accepts, cond, not, ltb, take, drop, packet_at-start, le-ltb)

no_start-read : (s : Upload) (d id address status : ℕ) (bytes : List ℕ) → address < 2 ^ 32 → NoStart s d (read_answer_of id address status bytes)
no_start-read s d id address status bytes fits =
    ap (λ m. accepts (status_in s d (start_number s d) m)) (up_of-read_answer id address status bytes fits)

-- what a packet of the session is answered with, if it isn't a start
other-no_start : (s : Upload) (d k : ℕ) (x : DroneState) → IsSession s → d < drone_count s → Kind s d k → (k ≡ start_number s d → ⊥) →
    IfSome (handled x (packet_at s d k)).answer (NoStart s d)
other-no_start s d k x session l (a_write w) other =
    let load = session.loads d l in
    let c = write_count-below s d k w in let r = load.has_room in let p = length-chunk_of (load_of s d).bytes k in
    subst (λ (y : Handled). IfSome y.answer (NoStart s d)) (sym (handled-write s d k x (omega arith) (omega arith) w))
    (write-no_start s d x s.memory_id (s.offset + 24 * k) (chunk_of (load_of s d).bytes k) (omega arith))
other-no_start s d k x session l (a_define e) other =
    subst (λ (y : Handled). IfSome y.answer (NoStart s d))
    (sym (ap (handled x) (packet_at-define s d k e) ∙ handled-define x s.trajectory_id s.offset (load_of s d).pieces session.id_fits session.offset_fits))
    (no_start-define s d s.offset (load_of s d).pieces 0)
other-no_start s d k x session l (a_read j m e) other =
    let y = reads s d j x (session.loads d l) m in
    let f = read-fits s d j (session.loads d l) m in
    let inside = f.inside in
    subst (λ (z : Handled). IfSome z.answer (NoStart s d)) (sym (ap (handled x) (packet_at-read s d k j m e) ∙ y.is))
    (no_start-read s d s.memory_id (read_address s j) y.status y.bytes (omega arith))
other-no_start s d k x session l (a_start e f) other = absurd (other e)

-- a start that is refused
bad : (b : Bool) → accepts (cond b (Some 2) None) ≡ false
bad true = refl
bad false = refl

no_start-refused : (s : Upload) (d : ℕ) → NoStart s d (answer_of (start_of s.trajectory_id) 2)
no_start-refused s d = bad (not (ltb (start_number s d) (write_count s d)) && bytes_eq (5 ∷ 0 ∷ 0 ∷ []) (take 3 (drop 1 (packet_at s d (start_number s d)))))

-- a drone that accepts a start has an entry
accepted_listed : (s : Upload) (d : ℕ) (x : DroneState) (packet a : List ℕ) → IsSession s → packet ≡ start_of s.trajectory_id → (handled x packet).answer ≡ Some a →
    accepts (status_in s d (start_number s d) (up_of a)) ≡ true → has_entry x.table s.trajectory_id ≡ true
accepted_listed s d x packet a session is answers good =
    let step = ap (handled x) is ∙ handled-start x s.trajectory_id session.id_fits in
    elim (cases_Bool (has_entry x.table s.trajectory_id)) [
      | inl has ↦ has
      | inr lacks ↦
          let refused : (handled x packet).answer ≡ Some (answer_of (start_of s.trajectory_id) 2) = ap (λ (y : Handled). y.answer) step ∙ rw lacks refl in
          let same : a ≡ answer_of (start_of s.trajectory_id) 2 = cc in
          absurd (false≢true (sym (no_start-refused s d) ∙ ap (λ (b : List ℕ). accepts (status_in s d (start_number s d) (up_of b))) (sym same) ∙ good))
    ]

-- a packet that was sent and answered as a start is one
answered_start : (s : Upload) (h : List Event) (d : ℕ) (x : DroneState) (packet a : List ℕ) → IsSession s → d < drone_count s → IsSent s h d packet →
    (handled x packet).answer ≡ Some a → accepts (status_in s d (start_number s d) (up_of a)) ≡ true → packet ≡ start_of s.trajectory_id
answered_start s h d x packet a session l sent answers good =
    elim (cases_eq sent.number (start_number s d)) [
      | inl same ↦ sent.is ∙ packet_at-start s d sent.number same
      | inr other ↦
          let is : (handled x (packet_at s d sent.number)).answer ≡ Some a = sym (ap (λ (p : List ℕ). (handled x p).answer) sent.is) ∙ answers in
          absurd (false≢true (sym (if_some (handled x (packet_at s d sent.number)).answer a (NoStart s d) is
          (other-no_start s d sent.number x session l (packet_kind s d sent.number sent.inside) other)) ∙ good))
    ]

-- ---- the answer that acknowledges a start

-- a good answer to the start of drone d came from that drone
record IsAccepted (s : Upload) (d i : ℕ) (a : List ℕ) : Type 0 where
  drone : i ≡ d
  good : accepts (status_in s d (start_number s d) (up_of a)) ≡ true

accepted : (s : Upload) (d i : ℕ) (a : List ℕ) → is_good (reply_to s d (start_number s d) (event.Up i a)) ≡ true → IsAccepted s d i a
accepted s d i a g =
    let h = good-heard s d (start_number s d) i a g in
    let from : event.Up i a ≡ event.Up d h.packet = h.is in
    let same : i ≡ d = cc in
    let bytes : a ≡ h.packet = cc in
    let plain = is_read-past s d (start_number s d) (omega arith) in
    let reply = sym (ap is_good (h.reply ∙ reply-plain s d (start_number s d) (up_of h.packet) plain)) ∙ g in
    grind (arith, common_steps, accepts, status-good)

-- ---- every list of events

-- at event i of these the drone takes a start, and has an entry
pub record HasTaken (s : Upload) (drones : ℕ → DroneState) (events : List WorldEvent) (d : ℕ) : Type 0 where
  pub i : ℕ
  pub e : WorldEvent
  pub is : slice_get events i ≡ Some e
  pub takes : TakesStart s (world s drones (take i events)) d e
  pub listed : has_entry ((world s drones (take i events)).drones d).table s.trajectory_id ≡ true

HasTaken-more : (s : Upload) (drones : ℕ → DroneState) (events : List WorldEvent) (e : WorldEvent) (d : ℕ) →
    HasTaken s drones events d → HasTaken s drones (events ++ e ∷ []) d
HasTaken-more s drones events e d t = grind (arith, common_steps, slice_get_within, slice_get-before, take-append-le)

abbrev AllHaveTaken : Upload → (ℕ → DroneState) → List WorldEvent → Type 0
AllHaveTaken s drones es =
    (d : ℕ) → d < drone_count s → acked s (world s drones es).heard d (start_number s d) ≡ true → HasTaken s drones es d

module _ (s : Upload) (drones : ℕ → DroneState) (case : IsCase s drones) where
  none_taken : AllHaveTaken s drones []
  none_taken d l a =
      absurd (false≢true (sym (acked-nil s d (start_number s d)) ∙ sym (ap (λ (h : List Event). acked s h d (start_number s d)) (start-heard s drones)) ∙ a))

  -- a drone that gave a good answer to a start had taken one
  gave : (es : List WorldEvent) (d i n : ℕ) (a : List ℕ) → d < drone_count s → slice_get ((world s drones es).given i) n ≡ Some a → IsAccepted s d i a →
      HasTaken s drones es d
  gave es d i n a l named r =
      let g = given_at s drones es d n a (sym (ap (λ (j : ℕ). slice_get ((world s drones es).given j) n) r.drone) ∙ named) in
      let sent = All-slice_get (IsSent s (world s drones (take g.given_at es)).heard d) ((world s drones (take g.given_at es)).sent d)
      g.m g.packet g.named (sends-world s drones (take g.given_at es) d l) in
      let start = answered_start s (world s drones (take g.given_at es)).heard d ((world s drones (take g.given_at es)).drones d)
      g.packet a case.session l sent g.answers r.good in
      record {
        i = g.given_at;
        e = Take d g.m;
        is = g.takes;
        takes = (g.m, refl, g.named ∙ ap (λ (p : List ℕ). Some p) start);
        listed = accepted_listed s d ((world s drones (take g.given_at es)).drones d) g.packet a case.session start g.answers r.good;
      }

  taken_before : (es : List WorldEvent) (e : WorldEvent) → AllHaveTaken s drones es → (d : ℕ) → d < drone_count s →
      acked s (world s drones (es ++ e ∷ [])).heard d (start_number s d) ≡ true → HasTaken s drones es d
  taken_before es e before d l a = by_heard (heard-happens s w e) where
    w : World
    w = world s drones es

    here : acked s (happens s w e).heard d (start_number s d) ≡ true
    here = sym (ap (λ (v : World). acked s v.heard d (start_number s d)) (world-last s drones es e)) ∙ a

    after : (h : List Event) → (happens s w e).heard ≡ h → acked s h d (start_number s d) ≡ true
    after h is = sym (ap (λ (g : List Event). acked s g d (start_number s d)) is) ∙ here

    by_heard : Heard s w e (happens s w e).heard → HasTaken s drones es d
    by_heard (nothing same) = before d l (after w.heard same)
    by_heard (a_tick grows) =
        before d l (sym (ap (λ f. f d (start_number s d)) (acked-tick s w.heard)) ∙ after (w.heard ++ event.Tick ∷ []) grows)
    by_heard (an_answer now) =
        elim (acked-cases s w.heard (event.Up now.i now.answer) d (start_number s d) (after (w.heard ++ event.Up now.i now.answer ∷ []) now.grows)) [
          | inl old ↦ before d l old
          | inr good ↦ gave es d now.i now.n now.answer l now.named (accepted s d now.i now.answer good)
        ]

  all_have_taken : (events : List WorldEvent) → AllHaveTaken s drones events
  all_have_taken events =
      by_last (AllHaveTaken s drones) none_taken
      (λ es e before d l a. HasTaken-more s drones es e d (taken_before es e before d l a)) events

pub done_has_taken : (s : Upload) (drones : ℕ → DroneState) → IsCase s drones → (events : List WorldEvent) (d : ℕ) → d < drone_count s →
    s.start ≡ true → progress s (world s drones events).heard ≡ Done → HasTaken s drones events d
done_has_taken s drones case events d l starts done =
    let c = count-start s d starts in
    all_have_taken s drones case events d l (acked-done s (world s drones events).heard done d (start_number s d) l (omega arith))

pub taken_law : TakenLaw
taken_law s drones case events d l starts done =
    let t = done_has_taken s drones case events d l starts done in (t.i, t.e, t.is, t.takes)
