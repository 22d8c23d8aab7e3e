-- What holds at every moment of an upload where nobody else alters a byte: every answer ever given was
-- given after its packet's effect, and says nothing that isn't so.
use Rattle.upload_model.proofs.Prelude.{common_steps, ◌≡◌, ℕ, ◌+◌, ◌-◌, ◌^◌, ◌<◌, ◌≤◌, true, false, eqb, ltb, List, [], ◌∷◌, ◌++◌, length, refl, ap, sym, ◌∙◌, arith, Option, Some, None, IfSome, inl, inr, subst, slice_get, All, cases_Bool, cond_both, false≢true, eqb-true, ltb-true, cond-true, eq-eqb, get_or_from_slice_get, slice_get_within, All-nil, All-cons, All-append, All-weaker, read_answer_of, up_of, Event, Loading, Going, Done, Refused, Differs, Reply, Silent, Good, Ends, WorldEvent, Tick, Take, Hear, Alter, DroneState, Handled, answers, handled, Upload, IsSession, drone_count, load_of, write_count, load_count, read_count, start_number, packet_count, packet_at, is_read, read_address, wanted, ReadBack, status_in, read_in, status_reply, reply_in, reply_to, is_good, is_end, end_of, acked, progress, World, changed, start_world, host_event, option_list, took, take_named, hear_named, happens, world, IsDrone, HasEntry, HasLoad, IsSafe, IsUnaltered, IsCase, UploadLaw}
use Rattle.upload_model.specs.declared.events.Event.TheVariants as event
use Rattle.upload_model.proofs.Readings.{Kind, a_write, a_define, a_read, a_start, packet_kind, packet_at-read, is_read-below, is_read-past, count-loads, count-start, up_of-read_answer}
use Rattle.upload_model.proofs.OneDrone.{accepts, refuses, Effect, OnCourse, follows, pieces_make_load}
use Rattle.upload_model.proofs.OneRead.{read-fits, reads, read_answer_says, NoRead, session-no_read, load-wanted}
use Rattle.upload_model.proofs.Answers.{reply-plain, reply-of_read, status-good, status-end, status-same, read-same, read-calm, reply-by}
use Rattle.upload_model.proofs.HostLaws.{Settled, acked-cases, acked-nil, acked-done, progress-has}
use Rattle.upload_model.proofs.HostSteps.{slice_get-last, slice_get-before}
use Rattle.upload_model.proofs.Sending.{IsSent, Sends, sends-world, by_last, world-last, start_sent}

-- ---- what an answer is worth

-- a good answer was given after its packet's effect
abbrev pub IsGiven : Upload → ℕ → DroneState → List ℕ → Type 0
IsGiven s d x a = (j : ℕ) → j < packet_count s d → is_good (reply_in s d j (up_of a)) ≡ true → Effect s d j x

-- an answer that ends nothing
abbrev pub IsCalm : Upload → ℕ → List ℕ → Type 0
IsCalm s d a = (j : ℕ) → j < packet_count s d → is_end (reply_in s d j (up_of a)) ≡ false

-- an answer that doesn't say of other bytes than the load's that they were read
abbrev pub IsTrue : Upload → ℕ → List ℕ → Type 0
IsTrue s d a = (j : ℕ) → j < packet_count s d → (i address byte got : ℕ) → end_of (reply_in s d j (up_of a)) ≡ Differs i address byte got → ⊥

-- the same of an event
abbrev pub IsQuiet : Upload → Event → Type 0
IsQuiet s e = (d k : ℕ) → is_end (reply_to s d k e) ≡ false

abbrev pub IsTrueEvent : Upload → Event → Type 0
IsTrueEvent s e = (d k i address byte got : ℕ) → end_of (reply_to s d k e) ≡ Differs i address byte got → ⊥

abbrev pub SameIds : Upload → (ℕ → DroneState) → Type 0
SameIds s start = (d : ℕ) → d < drone_count s → (start d).memory_id ≡ s.memory_id

-- ---- a drone takes a packet of the session

-- a read leaves nothing in a drone
pub read-no_effect : (s : Upload) (d j : ℕ) (x : DroneState) → j < packet_count s d → is_read s d j ≡ true → Effect s d j x
read-no_effect s d j x b r = grind (arith, common_steps, packet_kind, a_write, false≢true, is_read-below, a_define, a_read, a_start, is_read-past)

-- what a drone does with packet k of its session
pub record Takes (s : Upload) (d k : ℕ) (start x : DroneState) (y : Handled) : Type 0 where
  pub course : OnCourse s d start y.drone
  pub kept : (j : ℕ) → Effect s d j x → Effect s d j y.drone
  pub given : IfSome y.answer (IsGiven s d y.drone)
  pub truthful : IfSome y.answer (IsTrue s d)
  pub calm : x.memory_id ≡ s.memory_id → IfSome y.answer (IsCalm s d)

if_some-both : (P Q R : List ℕ → Type 0) (o : Option (List ℕ)) → ((a : List ℕ) → P a → Q a → R a) → IfSome o P → IfSome o Q → IfSome o R
if_some-both P Q R None f h g = h
if_some-both P Q R (Some a) f h g = f a h g

none_some : (r : ReadBack) → None ≡ Some r → ⊥
none_some r h = cc

module _ (s : Upload) (d : ℕ) (start x : DroneState) (session : IsSession s) (l : d < drone_count s) (course : OnCourse s d start x) where
  -- an answer that answers no read
  plain_true : (a : List ℕ) → NoRead s d a → IsTrue s d a
  plain_true a none j b i address byte got e = elim (cases_Bool (is_read s d j)) [
    | inl r ↦ read-same s d j (j - load_count s d) (read_in s d (j - load_count s d) (up_of a)) (λ q h z. absurd (none_some q (sym (none (j - load_count s d)) ∙ h)))
        i address byte got (sym (ap end_of (reply-of_read s d j (up_of a) r)) ∙ e)
    | inr p ↦ status-same d j (status_in s d j (up_of a)) i address byte got (sym (ap end_of (reply-plain s d j (up_of a) p)) ∙ e)
  ]

  takes-plain : (k : ℕ) → k < packet_count s d → is_read s d k ≡ false → (k ≡ start_number s d → HasEntry s (load_of s d) x) → Takes s d k start x (handled x (packet_at s d k))
  takes-plain k b plain entry =
      let f = follows s d k start x session l b plain course in
      let none = session-no_read s d k x session l b plain in
      let y : Handled = handled x (packet_at s d k) in
      record {
        course = f.course;
        kept = f.kept;
        given = if_some-both (λ a. (j : ℕ) → j < packet_count s d → is_read s d j ≡ false → accepts (status_in s d j (up_of a)) ≡ true → Effect s d j y.drone)
            (NoRead s d) (IsGiven s d y.drone) y.answer
            (λ a good n j c g. elim (cases_Bool (is_read s d j)) [
              | inl r ↦ read-no_effect s d j y.drone c r
              | inr p ↦ good j c p (status-good d j (status_in s d j (up_of a)) (sym (ap is_good (reply-plain s d j (up_of a) p)) ∙ g))
            ]) f.good none;
        truthful = if_some-both (NoRead s d) (NoRead s d) (IsTrue s d) y.answer (λ a n m. plain_true a n) none none;
        calm = λ same. if_some-both (λ a. (j : ℕ) → j < packet_count s d → is_read s d j ≡ false → refuses (status_in s d j (up_of a)) ≡ false)
            (NoRead s d) (IsCalm s d) y.answer
            (λ a good n j c. elim (cases_Bool (is_read s d j)) [
              | inl r ↦ ap is_end (reply-of_read s d j (up_of a) r)
                  ∙ read-calm s d j (j - load_count s d) (read_in s d (j - load_count s d) (up_of a)) (λ q h. absurd (none_some q (sym (n (j - load_count s d)) ∙ h)))
              | inr p ↦ ap is_end (reply-plain s d j (up_of a) p) ∙ status-end d j (status_in s d j (up_of a)) (good j c p)
            ]) (f.not_bad same entry) none;
      }

  takes-read : (k i : ℕ) → k < packet_count s d → i < read_count s d → k ≡ load_count s d + i → HasLoad s (load_of s d) x → Takes s d k start x (handled x (packet_at s d k))
  takes-read k i b m e load =
      let z = reads s d i x (session.loads d l) m in
      let f = read-fits s d i (session.loads d l) m in
      let fi = f.inside in
      subst (Takes s d k start x) (sym (ap (handled x) (packet_at-read s d k i m e) ∙ z.is))
      (says z.status z.bytes (omega arith) (λ good. z.memory good ∙ load-wanted s d i x f course.memory load) z.willing) where
        says : (status : ℕ) (bytes : List ℕ) → read_address s i < 2 ^ 32 → (status ≡ 0 → bytes ≡ wanted s d i) → (x.memory_id ≡ s.memory_id → status ≡ 0) →
            Takes s d k start x (answers x (read_answer_of s.memory_id (read_address s i) status bytes))
        says status bytes fits right willing =
            let a : List ℕ = read_answer_of s.memory_id (read_address s i) status bytes in
            let silent : (j : ℕ) → status_in s d j (up_of a) ≡ None = λ j. ap (status_in s d j) (up_of-read_answer s.memory_id (read_address s i) status bytes fits) in
            let wants : (j : ℕ) (r : ReadBack) → read_in s d j (up_of a) ≡ Some r → r.status ≡ 0 → r.bytes ≡ wanted s d j
            = λ j r h good. let told = read_answer_says s d j i status bytes r fits h in told.2 ∙ right (sym told.1 ∙ good) ∙ ap (wanted s d) (sym told.0) in
            record {
              course = course;
              kept = λ j e. e;
              given = λ j c g. elim (cases_Bool (is_read s d j)) [
                | inl r ↦ read-no_effect s d j x c r
                | inr p ↦ absurd (false≢true (sym (ap is_good (reply-plain s d j (up_of a) p ∙ ap (status_reply d j) (silent j))) ∙ g))
              ];
              truthful = λ j c n address byte got e. elim (cases_Bool (is_read s d j)) [
                | inl r ↦ read-same s d j (j - load_count s d) (read_in s d (j - load_count s d) (up_of a)) (wants (j - load_count s d))
                    n address byte got (sym (ap end_of (reply-of_read s d j (up_of a) r)) ∙ e)
                | inr p ↦ status-same d j (status_in s d j (up_of a)) n address byte got (sym (ap end_of (reply-plain s d j (up_of a) p)) ∙ e)
              ];
              calm = λ same j c. elim (cases_Bool (is_read s d j)) [
                | inl r ↦ ap is_end (reply-of_read s d j (up_of a) r)
                    ∙ read-calm s d j (j - load_count s d) (read_in s d (j - load_count s d) (up_of a))
                    (λ q h.
                    let told = read_answer_says s d (j - load_count s d) i status bytes q fits h in
                    let good : q.status ≡ 0 = told.1 ∙ willing same in
                    (good, wants (j - load_count s d) q h good))
                | inr p ↦ ap is_end (reply-plain s d j (up_of a) p ∙ ap (status_reply d j) (silent j))
              ];
            }

  pub takes : (k : ℕ) → k < packet_count s d → (load_count s d ≤ k → HasLoad s (load_of s d) x) → (load_count s d ≤ k → HasEntry s (load_of s d) x) → Takes s d k start x (handled x (packet_at s d k))
  takes k b load entry = by_kind (packet_kind s d k b) where
    by_kind : Kind s d k → Takes s d k start x (handled x (packet_at s d k))
    by_kind (a_write w) = takes-plain k b (is_read-below s d k (omega arith)) (λ e. entry (omega arith))
    by_kind (a_define w) = takes-plain k b (is_read-below s d k (omega arith)) (λ e. entry (omega arith))
    by_kind (a_read i m e) = takes-read k i b m e (load (omega arith))
    by_kind (a_start e f) = takes-plain k b (is_read-past s d k (omega arith)) (λ g. entry (omega arith))

-- ---- what holds of a world

pub record Holds (s : Upload) (start : ℕ → DroneState) (w : World) : Type 0 where
  pub course : (d : ℕ) → d < drone_count s → OnCourse s d (start d) (w.drones d)
  pub given : (d : ℕ) → d < drone_count s → All (IsGiven s d (w.drones d)) (w.given d)
  pub truthful : (d : ℕ) → d < drone_count s → All (IsTrue s d) (w.given d)
  pub acknowledged : (d k : ℕ) → d < drone_count s → k < packet_count s d → acked s w.heard d k ≡ true → Effect s d k (w.drones d)
  pub true_heard : All (IsTrueEvent s) w.heard
  pub calm : SameIds s start → (d : ℕ) → d < drone_count s → All (IsCalm s d) (w.given d)
  pub quiet : SameIds s start → All (IsQuiet s) w.heard

pub holds-start : (s : Upload) (drones : ℕ → DroneState) → ((d : ℕ) → d < drone_count s → IsDrone (drones d)) → Holds s drones (start_world s drones)
unfolding start_world
holds-start s drones fit = grind (arith, common_steps, All-nil, false≢true, acked-nil)

-- ---- an event of the host

holds-host : (s : Upload) (start : ℕ → DroneState) (w : World) (e : Event) → Holds s start w →
    ((d k : ℕ) → d < drone_count s → k < packet_count s d → is_good (reply_to s d k e) ≡ true → Effect s d k (w.drones d)) →
    IsTrueEvent s e → (SameIds s start → IsQuiet s e) → Holds s start (host_event s w e)
unfolding host_event
holds-host s start w e h good truthful quiet = record {
  course = h.course;
  given = h.given;
  truthful = h.truthful;
  acknowledged = λ d k l b a. elim (acked-cases s w.heard e d k a) [ inl before ↦ h.acknowledged d k l b before | inr here ↦ good d k l b here ];
  true_heard = All-append (IsTrueEvent s) w.heard (e ∷ []) h.true_heard (All-cons (IsTrueEvent s) e [] truthful (All-nil (IsTrueEvent s)));
  calm = h.calm;
  quiet = λ same. All-append (IsQuiet s) w.heard (e ∷ []) (h.quiet same) (All-cons (IsQuiet s) e [] (quiet same) (All-nil (IsQuiet s)));
}

pub All-slice_get : {X : Type 0} (P : X → Type 0) (xs : List X) (n : ℕ) (x : X) → slice_get xs n ≡ Some x → All P xs → P x
All-slice_get P xs n x at all = subst P (get_or_from_slice_get xs n x x at) (all n x (slice_get_within xs n x at))

unfolded-tick : (s : Upload) (d k : ℕ) → reply_to s d k event.Tick ≡ Silent
unfolding reply_to
unfolded-tick s d k = refl

holds-tick : (s : Upload) (start : ℕ → DroneState) (w : World) → Holds s start w → Holds s start (host_event s w event.Tick)
holds-tick s start w h =
    holds-host s start w event.Tick h
    (λ d k l b g. absurd (false≢true (sym (ap is_good (unfolded-tick s d k)) ∙ g)))
    (λ d k i address byte got e. let no : Going ≡ Differs i address byte got = sym (ap end_of (unfolded-tick s d k)) ∙ e in cc)
    (λ same d k. ap is_end (unfolded-tick s d k))

holds-hear : (s : Upload) (start : ℕ → DroneState) (w : World) → Holds s start w → (i : ℕ) → i < drone_count s →
    (o : Option (List ℕ)) (n : ℕ) → slice_get (w.given i) n ≡ o → Holds s start (hear_named s w i o)
holds-hear s start w h i m None n at = h
holds-hear s start w h i m (Some a) n at =
    holds-host s start w (event.Up i a) h
    (λ d k l b. reply-by (λ r. is_good r ≡ true → Effect s d k (w.drones d)) s d k i a (λ g. absurd (false≢true g))
    (λ same l b. subst (λ (j : ℕ). IsGiven s j (w.drones j) a) same (All-slice_get (IsGiven s i (w.drones i)) (w.given i) n a at (h.given i m)) k b))
    (λ d k. reply-by (λ r. (j address byte got : ℕ) → end_of r ≡ Differs j address byte got → ⊥) s d k i a (λ j address byte got e. cc)
    (λ same l b. subst (λ (j : ℕ). IsTrue s j a) same (All-slice_get (IsTrue s i) (w.given i) n a at (h.truthful i m)) k b))
    (λ ids d k. reply-by (λ r. is_end r ≡ false) s d k i a refl
    (λ same l b. subst (λ (j : ℕ). IsCalm s j a) same (All-slice_get (IsCalm s i) (w.given i) n a at (h.calm ids i m)) k b))

-- ---- where all is acknowledged, all is there

pub there_loaded : (s : Upload) (start : ℕ → DroneState) (w : World) → Holds s start w → Settled s Loading (acked s w.heard) → (i : ℕ) → i < drone_count s →
    HasLoad s (load_of s i) (w.drones i) × HasEntry s (load_of s i) (w.drones i)
there_loaded s start w h settled i l =
    let c = count-loads s i in (
      pieces_make_load s i (w.drones i) (λ k b. (h.acknowledged i k l (omega arith) (settled i l k (omega arith) (omega arith))).piece b),
      (h.acknowledged i (write_count s i) l (omega arith) (settled i l (write_count s i) (omega arith) (omega arith))).entry refl,
    )

-- ---- a drone takes a packet

pub at_changed : {A : Type 0} (P : A → Type 0) (f : ℕ → A) (d : ℕ) (y : A) (i : ℕ) → (i ≡ d → P y) → P (f i) → P (changed f d y i)
at_changed P f d y i same other = cond_both (eqb i d) y (f i) P (λ e. same (eqb-true i d e)) (λ e. other)

options_all : (P : List ℕ → Type 0) (o : Option (List ℕ)) → IfSome o P → All P (option_list o)
options_all P None h = All-nil P
options_all P (Some a) h = All-cons P a [] h (All-nil P)

module _ (s : Upload) (start : ℕ → DroneState) (w : World) (session : IsSession s) (h : Holds s start w)
    (d : ℕ) (l : d < drone_count s) (packet : List ℕ) (sent : IsSent s w.heard d packet) where
  abbrev after : Handled
  after = handled (w.drones d) packet

  abbrev drones' : ℕ → DroneState
  drones' = changed w.drones d after.drone

  step : Takes s d sent.number (start d) (w.drones d) after
  step = subst (λ (p : List ℕ). Takes s d sent.number (start d) (w.drones d) (handled (w.drones d) p)) (sym sent.is)
      (takes s d (start d) (w.drones d) session l (h.course d l) sent.number sent.inside
      (λ from. (there_loaded s start w h (sent.loaded from) d l).0) (λ from. (there_loaded s start w h (sent.loaded from) d l).1))

  -- no effect is lost
  effect_kept : (i j : ℕ) → Effect s i j (w.drones i) → Effect s i j (drones' i)
  effect_kept i j e =
      at_changed (Effect s i j) w.drones d after.drone i
      (λ same. subst (λ (m : ℕ). Effect s m j after.drone) (sym same) (step.kept j (subst (λ (m : ℕ). Effect s m j (w.drones m)) same e))) e

  given_kept : (i : ℕ) (a : List ℕ) → IsGiven s i (w.drones i) a → IsGiven s i (drones' i) a
  given_kept i a g j b good = effect_kept i j (g j b good)

  -- what holds of all answers, the new one among them
  more_given : (P : ℕ → List ℕ → Type 0) → ((i : ℕ) → i < drone_count s → All (P i) (w.given i)) → IfSome after.answer (P d) →
      (i : ℕ) → i < drone_count s → All (P i) (changed w.given d (w.given d ++ option_list after.answer) i)
  more_given P before now i b =
      at_changed (λ xs. All (P i) xs) w.given d (w.given d ++ option_list after.answer) i
      (λ same. subst (λ (m : ℕ). All (P m) (w.given d ++ option_list after.answer)) (sym same)
      (All-append (P d) (w.given d) (option_list after.answer) (before d l) (options_all (P d) after.answer now)))
      (before i b)

  holds-took : Holds s start (took w d after)
  holds-took = record {
    course = λ i b. at_changed (λ x. OnCourse s i (start i) x) w.drones d after.drone i
        (λ same. subst (λ (m : ℕ). OnCourse s m (start m) after.drone) (sym same) step.course) (h.course i b);
    given = more_given (λ i a. IsGiven s i (drones' i) a)
        (λ i b. All-weaker (IsGiven s i (w.drones i)) (IsGiven s i (drones' i)) (given_kept i) (w.given i) (h.given i b))
        (subst (λ (x : DroneState). IfSome after.answer (IsGiven s d x)) (sym (cond-true (eqb d d) after.drone (w.drones d) (eq-eqb d d refl))) step.given);
    truthful = more_given (λ i a. IsTrue s i a) h.truthful step.truthful;
    acknowledged = λ i k b c a. effect_kept i k (h.acknowledged i k b c a);
    true_heard = h.true_heard;
    calm = λ same. more_given (λ i a. IsCalm s i a) (h.calm same) (step.calm ((h.course d l).only.same_id ∙ same d l));
    quiet = h.quiet;
  }

holds-take : (s : Upload) (start : ℕ → DroneState) (w : World) → IsSession s → Holds s start w → Sends s w → (d : ℕ) → d < drone_count s →
    (o : Option (List ℕ)) (n : ℕ) → slice_get (w.sent d) n ≡ o → Holds s start (take_named w d o)
holds-take s start w session h sends d l None n at = h
holds-take s start w session h sends d l (Some packet) n at =
    holds-took s start w session h d l packet (All-slice_get (IsSent s w.heard d) (w.sent d) n packet at (sends d l))

-- ---- one event, and a list of them

holds-happens : (s : Upload) (start : ℕ → DroneState) (w : World) (e : WorldEvent) → IsSession s → Holds s start w → Sends s w →
    ((d address value : ℕ) → e ≡ Alter d address value → ⊥) → Holds s start (happens s w e)
unfolding happens
holds-happens s start w Tick session h sends unaltered = holds-tick s start w h
holds-happens s start w (Take d n) session h sends unaltered =
    cond_both (ltb d (drone_count s)) (take_named w d (slice_get (w.sent d) n)) w (Holds s start)
    (λ b. holds-take s start w session h sends d (ltb-true d (drone_count s) b) (slice_get (w.sent d) n) n refl) (λ b. h)
holds-happens s start w (Hear d n) session h sends unaltered =
    cond_both (ltb d (drone_count s)) (hear_named s w d (slice_get (w.given d) n)) w (Holds s start)
    (λ b. holds-hear s start w h d (ltb-true d (drone_count s) b) (slice_get (w.given d) n) n refl) (λ b. h)
holds-happens s start w (Alter d address value) session h sends unaltered = absurd (unaltered d address value refl)

holds-world : (s : Upload) (drones : ℕ → DroneState) → IsCase s drones → (events : List WorldEvent) → IsUnaltered events → Holds s drones (world s drones events)
holds-world s drones case events =
    by_last (λ es. IsUnaltered es → Holds s drones (world s drones es)) (λ u. holds-start s drones case.fit)
    (λ es e before u.
    subst (Holds s drones) (sym (world-last s drones es e))
    (holds-happens s drones (world s drones es) e case.session
    (before (λ i d address value at. u i d address value (slice_get-before es (e ∷ []) i (slice_get_within es i (Alter d address value) at) ∙ at)))
    (sends-world s drones es)
    (λ d address value is. u (length es) d address value (slice_get-last es e ∙ ap (λ (x : WorldEvent). Some x) is)))) events

-- ---- what that means

done-settled : (s : Upload) (h : List Event) → progress s h ≡ Done → Settled s Loading (acked s h)
done-settled s h done i l k a b = let c = count-loads s i in acked-done s h done i k l (omega arith)

quiet-end : (r : Reply) (d k status : ℕ) → is_end r ≡ false → end_of r ≡ Refused d k status → ⊥
quiet-end Silent d k status q e = cc
quiet-end Good d k status q e = cc
quiet-end (Ends p) d k status q e = false≢true (sym q)

safe-from : (s : Upload) (start : ℕ → DroneState) (w : World) → Holds s start w → Sends s w → IsSafe s start w
safe-from s start w h sends = record {
  only = λ d l. (h.course d l).only;
  writes_there = λ d k l b a. let c = count-loads s d in (h.acknowledged d k l (omega arith) a).piece b;
  defines_there = λ d l a. let c = count-loads s d in (h.acknowledged d (write_count s d) l (omega arith) a).entry refl;
  loaded = λ d l done. (there_loaded s start w h (done-settled s w.heard done) d l).0;
  listed = λ d l done. (there_loaded s start w h (done-settled s w.heard done) d l).1;
  started = λ d l done starts.
      let c = count-start s d starts in
      let b : start_number s d < packet_count s d = omega arith in
      (h.acknowledged d (start_number s d) l b (acked-done s w.heard done d (start_number s d) l b)).starts refl;
  starts_last = λ d i l m has. there_loaded s start w h (start_sent s w sends d l has).0 i m;
  not_refused = λ same d k status.
      progress-has (λ p. p ≡ Refused d k status → ⊥) (λ e. cc) (λ i j e. cc) s (λ e. cc) w.heard
      (All-weaker (IsQuiet s) (λ e. (i j : ℕ) → end_of (reply_to s i j e) ≡ Refused d k status → ⊥)
      (λ e q i j. quiet-end (reply_to s i j e) d k status (q i j)) w.heard (h.quiet same));
  same = λ d address byte got.
      progress-has (λ p. p ≡ Differs d address byte got → ⊥) (λ e. cc) (λ i j e. cc) s (λ e. cc) w.heard
      (All-weaker (IsTrueEvent s) (λ e. (i j : ℕ) → end_of (reply_to s i j e) ≡ Differs d address byte got → ⊥)
      (λ e t i j. t i j d address byte got) w.heard h.true_heard);
}

pub upload_law : UploadLaw
upload_law s drones case events unaltered =
    safe-from s drones (world s drones events) (holds-world s drones case events unaltered) (sends-world s drones events)
