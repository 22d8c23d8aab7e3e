-- A drone that takes packets of its session in any order, each of them any number of times.
use Rattle.upload_model.proofs.Prelude.{common_steps, ◌≡◌, ℕ, zero, suc, ◌+◌, ◌*◌, ◌<◌, ◌≤◌, Bool, true, false, not, cond, ltb, List, [], ◌∷◌, ◌++◌, take, drop, refl, ap, sym, ◌∙◌, arith, Option, Some, None, subst, IfSome, slice_get, All, le-ltb, lt-ltb, eq-eqb, take-append-le, All-head, All-tail, slice_get_within, write_answer_of, up_of, answer_of, DroneState, Handled, handled, Upload, IsSession, drone_count, write_count, start_number, packet_count, packet_at, is_read, status_in, IsDrone, taken, accepting, IsAccepted, TakingLaw}
use Rattle.upload_model.proofs.Readings.{Kind, a_write, a_define, a_read, a_start, packet_kind, packet_at-define, packet_at-read, packet_at-start, is_read-below, is_read-past}
use Rattle.upload_model.proofs.OneDrone.{accepts, Effect, OnCourse, follows, status-write_answer, pieces_make_load, write_count-below}
use Rattle.upload_model.proofs.OneRead.{reads}
use Rattle.upload_model.proofs.HostSteps.{slice_get-before}

-- ---- one packet

-- what any packet of the session leaves
pub record Leaves (s : Upload) (d : ℕ) (start x : DroneState) (y : Handled) : Type 0 where
  pub course : OnCourse s d start y.drone
  pub kept : (j : ℕ) → Effect s d j x → Effect s d j y.drone

pub leaves : (s : Upload) (d k : ℕ) (start x : DroneState) → IsSession s → d < drone_count s → k < packet_count s d → OnCourse s d start x →
    Leaves s d start x (handled x (packet_at s d k))
leaves s d k start x session inside below course = by_kind (packet_kind s d k below) where
  plainly : is_read s d k ≡ false → Leaves s d start x (handled x (packet_at s d k))
  plainly plain = let f = follows s d k start x session inside below plain course in record { course = f.course; kept = f.kept }

  by_kind : Kind s d k → Leaves s d start x (handled x (packet_at s d k))
  by_kind (a_write w) = plainly (is_read-below s d k (omega arith))
  by_kind (a_define e) = plainly (is_read-below s d k (omega arith))
  by_kind (a_read j m e) =
      subst (Leaves s d start x) (sym (ap (handled x) (packet_at-read s d k j m e) ∙ (reads s d j x (session.loads d inside) m).is))
      (record { course = course; kept = λ i effect. effect })
  by_kind (a_start e b) = plainly (is_read-past s d k (omega arith))

-- ---- the answer of a packet that is carried out

accepted-write : (s : Upload) (d k : ℕ) → s.offset + 24 * k < 4294967296 → k < write_count s d →
    accepts (status_in s d k (up_of (accepting s d k))) ≡ true
accepted-write s d k fits w = grind (arith, common_steps, accepts, cond, lt-ltb, status-write_answer, eq-eqb)

accepted-command : (s : Upload) (d k : ℕ) (packet : List ℕ) → write_count s d ≤ k → packet_at s d k ≡ packet →
    accepts (status_in s d k (up_of (answer_of packet 0))) ≡ true → accepts (status_in s d k (up_of (accepting s d k))) ≡ true
accepted-command s d k packet past is good =
    ap (λ (b : Bool). accepts (status_in s d k (up_of (cond b (write_answer_of s.memory_id (s.offset + 24 * k) 0) (answer_of (packet_at s d k) 0))))) (le-ltb k (write_count s d) past)
    ∙ ap (λ (p : List ℕ). accepts (status_in s d k (up_of (answer_of p 0)))) is ∙ good

pub accepted-define : (s : Upload) (d k : ℕ) → k ≡ write_count s d → accepts (status_in s d k (up_of (accepting s d k))) ≡ true
accepted-define s d k e = grind (arith, common_steps, accepted-command, packet_at-define, accepts, cond, not, ltb, take, drop, le-ltb, eq-eqb)

accepted-start : (s : Upload) (d k : ℕ) → k ≡ start_number s d → accepts (status_in s d k (up_of (accepting s d k))) ≡ true
accepted-start s d k e = grind (arith, common_steps, accepted-command, packet_at-start, accepts, cond, not, ltb, take, drop, le-ltb)

-- ---- a list of packets

pub if_some : (o : Option (List ℕ)) (a : List ℕ) (P : List ℕ → Type 0) → o ≡ Some a → IfSome o P → P a
if_some o a P e h = subst (λ (q : Option (List ℕ)). IfSome q P) e h

module _ (s : Upload) (d : ℕ) (start : DroneState) (session : IsSession s) (inside : d < drone_count s) where
  abbrev IsOwn : ℕ → Type 0
  IsOwn k = k < packet_count s d

  abbrev AreOwn : List ℕ → Type 0
  AreOwn ks = All IsOwn ks

  pub course-taken : (x : DroneState) (ks : List ℕ) → AreOwn ks → OnCourse s d start x → OnCourse s d start (taken s d x ks)
  course-taken x [] own course = course
  course-taken x (k ∷ ks) own course =
      course-taken (handled x (packet_at s d k)).drone ks (All-tail IsOwn k ks own) (leaves s d k start x session inside (All-head IsOwn k ks own) course).course

  effect-taken : (x : DroneState) (ks : List ℕ) → AreOwn ks → OnCourse s d start x → (j : ℕ) → Effect s d j x → Effect s d j (taken s d x ks)
  effect-taken x [] own course j effect = effect
  effect-taken x (k ∷ ks) own course j effect =
      let step = leaves s d k start x session inside (All-head IsOwn k ks own) course in
      effect-taken (handled x (packet_at s d k)).drone ks (All-tail IsOwn k ks own) step.course j (step.kept j effect)

  -- what is accepted once is there from then on
  pub accepted-there : (x : DroneState) (ks : List ℕ) → AreOwn ks → OnCourse s d start x → (k : ℕ) → is_read s d k ≡ false →
      accepts (status_in s d k (up_of (accepting s d k))) ≡ true → IsAccepted s d x ks k → Effect s d k (taken s d x ks)
  accepted-there x ks own course k plain good a = at ks x own course a.0 a.1 a.2 where
    at : (ks : List ℕ) (x : DroneState) → AreOwn ks → OnCourse s d start x → (i : ℕ) → slice_get ks i ≡ Some k →
        (handled (taken s d x (take i ks)) (packet_at s d k)).answer ≡ Some (accepting s d k) → Effect s d k (taken s d x ks)
    at [] x own course i here answered = absurd (let no : None ≡ Some k = here in cc)
    at (j ∷ ks) x own course zero here answered =
        let same : j ≡ k = cc in
        let below : k < packet_count s d = subst (λ (n : ℕ). n < packet_count s d) same (All-head IsOwn j ks own) in
        let f = follows s d k start x session inside below plain course in
        let now : Effect s d k (handled x (packet_at s d k)).drone = if_some _ (accepting s d k) _ answered f.good k below plain good in
        effect-taken (handled x (packet_at s d j)).drone ks (All-tail IsOwn j ks own) (leaves s d j start x session inside (All-head IsOwn j ks own) course).course k
        (subst (λ (n : ℕ). Effect s d k (handled x (packet_at s d n)).drone) (sym same) now)
    at (j ∷ ks) x own course (suc i) here answered =
        at ks (handled x (packet_at s d j)).drone (All-tail IsOwn j ks own) (leaves s d j start x session inside (All-head IsOwn j ks own) course).course i here answered

-- what is accepted stays so, whatever is taken later
pub accepted_later : (s : Upload) (d : ℕ) (x : DroneState) (ks later : List ℕ) (k : ℕ) → IsAccepted s d x ks k → IsAccepted s d x (ks ++ later) k
accepted_later s d x ks later k a = grind (arith, common_steps, slice_get_within, slice_get-before, take-append-le)

-- ---- the law

-- a drone is on its course from its own state
pub on_course : (s : Upload) (d : ℕ) (x : DroneState) → IsDrone x → OnCourse s d x x
on_course s d x drone = grind (arith, common_steps)

pub taking_law : TakingLaw
taking_law s d x ks session inside drone own = record {
  only = (course-taken s d x session inside x ks own course).only;
  loaded = λ accepted. pieces_make_load s d (taken s d x ks) (λ k w.
      let load = session.loads d inside in let room = load.has_room in let b = write_count-below s d k w in
      (there k (is_read-below s d k (omega arith)) (accepted-write s d k (omega arith) w) (accepted k w)).piece w);
  listed = λ accepted.
      (there (write_count s d) (is_read-below s d (write_count s d) (omega arith)) (accepted-define s d (write_count s d) refl) accepted).entry refl;
  started = λ accepted.
      (there (start_number s d) (is_read-past s d (start_number s d) (omega arith)) (accepted-start s d (start_number s d) refl) accepted).starts refl;
} where
  course : OnCourse s d x x
  course = on_course s d x drone

  there : (k : ℕ) → is_read s d k ≡ false → accepts (status_in s d k (up_of (accepting s d k))) ≡ true → IsAccepted s d x ks k → Effect s d k (taken s d x ks)
  there = accepted-there s d x session inside x ks own course
