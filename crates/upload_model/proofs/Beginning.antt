-- A drone that takes a start and has an entry begins: it is counted.
use Rattle.upload_model.proofs.Prelude.{common_steps, ◌≡◌, ℕ, zero, suc, ◌+◌, ◌<◌, ◌≤◌, true, false, cond, eqb, refl, ap, sym, ◌∙◌, inl, inr, List, [], ◌∷◌, ◌++◌, take, arith, Option, Some, None, slice_get, All-cons, All-head, All-nil, All-tail, start_of, and_parts, cases_Bool, eqb-true, false≢true, Tick, Take, Hear, Alter, eq-eqb, slice_get_within, WorldEvent, DroneState, has_entry, handled, Upload, IsSession, drone_count, load_of, write_count, start_number, packet_count, packet_at, taken, World, start_world, happens, run, TakesStart, bytes_eq, AreOwn}
use Rattle.std.proofs.lemmas.Slice.Eq.{bytes_eq-Decides}
use Rattle.upload_model.specs.Starts.{begins, begins_by, beginnings, beginnings_in, starts_in, BeginLaw, EachLaw, OnceLaw}
use Rattle.upload_model.proofs.OneDrone.{Effect, OnCourse, has_entry_from}
use Rattle.upload_model.proofs.Readings.{is_read-below, packet_at-start}
use Rattle.upload_model.proofs.Sending.{last_number}
use Rattle.upload_model.proofs.Taken.{done_has_taken}
use Rattle.upload_model.proofs.Taking.{accepted-define, accepted-there, course-taken, leaves, on_course}

-- a drone that takes a start and has an entry begins
takes-begins : (s : Upload) (w : World) (d : ℕ) (e : WorldEvent) → TakesStart s w d e → has_entry (w.drones d).table s.trajectory_id ≡ true → begins s w d e ≡ true
takes-begins s w d e (n, is, named) listed = grind (arith, common_steps, eq-eqb, bytes_eq-Decides)

-- who takes a start at event i of these, and has an entry, has begun at least once
counted : (s : Upload) (w : World) (d : ℕ) (events : List WorldEvent) (i : ℕ) (e : WorldEvent) → slice_get events i ≡ Some e →
    TakesStart s (run s w (take i events)) d e → has_entry ((run s w (take i events)).drones d).table s.trajectory_id ≡ true → 1 ≤ beginnings s w d events
counted s w d [] i e is takes listed = let l = slice_get_within [] i e is in absurd (omega arith)
counted s w d (f ∷ es) zero e is takes listed = grind (arith, common_steps, takes-begins, cond)
counted s w d (f ∷ es) (suc i) e is takes listed = omega (arith, counted s (happens s w f) d es i e is takes listed)

pub begin_law : BeginLaw
begin_law s drones case events d l starts done =
    let t = done_has_taken s drones case events d l starts done in
    counted s (start_world s drones) d events t.i t.e t.is t.takes t.listed

-- ---- once

-- a packet by which a drone begins is a start
begins-start : (id : ℕ) (x : DroneState) (o : Option (List ℕ)) → begins_by id x o ≡ true → o ≡ Some (start_of id)
begins-start id x None is = absurd (cc)
begins-start id x (Some packet) is =
    let same = (and_parts (bytes_eq packet (start_of id)) (has_entry x.table id) is).0 in
    grind (arith, common_steps, bytes_eq-Decides)

-- a drone that begins takes a start
begins-takes : (s : Upload) (w : World) (d : ℕ) (e : WorldEvent) → begins s w d e ≡ true → TakesStart s w d e
begins-takes s w d Tick b = absurd (cc)
begins-takes s w d (Hear i n) b = absurd (cc)
begins-takes s w d (Alter i address value) b = absurd (cc)
begins-takes s w d (Take i n) b =
    let parts = and_parts (eqb i d) (begins_by s.trajectory_id (w.drones d) (slice_get (w.sent d) n)) b in
    (n, ap (λ (j : ℕ). Take j n) (eqb-true i d parts.0), begins-start s.trajectory_id (w.drones d) (slice_get (w.sent d) n) parts.1)

-- at no event of these does drone d take a start
abbrev NeverTakes : Upload → World → ℕ → List WorldEvent → Type 0
NeverTakes s w d events = (i : ℕ) (e : WorldEvent) → slice_get events i ≡ Some e → TakesStart s (run s w (take i events)) d e → ⊥

never : (s : Upload) (w : World) (d : ℕ) (events : List WorldEvent) → NeverTakes s w d events → beginnings s w d events ≡ 0
never s w d [] none = refl
never s w d (e ∷ es) none = elim (cases_Bool (begins s w d e)) [
  | inl now ↦ absurd (none 0 e refl (begins-takes s w d e now))
  | inr not_now ↦
      let rest : beginnings s (happens s w e) d es ≡ 0 = never s (happens s w e) d es (λ i f is takes. none (suc i) f is takes) in
      rw not_now (omega (arith, rest))
]

-- at one event of these at most
abbrev TakesOne : Upload → World → ℕ → List WorldEvent → Type 0
TakesOne s w d events =
    (i j : ℕ) (e f : WorldEvent) → slice_get events i ≡ Some e → slice_get events j ≡ Some f →
    TakesStart s (run s w (take i events)) d e → TakesStart s (run s w (take j events)) d f → i ≡ j

at_most_once : (s : Upload) (w : World) (d : ℕ) (events : List WorldEvent) → TakesOne s w d events → beginnings s w d events ≤ 1
at_most_once s w d [] one = omega arith
at_most_once s w d (e ∷ es) one = elim (cases_Bool (begins s w d e)) [
  | inl now ↦
      let rest : beginnings s (happens s w e) d es ≡ 0 = never s (happens s w e) d es (λ i f is takes.
      let same : 0 ≡ suc i = one 0 (suc i) e f refl is (begins-takes s w d e now) takes in omega (arith, same)) in
      rw now (omega (arith, rest))
  | inr not_now ↦
      let rest : beginnings s (happens s w e) d es ≤ 1 = at_most_once s (happens s w e) d es (λ i j f g is at takes also.
      let same : suc i ≡ suc j = one (suc i) (suc j) f g is at takes also in omega (arith, same)) in
      rw not_now (omega (arith, rest))
]

pub once_law : OnceLaw
once_law s drones case events d l starts done one =
    omega (arith, begin_law s drones case events d l starts done, at_most_once s (start_world s drones) d events one)

-- ---- in any order

own-before : (s : Upload) (d : ℕ) (order later : List ℕ) → AreOwn s d (order ++ later) → AreOwn s d order
own-before s d [] later own = All-nil (λ k. k < packet_count s d)
own-before s d (k ∷ ks) later own =
    All-cons (λ j. j < packet_count s d) k ks (All-head (λ j. j < packet_count s d) k (ks ++ later) own)
    (own-before s d ks later (All-tail (λ j. j < packet_count s d) k (ks ++ later) own))

own-after : (s : Upload) (d : ℕ) (order later : List ℕ) → AreOwn s d (order ++ later) → AreOwn s d later
own-after s d [] later own = own
own-after s d (k ∷ ks) later own = own-after s d ks later (All-tail (λ j. j < packet_count s d) k (ks ++ later) own)

-- how often a drone begins in one list and then in another
beginnings-append : (s : Upload) (d : ℕ) (x : DroneState) (order later : List ℕ) →
    beginnings_in s d x (order ++ later) ≡ beginnings_in s d x order + beginnings_in s d (taken s d x order) later
beginnings-append s d x [] later = omega arith
beginnings-append s d x (k ∷ ks) later = let rest = beginnings-append s d (handled x (packet_at s d k)).drone ks later in omega (arith, rest)

-- no other packet is a start
not-begins : (s : Upload) (d k : ℕ) (x : DroneState) → k < packet_count s d → eqb k (start_number s d) ≡ false → begins_by s.trajectory_id x (Some (packet_at s d k)) ≡ false
not-begins s d k x own other = elim (cases_Bool (begins_by s.trajectory_id x (Some (packet_at s d k)))) [
  | inl now ↦
      let is : Some (packet_at s d k) ≡ Some (start_of s.trajectory_id) = begins-start s.trajectory_id x (Some (packet_at s d k)) now in
      let same : start_of s.trajectory_id ≡ packet_at s d k = cc in
      absurd (false≢true (sym other ∙ eq-eqb k (start_number s d) (last_number s d k own same)))
  | inr not_now ↦ not_now
]

-- a start is accepted where there is an entry
start-begins : (s : Upload) (d k : ℕ) (x : DroneState) → eqb k (start_number s d) ≡ true → has_entry x.table s.trajectory_id ≡ true → begins_by s.trajectory_id x (Some (packet_at s d k)) ≡ true
start-begins s d k x is listed =
    let start = packet_at-start s d k (eqb-true k (start_number s d) is) in
    grind (arith, common_steps, bytes_eq-Decides)

-- without a start a drone doesn't begin
none-begun : (s : Upload) (d : ℕ) (x : DroneState) (ks : List ℕ) → AreOwn s d ks → starts_in s d ks ≡ 0 → beginnings_in s d x ks ≡ 0
none-begun s d x [] own none = refl
none-begun s d x (k ∷ ks) own none = elim (cases_Bool (eqb k (start_number s d))) [
  | inl is ↦ let some : 1 + starts_in s d ks ≡ 0 = rw is at none in absurd (omega (arith, some))
  | inr other ↦
      let rest : beginnings_in s d (handled x (packet_at s d k)).drone ks ≡ 0 =
      none-begun s d (handled x (packet_at s d k)).drone ks (All-tail (λ j. j < packet_count s d) k ks own) (let fewer : 0 + starts_in s d ks ≡ 0 = rw other at none in omega (arith, fewer)) in
      rw (not-begins s d k x (All-head (λ j. j < packet_count s d) k ks own) other) (omega (arith, rest))
]

module _ (s : Upload) (d : ℕ) (start : DroneState) (session : IsSession s) (inside : d < drone_count s) where
  -- a drone that has its entry begins once for each start
  each-begun : (x : DroneState) (ks : List ℕ) → AreOwn s d ks → OnCourse s d start x → Effect s d (write_count s d) x → beginnings_in s d x ks ≡ starts_in s d ks
  each-begun x [] own course effect = refl
  each-begun x (k ∷ ks) own course effect =
      let mine : k < packet_count s d = All-head (λ j. j < packet_count s d) k ks own in
      let step = leaves s d k start x session inside mine course in
      let rest : beginnings_in s d (handled x (packet_at s d k)).drone ks ≡ starts_in s d ks =
      each-begun (handled x (packet_at s d k)).drone ks (All-tail (λ j. j < packet_count s d) k ks own) step.course (step.kept (write_count s d) effect) in
      elim (cases_Bool (eqb k (start_number s d))) [
        | inl is ↦
            let now = start-begins s d k x is (has_entry_from x.table s.trajectory_id (record { offset = s.offset; pieces = (load_of s d).pieces }) (effect.entry refl)) in
            rw (now, is) (omega (arith, rest))
        | inr other ↦ rw (not-begins s d k x mine other, other) (omega (arith, rest))
      ]

pub each_law : EachLaw
each_law s d x order later session inside drone own defined none =
    let before : AreOwn s d order = own-before s d order later own in
    let after : AreOwn s d later = own-after s d order later own in
    let course = on_course s d x drone in
    let first : beginnings_in s d x order ≡ 0 = none-begun s d x order before none in
    let then_each : beginnings_in s d (taken s d x order) later ≡ starts_in s d later =
    each-begun s d x session inside (taken s d x order) later after (course-taken s d x session inside x order before course)
    (accepted-there s d x session inside x order before course (write_count s d) (is_read-below s d (write_count s d) (omega arith)) (accepted-define s d (write_count s d) refl) defined) in
    omega (arith, beginnings-append s d x order later, first, then_each)
