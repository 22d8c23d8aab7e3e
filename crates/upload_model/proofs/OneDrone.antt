-- One drone that takes a packet of the session which is no read.
use Rattle.upload_model.proofs.Prelude.{common_steps, ◌≡◌, ◌≢◌, ℕ, zero, suc, ◌+◌, ◌-◌, ◌*◌, ◌/◌, ◌%◌, ◌^◌, ◌<◌, ◌≤◌, min, Bool, true, false, not, cond, ◌&&◌, eqb, ltb, List, [], ◌∷◌, length, take, drop, get_or, set, refl, ap, sym, ◌∙◌, arith, Option, Some, None, ◌⊎◌, inl, inr, subst, IfSome, slice_get, slice_set, le-ltb, lt-ltb, lt-leb, eqb-true, cases_lt, cases_eq, cases_Bool, eq-eqb, ne_eqb, and_parts, false≢true, not-true, places, length-append, length-take, length-drop, length-set, get_or-take, get_or-drop, chunk_of, write_request_of, write_answer_of, up_of, define_of, start_of, answer_of, DroneState, Handled, answers, stored, write_taken, message_taken, has_entry, handled, Upload, IsLoad, IsSession, drone_count, load_of, write_count, start_number, packet_count, packet_at, is_read, status_in, IsInside, OnlyLoads, HasPiece, HasEntry, HasLoad, bytes_eq}
use Rattle.upload_model.specs.declared.loads.Def.{Def}
use Rattle.upload_model.specs.declared.limits.TheConstants.{ACCEPTED}
use Rattle.upload_model.proofs.Readings.{Kind, a_write, a_define, a_read, a_start, packet_kind, is_read-at, packet_at-write, packet_at-define, packet_at-start, down_of-write, command_of-define, up_of-write_answer}

-- ---- a memory after a write

pub length-stored : (m : List ℕ) (a : ℕ) (b : List ℕ) → a + length b ≤ length m → length (stored m a b) ≡ length m
length-stored m a b h = simp (length-append, length-take, length-drop) (omega arith)

pub stored-inside : (m : List ℕ) (a : ℕ) (b : List ℕ) (i : ℕ) → a + length b ≤ length m → i < length b →
    get_or (stored m a b) (a + i) 0 ≡ get_or b i 0
stored-inside m a b i h l = grind (arith, places)

pub stored-outside : (m : List ℕ) (a : ℕ) (b : List ℕ) (i : ℕ) → a + length b ≤ length m → (i < a) ⊎ (a + length b ≤ i) →
    get_or (stored m a b) i 0 ≡ get_or m i 0
stored-outside m a b i h (inl l) = grind (arith, places)
stored-outside m a b i h (inr l) = grind (arith, places)

-- ---- the pieces of a load

pub length-chunk_of : (bytes : List ℕ) (k : ℕ) → length (chunk_of bytes k) ≡ min (24 * k + 24) (length bytes) - 24 * k
length-chunk_of bytes k = simp (length-take, length-drop) (omega arith)

pub chunk_of-at : (bytes : List ℕ) (k i : ℕ) → i < length (chunk_of bytes k) → get_or (chunk_of bytes k) i 0 ≡ get_or bytes (24 * k + i) 0
chunk_of-at bytes k i h =
    let l : i < min (24 * k + 24) (length bytes) - 24 * k = omega (arith, length-chunk_of bytes k) in
    rw (get_or-take, get_or-drop) refl

pub write_count-below : (s : Upload) (d k : ℕ) → k < write_count s d → 24 * k < length (load_of s d).bytes
unfolding write_count
write_count-below s d k h = omega arith

-- the piece of each byte
pub in_some_piece : (s : Upload) (d i : ℕ) → i < length (load_of s d).bytes → i / 24 < write_count s d
unfolding write_count
in_some_piece s d i h = omega arith

-- a memory with each piece has the load
pub pieces_make_load : (s : Upload) (d : ℕ) (x : DroneState) → ((k : ℕ) → k < write_count s d → HasPiece s (load_of s d) k x) → HasLoad s (load_of s d) x
pieces_make_load s d x pieces i l =
    let k : ℕ = i / 24 in
    let j : ℕ = i % 24 in
    let inside : k < write_count s d = in_some_piece s d i l in
    let long = length-chunk_of (load_of s d).bytes k in
    let lj : j < length (chunk_of (load_of s d).bytes k) = omega arith in
    let at : s.offset + 24 * k + j ≡ s.offset + i = omega arith in
    let same : 24 * k + j ≡ i = omega arith in
    sym (ap (λ (n : ℕ). get_or x.memory n 0) at) ∙ pieces k inside j lj ∙ chunk_of-at (load_of s d).bytes k j lj ∙ ap (λ (n : ℕ). get_or (load_of s d).bytes n 0) same

-- ---- statuses

-- whether there is a status, and it is 0
abbrev pub accepts : Option ℕ → Bool
accepts None = false
accepts (Some status) = eqb status ACCEPTED

-- whether there is a status, and it isn't 0
abbrev pub refuses : Option ℕ → Bool
refuses None = false
refuses (Some status) = not (eqb status ACCEPTED)

-- ---- what a packet is there for

pub record Effect (s : Upload) (d k : ℕ) (x : DroneState) : Type 0 where
  pub piece : k < write_count s d → HasPiece s (load_of s d) k x
  pub entry : k ≡ write_count s d → HasEntry s (load_of s d) x
  pub starts : k ≡ start_number s d → x.started ≡ Some s.trajectory_id

pub record OnCourse (s : Upload) (d : ℕ) (start x : DroneState) : Type 0 where
  pub only : OnlyLoads s (load_of s d) start x
  pub memory : length x.memory ≡ 4096
  pub table : length x.table ≡ 10

-- what a drone does with packet k of its session
pub record Follows (s : Upload) (d k : ℕ) (start x : DroneState) (y : Handled) : Type 0 where
  pub course : OnCourse s d start y.drone
  pub kept : (j : ℕ) → Effect s d j x → Effect s d j y.drone
  pub good : IfSome y.answer (λ a. (j : ℕ) → j < packet_count s d → is_read s d j ≡ false → accepts (status_in s d j (up_of a)) ≡ true → Effect s d j y.drone)
  pub not_bad : x.memory_id ≡ s.memory_id → (k ≡ start_number s d → HasEntry s (load_of s d) x) →
      IfSome y.answer (λ a. (j : ℕ) → j < packet_count s d → is_read s d j ≡ false → refuses (status_in s d j (up_of a)) ≡ false)
  pub started : (k ≡ start_number s d → ⊥) → y.drone.started ≡ x.started

-- ---- statuses

good_parts : (b : Bool) (status : ℕ) → accepts (cond b (Some status) None) ≡ true → (b ≡ true) × (status ≡ 0)
good_parts true status h = (refl, eqb-true status 0 h)
good_parts false status h = absurd (false≢true h)

never_bad : (b : Bool) → refuses (cond b (Some 0) None) ≡ false
never_bad true = refl
never_bad false = refl

-- ---- a write

pub handled-write : (s : Upload) (d k : ℕ) (x : DroneState) → s.offset + 24 * k < 2 ^ 32 → 1 ≤ length (chunk_of (load_of s d).bytes k) →
    k < write_count s d → handled x (packet_at s d k) ≡ write_taken x s.memory_id (s.offset + 24 * k) (chunk_of (load_of s d).bytes k)
unfolding handled
handled-write s d k x fits some h =
    rw (packet_at-write s d k h) (ap (message_taken x (write_request_of s.memory_id (s.offset + 24 * k) (chunk_of (load_of s d).bytes k)))
    (down_of-write s.memory_id (s.offset + 24 * k) (chunk_of (load_of s d).bytes k) fits some))

write_taken-other : (x : DroneState) (id a : ℕ) (piece : List ℕ) → id ≢ x.memory_id → write_taken x id a piece ≡ answers x (write_answer_of id a 2)
write_taken-other x id a piece h = rw (ne_eqb id x.memory_id h) refl

write_taken-good : (x : DroneState) (id a : ℕ) (piece : List ℕ) → id ≡ x.memory_id → a + length piece ≤ 4096 →
    write_taken x id a piece ≡ answers (record x { memory = stored x.memory a piece }) (write_answer_of id a 0)
write_taken-good x id a piece h fits = rw (eq-eqb id x.memory_id h, le-ltb 4096 (a + length piece) fits) refl

pub status-write_answer : (s : Upload) (d j id address status : ℕ) → address < 2 ^ 32 →
    status_in s d j (up_of (write_answer_of id address status))
    ≡ cond (ltb j (write_count s d) && eqb id s.memory_id && eqb address (s.offset + 24 * j)) (Some status) None
status-write_answer s d j id address status fits = ap (status_in s d j) (up_of-write_answer id address status fits)

-- a good answer to a write names its packet
good_write_answer : (s : Upload) (d k j id status : ℕ) → s.offset + 24 * k < 2 ^ 32 →
    accepts (status_in s d j (up_of (write_answer_of id (s.offset + 24 * k) status))) ≡ true → (j ≡ k) × (status ≡ 0)
good_write_answer s d k j id status fits g = grind (arith, common_steps, good_parts, ltb, eqb, accepts, status-write_answer, and_parts, eqb-true)

module _ (s : Upload) (d k : ℕ) (start x : DroneState) (inside : k < write_count s d) (fits : IsLoad s.offset (load_of s d))
    (course : OnCourse s d start x) where
  abbrev bytes : List ℕ
  bytes = (load_of s d).bytes

  abbrev address : ℕ
  address = s.offset + 24 * k

  abbrev piece : List ℕ
  piece = chunk_of bytes k

  abbrev memory' : List ℕ
  memory' = stored x.memory address piece

  begins : 24 * k < length bytes
  begins = write_count-below s d k inside

  piece_len : (1 ≤ length piece) × (24 * k + length piece ≤ length bytes) × (address + length piece ≤ 4096)
  piece_len =
      let l = length-chunk_of bytes k in let b = begins in let f = fits.has_room in
      (omega arith, omega arith, omega arith)

  room : address + length piece ≤ length x.memory
  room = let p = piece_len in let m = course.memory in omega arith

  load_byte : (i : ℕ) → i < length bytes →
      (get_or memory' (s.offset + i) 0 ≡ get_or x.memory (s.offset + i) 0) ⊎ (get_or memory' (s.offset + i) 0 ≡ get_or bytes i 0)
  load_byte i l =
      let r = room in
      elim (cases_lt i (24 * k)) [
        | inl before ↦ inl (stored-outside x.memory address piece (s.offset + i) r (inl (omega arith)))
        | inr from ↦ elim (cases_lt i (24 * k + length piece)) [
          | inl within ↦
              let j : ℕ = i - 24 * k in
              let lj : j < length piece = omega arith in
              let at : address + j ≡ s.offset + i = omega arith in
              let same : 24 * k + j ≡ i = omega arith in
              inr (sym (ap (λ (n : ℕ). get_or memory' n 0) at) ∙ stored-inside x.memory address piece j r lj ∙ chunk_of-at bytes k j lj ∙ ap (λ (n : ℕ). get_or bytes n 0) same)
          | inr after ↦ inl (stored-outside x.memory address piece (s.offset + i) r (inr (omega arith)))
        ]
      ]

  other_byte : (i : ℕ) → (IsInside s.offset (length bytes) i → ⊥) → get_or memory' i 0 ≡ get_or x.memory i 0
  other_byte i n =
      let r = room in let p = piece_len in
      stored-outside x.memory address piece i r
      (elim (cases_lt i address) [
        | inl l ↦ inl l
        | inr f ↦ elim (cases_lt i (address + length piece)) [ inl q ↦ absurd (n (omega arith, omega arith)) | inr q ↦ inr q ]
      ])

  stays_on_course : OnCourse s d start (record x { memory = memory' })
  stays_on_course = record {
    only = record {
      inside = λ i l. elim (load_byte i l) [
        | inl same ↦ elim (course.only.inside i l) [ inl e ↦ inl (same ∙ e) | inr e ↦ inr (same ∙ e) ]
        | inr new ↦ inr new
      ];
      outside = λ i n. other_byte i n ∙ course.only.outside i n;
      length_kept = length-stored x.memory address piece room ∙ course.only.length_kept;
      other_entries = course.only.other_entries;
      same_id = course.only.same_id;
    };
    memory = length-stored x.memory address piece room ∙ course.memory;
    table = course.table;
  }

  piece_kept : (j : ℕ) → HasPiece s (load_of s d) j x → HasPiece s (load_of s d) j (record x { memory = memory' })
  piece_kept j has i l =
      let long = length-chunk_of bytes j in
      let lb : 24 * j + i < length bytes = omega arith in
      let at : s.offset + (24 * j + i) ≡ s.offset + 24 * j + i = omega arith in
      elim (load_byte (24 * j + i) lb) [
        | inl same ↦ sym (ap (λ (n : ℕ). get_or memory' n 0) at) ∙ same ∙ ap (λ (n : ℕ). get_or x.memory n 0) at ∙ has i l
        | inr new ↦ sym (ap (λ (n : ℕ). get_or memory' n 0) at) ∙ new ∙ sym (chunk_of-at bytes j i l)
      ]

  piece_there : HasPiece s (load_of s d) k (record x { memory = memory' })
  piece_there i l = stored-inside x.memory address piece i room l

  follows-write_taken : Follows s d k start x (answers (record x { memory = memory' }) (write_answer_of s.memory_id address 0))
  follows-write_taken =
      let p = piece_len in
      record {
        course = stays_on_course;
        kept = λ j e. record { piece = λ h. piece_kept j (e.piece h); entry = e.entry; starts = e.starts };
        good = λ j lj plain g.
            let named = good_write_answer s d k j s.memory_id 0 (omega arith) g in
            let same : j ≡ k = named.0 in
            subst (λ (n : ℕ). Effect s d n (record x { memory = memory' })) (sym same)
            (record { piece = λ h. piece_there; entry = λ h. absurd (omega arith); starts = λ h. absurd (omega arith) });
        not_bad = λ same has j lj plain.
            ap refuses (status-write_answer s d j s.memory_id address 0 (omega arith))
            ∙ never_bad (ltb j (write_count s d) && eqb s.memory_id s.memory_id && eqb address (s.offset + 24 * j));
        started = λ h. refl;
      }

  follows-write_refused : (s.memory_id ≡ x.memory_id → ⊥) → Follows s d k start x (answers x (write_answer_of s.memory_id address 2))
  follows-write_refused other =
      let p = piece_len in
      record {
        course = course;
        kept = λ j e. e;
        good = λ j lj plain g.
            let named = good_write_answer s d k j s.memory_id 2 (omega arith) g in
            let never : 2 ≡ 0 = named.1 in
            absurd (omega arith);
        not_bad = λ same. absurd (other (sym same));
        started = λ h. refl;
      }

  pub follows-write : Follows s d k start x (handled x (packet_at s d k))
  follows-write =
      let p = piece_len in
      let is : handled x (packet_at s d k) ≡ write_taken x s.memory_id address piece = handled-write s d k x (omega arith) p.0 inside in
      elim (cases_eq s.memory_id x.memory_id) [
        | inl same ↦ subst (Follows s d k start x) (sym (is ∙ write_taken-good x s.memory_id address piece same p.2)) follows-write_taken
        | inr other ↦ subst (Follows s d k start x) (sym (is ∙ write_taken-other x s.memory_id address piece other)) (follows-write_refused other)
      ]

-- ---- a define and a start

pub slice_get-set_same : {X : Type 0} (xs : List X) (i : ℕ) (y : X) → i < length xs → slice_get (set xs i y) i ≡ Some y
slice_get-set_same [] i y h = absurd (omega arith)
slice_get-set_same (x ∷ xs) zero y h = refl
slice_get-set_same (x ∷ xs) (suc i) y h = slice_get-set_same xs i y (omega arith)

pub slice_get-set_other : {X : Type 0} (xs : List X) (i j : ℕ) (y : X) → j ≢ i → slice_get (set xs i y) j ≡ slice_get xs j
slice_get-set_other (x ∷ xs) zero zero y h = absurd (h refl)
slice_get-set_other (x ∷ xs) (suc i) (suc j) y h = slice_get-set_other xs i j y (omega arith)
slice_get-set_other xs i j y h = refl

pub handled-define : (x : DroneState) (id offset pieces : ℕ) → id < 10 → offset < 4096 →
    handled x (define_of id offset pieces)
    ≡ answers (record x { table = slice_set x.table id (Some (record { offset = offset; pieces = pieces })) }) (answer_of (define_of id offset pieces) 0)
unfolding handled
handled-define x id offset pieces small fits = grind (arith, common_steps, command_of-define, lt-leb)

pub handled-start : (x : DroneState) (id : ℕ) → id < 10 →
    handled x (start_of id)
    ≡ cond (not (has_entry x.table id)) (answers x (answer_of (start_of id) 2)) (answers (record x { started = Some id }) (answer_of (start_of id) 0))
unfolding handled
handled-start x id small = rw (lt-leb 10 id small) refl

-- a good answer to a define, or to a start, names its packet
good_define_answer : (s : Upload) (d j offset pieces status : ℕ) → j < packet_count s d → is_read s d j ≡ false →
    accepts (status_in s d j (up_of (answer_of (define_of s.trajectory_id offset pieces) status))) ≡ true → (j ≡ write_count s d) × (status ≡ 0)
good_define_answer s d j offset pieces status l plain g =
    let parts = good_parts (not (ltb j (write_count s d)) && bytes_eq (6 ∷ s.trajectory_id ∷ 1 ∷ []) (take 3 (drop 1 (packet_at s d j)))) status g in
    let both = and_parts (not (ltb j (write_count s d))) (bytes_eq (6 ∷ s.trajectory_id ∷ 1 ∷ []) (take 3 (drop 1 (packet_at s d j)))) parts.0 in
    by_kind (packet_kind s d j l) both.0 both.1 parts.1 where
      by_kind : Kind s d j → not (ltb j (write_count s d)) ≡ true → bytes_eq (6 ∷ s.trajectory_id ∷ 1 ∷ []) (take 3 (drop 1 (packet_at s d j))) ≡ true →
          status ≡ 0 → (j ≡ write_count s d) × (status ≡ 0)
      by_kind (a_write w) not_write same z = absurd (false≢true (sym (not-true (ltb j (write_count s d)) not_write) ∙ lt-ltb j (write_count s d) w))
      by_kind (a_define e) not_write same z = (e, z)
      by_kind (a_read i m e) not_write same z = absurd (false≢true (sym plain ∙ is_read-at s d j i m e))
      by_kind (a_start e b) not_write same z =
          absurd (false≢true (sym (ap (λ (p : List ℕ). bytes_eq (6 ∷ s.trajectory_id ∷ 1 ∷ []) (take 3 (drop 1 p))) (packet_at-start s d j e)) ∙ same))

good_start_answer : (s : Upload) (d j status : ℕ) → j < packet_count s d → is_read s d j ≡ false →
    accepts (status_in s d j (up_of (answer_of (start_of s.trajectory_id) status))) ≡ true → (j ≡ start_number s d) × (status ≡ 0)
good_start_answer s d j status l plain g =
    let parts = good_parts (not (ltb j (write_count s d)) && bytes_eq (5 ∷ 0 ∷ 0 ∷ []) (take 3 (drop 1 (packet_at s d j)))) status g in
    let both = and_parts (not (ltb j (write_count s d))) (bytes_eq (5 ∷ 0 ∷ 0 ∷ []) (take 3 (drop 1 (packet_at s d j)))) parts.0 in
    by_kind (packet_kind s d j l) both.0 both.1 parts.1 where
      by_kind : Kind s d j → not (ltb j (write_count s d)) ≡ true → bytes_eq (5 ∷ 0 ∷ 0 ∷ []) (take 3 (drop 1 (packet_at s d j))) ≡ true →
          status ≡ 0 → (j ≡ start_number s d) × (status ≡ 0)
      by_kind (a_write w) not_write same z = absurd (false≢true (sym (not-true (ltb j (write_count s d)) not_write) ∙ lt-ltb j (write_count s d) w))
      by_kind (a_read i m e) not_write same z = absurd (false≢true (sym plain ∙ is_read-at s d j i m e))
      by_kind (a_define e) not_write same z =
          absurd (false≢true (sym (ap (λ (p : List ℕ). bytes_eq (5 ∷ 0 ∷ 0 ∷ []) (take 3 (drop 1 p))) (packet_at-define s d j e)) ∙ same))
      by_kind (a_start e b) not_write same z = (e, z)

pub has_entry_from : (table : List (Option Def)) (id : ℕ) (entry : Def) → slice_get table id ≡ Some (Some entry) → has_entry table id ≡ true
has_entry_from table id entry h = rw h refl

module _ (s : Upload) (d k : ℕ) (start x : DroneState) (small : s.trajectory_id < 10) (offset_fits : s.offset < 4096)
    (course : OnCourse s d start x) where
  abbrev entry : Option Def
  entry = Some (record { offset = s.offset; pieces = (load_of s d).pieces })

  abbrev define_packet : List ℕ
  define_packet = define_of s.trajectory_id s.offset (load_of s d).pieces

  abbrev table' : List (Option Def)
  table' = slice_set x.table s.trajectory_id entry

  there : slice_get table' s.trajectory_id ≡ Some entry
  there = let t = course.table in slice_get-set_same x.table s.trajectory_id entry (omega arith)

  follows-defined : k ≡ write_count s d → Follows s d k start x (answers (record x { table = table' }) (answer_of define_packet 0))
  follows-defined is = record {
    course = record {
      only = record {
        inside = course.only.inside;
        outside = course.only.outside;
        length_kept = course.only.length_kept;
        other_entries = λ id other. slice_get-set_other x.table s.trajectory_id id entry other ∙ course.only.other_entries id other;
        same_id = course.only.same_id;
      };
      memory = course.memory;
      table = length-set x.table s.trajectory_id entry ∙ course.table;
    };
    kept = λ j e. record { piece = e.piece; entry = λ h. there; starts = e.starts };
    good = λ j lj plain g.
        let named = good_define_answer s d j s.offset (load_of s d).pieces 0 lj plain g in
        let same : j ≡ write_count s d = named.0 in
        record { piece = λ h. absurd (omega arith); entry = λ h. there; starts = λ h. absurd (omega arith) };
    not_bad = λ same has j lj plain.
        never_bad (not (ltb j (write_count s d)) && bytes_eq (6 ∷ s.trajectory_id ∷ 1 ∷ []) (take 3 (drop 1 (packet_at s d j))));
    started = λ h. refl;
  }

  pub follows-define : k ≡ write_count s d → Follows s d k start x (handled x (packet_at s d k))
  follows-define is =
      subst (Follows s d k start x)
      (sym (ap (handled x) (packet_at-define s d k is) ∙ handled-define x s.trajectory_id s.offset (load_of s d).pieces small offset_fits))
      (follows-defined is)

  abbrev start_packet : List ℕ
  start_packet = start_of s.trajectory_id

  follows-started : k ≡ start_number s d → Follows s d k start x (answers (record x { started = Some s.trajectory_id }) (answer_of start_packet 0))
  follows-started is = record {
    course = record {
      only = record {
        inside = course.only.inside;
        outside = course.only.outside;
        length_kept = course.only.length_kept;
        other_entries = course.only.other_entries;
        same_id = course.only.same_id;
      };
      memory = course.memory;
      table = course.table;
    };
    kept = λ j e. record { piece = e.piece; entry = e.entry; starts = λ h. refl };
    good = λ j lj plain g.
        let named = good_start_answer s d j 0 lj plain g in
        let same : j ≡ start_number s d = named.0 in
        record { piece = λ h. absurd (omega arith); entry = λ h. absurd (omega arith); starts = λ h. refl };
    not_bad = λ same has j lj plain.
        never_bad (not (ltb j (write_count s d)) && bytes_eq (5 ∷ 0 ∷ 0 ∷ []) (take 3 (drop 1 (packet_at s d j))));
    started = λ h. absurd (h is);
  }

  follows-start_refused : k ≡ start_number s d → has_entry x.table s.trajectory_id ≡ false → Follows s d k start x (answers x (answer_of start_packet 2))
  follows-start_refused is none = record {
    course = course;
    kept = λ j e. e;
    good = λ j lj plain g.
        let named = good_start_answer s d j 2 lj plain g in
        let never : 2 ≡ 0 = named.1 in
        absurd (omega arith);
    not_bad = λ same has. absurd (false≢true (sym none ∙ has_entry_from x.table s.trajectory_id (record { offset = s.offset; pieces = (load_of s d).pieces }) (has is)));
    started = λ h. refl;
  }

  pub follows-start : k ≡ start_number s d → Follows s d k start x (handled x (packet_at s d k))
  follows-start is =
      let step : handled x (packet_at s d k) ≡ cond (not (has_entry x.table s.trajectory_id)) (answers x (answer_of start_packet 2)) (answers (record x { started = Some s.trajectory_id }) (answer_of start_packet 0))
      = ap (handled x) (packet_at-start s d k is) ∙ handled-start x s.trajectory_id small in
      elim (cases_Bool (has_entry x.table s.trajectory_id)) [
        | inl has ↦ subst (Follows s d k start x)
            (sym (step ∙ ap (λ (b : Bool). cond (not b) (answers x (answer_of start_packet 2)) (answers (record x { started = Some s.trajectory_id }) (answer_of start_packet 0))) has))
            (follows-started is)
        | inr lacks ↦ subst (Follows s d k start x)
            (sym (step ∙ ap (λ (b : Bool). cond (not b) (answers x (answer_of start_packet 2)) (answers (record x { started = Some s.trajectory_id }) (answer_of start_packet 0))) lacks))
            (follows-start_refused is lacks)
      ]

-- each packet of the session which is no read
pub follows : (s : Upload) (d k : ℕ) (start x : DroneState) → IsSession s → d < drone_count s → k < packet_count s d → is_read s d k ≡ false →
    OnCourse s d start x → Follows s d k start x (handled x (packet_at s d k))
follows s d k start x session inside below plain course = by_kind (packet_kind s d k below) where
  by_kind : Kind s d k → Follows s d k start x (handled x (packet_at s d k))
  by_kind (a_write w) = follows-write s d k start x w (session.loads d inside) course
  by_kind (a_define e) = follows-define s d k start x session.id_fits session.offset_fits course e
  by_kind (a_read i m e) = absurd (false≢true (sym plain ∙ is_read-at s d k i m e))
  by_kind (a_start e b) = follows-start s d k start x session.id_fits session.offset_fits course e
