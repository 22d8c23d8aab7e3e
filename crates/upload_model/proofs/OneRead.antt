-- One drone that takes a read, and what its answers to all other packets say of reads.
use Rattle.upload_model.proofs.Prelude.{ext_get_or, common_steps, ◌≡◌, ℕ, ◌+◌, ◌-◌, ◌*◌, ◌/◌, ◌^◌, ◌<◌, ◌≤◌, min, Bool, true, false, not, cond, eqb, ltb, List, length, take, drop, get_or, refl, ap, sym, ◌∙◌, arith, Some, None, subst, IfSome, cases_eq, cond_both, and_parts, false≢true, eqb-true, eq-eqb, ne_eqb, le-ltb, length-take, length-drop, get_or-take, get_or-drop, write_answer_of, read_answer_of, up_of, start_of, chunk_of, DroneState, Handled, answers, write_taken, read_taken, message_taken, handled, Upload, IsLoad, IsSession, drone_count, load_of, part_count, read_count, read_address, wanted, read_at, packet_count, packet_at, is_read, HasLoad, ReadBack, read_in, HasRange, ReadsCover}
use Rattle.upload_model.proofs.Readings.{Kind, a_write, a_define, a_read, a_start, packet_kind, packet_at-define, packet_at-start, is_read-at, up_of-write_answer, down_of-read, up_of-read_answer}
use Rattle.upload_model.proofs.OneDrone.{handled-write, handled-define, handled-start, length-chunk_of, write_count-below}

-- ---- the bytes of a read

pub length-wanted : (s : Upload) (d k : ℕ) → length (wanted s d k) ≡ min 20 (length (load_of s d).bytes - 20 * k)
length-wanted s d k = simp (length-take, length-drop) (omega arith)

pub wanted-at : (s : Upload) (d k i : ℕ) → i < length (wanted s d k) → get_or (wanted s d k) i 0 ≡ get_or (load_of s d).bytes (20 * k + i) 0
wanted-at s d k i h =
    let l : i < min 20 (length (load_of s d).bytes - 20 * k) = omega (arith, length-wanted s d k) in
    get_or-take 20 (drop (20 * k) (load_of s d).bytes) i 0 (omega arith) ∙ get_or-drop (20 * k) (load_of s d).bytes i 0

read_count-below : (s : Upload) (d k : ℕ) → k < read_count s d → 20 * k < length (load_of s d).bytes
unfolding read_count part_count
read_count-below s d k h = grind (arith, common_steps, cond)

-- each read asks for 1 to 20 bytes of the memory
pub record Fits (s : Upload) (d k : ℕ) : Type 0 where
  pub some : 1 ≤ length (wanted s d k)
  pub few : length (wanted s d k) ≤ 20
  pub inside : read_address s k + length (wanted s d k) ≤ 4096
  pub load : 20 * k + length (wanted s d k) ≤ length (load_of s d).bytes

pub read-fits : (s : Upload) (d k : ℕ) → IsLoad s.offset (load_of s d) → k < read_count s d → Fits s d k
read-fits s d k load h =
    let l = length-wanted s d k in let b = read_count-below s d k h in let r = load.has_room in
    record { some = omega arith; few = omega arith; inside = omega arith; load = omega arith }

-- ---- a read

handled-read : (s : Upload) (d k : ℕ) (x : DroneState) → read_address s k < 2 ^ 32 →
    handled x (read_at s d k) ≡ read_taken x s.memory_id (read_address s k) (length (wanted s d k))
unfolding handled
handled-read s d k x fits = ap (message_taken x (read_at s d k)) (down_of-read s.memory_id (read_address s k) (length (wanted s d k)) fits)

-- what a drone does with read k
pub record Reads (s : Upload) (d k : ℕ) (x : DroneState) (y : Handled) : Type 0 where
  pub status : ℕ
  pub bytes : List ℕ
  pub is : y ≡ answers x (read_answer_of s.memory_id (read_address s k) status bytes)
  pub memory : status ≡ 0 → bytes ≡ take (length (wanted s d k)) (drop (read_address s k) x.memory)
  pub willing : x.memory_id ≡ s.memory_id → status ≡ 0

pub reads : (s : Upload) (d k : ℕ) (x : DroneState) → IsLoad s.offset (load_of s d) → k < read_count s d → Reads s d k x (handled x (read_at s d k))
reads s d k x load h = grind (arith, common_steps, read-fits, handled-read, cases_eq, take, drop, eq-eqb, ne_eqb, le-ltb)

-- what the answer to a read says
in_parts : (b : Bool) (r q : ReadBack) → cond b (Some r) None ≡ Some q → (b ≡ true) × (r ≡ q)
in_parts true r q h = (refl, cc)
in_parts false r q h = absurd (let no : None ≡ Some q = h in cc)

pub read_answer_says : (s : Upload) (d j k status : ℕ) (bytes : List ℕ) (r : ReadBack) → read_address s k < 2 ^ 32 →
    read_in s d j (up_of (read_answer_of s.memory_id (read_address s k) status bytes)) ≡ Some r →
    (j ≡ k) × (r.status ≡ status) × (r.bytes ≡ bytes)
read_answer_says s d j k status bytes r fits h = grind (arith, common_steps, in_parts, eqb, not, up_of-read_answer, and_parts, eqb-true)

-- ---- all other packets

-- an answer that answers no read
abbrev pub NoRead : Upload → ℕ → List ℕ → Type 0
NoRead s d a = (k : ℕ) → read_in s d k (up_of a) ≡ None

no_read-write : (s : Upload) (d id address status : ℕ) → address < 2 ^ 32 → NoRead s d (write_answer_of id address status)
no_read-write s d id address status fits k = ap (read_in s d k) (up_of-write_answer id address status fits)

write-no_read : (s : Upload) (d : ℕ) (x : DroneState) (id address : ℕ) (piece : List ℕ) → address < 2 ^ 32 → IfSome (write_taken x id address piece).answer (NoRead s d)
write-no_read s d x id address piece fits = grind (arith, common_steps, cond_both, not, eqb, cond, ltb, no_read-write)

pub start-no_read : (s : Upload) (d : ℕ) (x : DroneState) → s.trajectory_id < 10 → IfSome (handled x (start_of s.trajectory_id)).answer (NoRead s d)
start-no_read s d x small = grind (arith, common_steps, handled-start, cond_both, not)

-- a packet of the session which is no read
pub session-no_read : (s : Upload) (d n : ℕ) (x : DroneState) → IsSession s → d < drone_count s → n < packet_count s d → is_read s d n ≡ false →
    IfSome (handled x (packet_at s d n)).answer (NoRead s d)
session-no_read s d n x session l b plain = by_kind (packet_kind s d n b) where
  by_kind : Kind s d n → IfSome (handled x (packet_at s d n)).answer (NoRead s d)
  by_kind (a_write w) =
      let load = session.loads d l in
      let c = write_count-below s d n w in let r = load.has_room in let p = length-chunk_of (load_of s d).bytes n in
      subst (λ (y : Handled). IfSome y.answer (NoRead s d)) (sym (handled-write s d n x (omega arith) (omega arith) w))
      (write-no_read s d x s.memory_id (s.offset + 24 * n) (chunk_of (load_of s d).bytes n) (omega arith))
  by_kind (a_define e) =
      subst (λ (y : Handled). IfSome y.answer (NoRead s d))
      (sym (ap (handled x) (packet_at-define s d n e) ∙ handled-define x s.trajectory_id s.offset (load_of s d).pieces session.id_fits session.offset_fits)) (λ k. refl)
  by_kind (a_read j m e) = absurd (false≢true (sym plain ∙ is_read-at s d n j m e))
  by_kind (a_start e is) = subst (λ (p : List ℕ). IfSome (handled x p).answer (NoRead s d)) (sym (packet_at-start s d n e)) (start-no_read s d x session.id_fits)

-- ---- what an answer with the load's bytes shows, and what a memory with the load answers

memory-at : (m : List ℕ) (address len i : ℕ) → i < len → get_or (take len (drop address m)) i 0 ≡ get_or m (address + i) 0
memory-at m address len i h = get_or-take len (drop address m) i 0 h ∙ get_or-drop address m i 0

pub range-from : (s : Upload) (d k : ℕ) (x : DroneState) → wanted s d k ≡ take (length (wanted s d k)) (drop (read_address s k) x.memory) → HasRange s d k x
range-from s d k x same i l =
    sym (memory-at x.memory (read_address s k) (length (wanted s d k)) i l) ∙ ap (λ (xs : List ℕ). get_or xs i 0) (sym same)

pub load-wanted : (s : Upload) (d k : ℕ) (x : DroneState) → Fits s d k → length x.memory ≡ 4096 → HasLoad s (load_of s d) x →
    take (length (wanted s d k)) (drop (read_address s k) x.memory) ≡ wanted s d k
load-wanted s d k x f long has =
    let a = f.inside in let b = f.load in
    let l : length (take (length (wanted s d k)) (drop (read_address s k) x.memory)) ≡ length (wanted s d k)
    = length-take (length (wanted s d k)) (drop (read_address s k) x.memory) ∙ (let e = length-drop (read_address s k) x.memory in let m : min (length (wanted s d k)) (length (drop (read_address s k) x.memory)) ≡ length (wanted s d k) = omega arith in m) in
    ext_get_or 0 (take (length (wanted s d k)) (drop (read_address s k) x.memory)) (wanted s d k) l
    (λ i h.
    let below : i < length (wanted s d k) = omega arith in
    let at : read_address s k + i ≡ s.offset + (20 * k + i) = omega arith in
    memory-at x.memory (read_address s k) (length (wanted s d k)) i below
    ∙ ap (λ (n : ℕ). get_or x.memory n 0) at ∙ has (20 * k + i) (omega arith) ∙ sym (wanted-at s d k i below))

-- the reads cover the load
pub reads_cover : ReadsCover
unfolding read_count part_count
reads_cover s d i back l =
    let k : ℕ = i / 20 in
    let n = length-wanted s d k in
    let inside : i - 20 * k < length (wanted s d k) = omega arith in
    let at : 20 * k + (i - 20 * k) ≡ i = omega arith in
    let below : k < cond s.readback (part_count s d) 0 = rw back (omega arith) in
    (k, below, (omega arith, omega arith), wanted-at s d k (i - 20 * k) inside ∙ ap (λ (j : ℕ). get_or (load_of s d).bytes j 0) at)
