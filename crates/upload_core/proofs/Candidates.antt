-- Which packets of a drone a message says nothing of.
use Rattle.upload_core.proofs.Prelude.{common_steps, ◌≡◌, ℕ, ◌+◌, ◌-◌, ◌*◌, ◌<◌, ◌≤◌, Bool, true, false, not, cond, ◌&&◌, ◌||◌, eqb, ltb, leb, List, length, take, drop, get_or, ap, sym, ◌∙◌, arith, Some, None, Ok, inl, inr, cases_Bool, and_parts, false≢true, eqb-true, ltb-true, leb-true, not-true, lt-ltb, false_from_ne_true, Silent, Upload, write_count, load_count, read_count, start_number, packet_count, packet_at, is_read, read_address, wanted, status_reply, read_reply, reply_in, Kind, a_write, a_define, a_read, a_start, packet_kind, packet_at-define, packet_at-start, is_read-at, reply-plain, reply-of_read}
use Rattle.std.specs.Str.{bytes_eq}
use Rattle.arrayvec.specs.ArrayVec.{ArrayVec}
use Rattle.std.proofs.lemmas.Slice.Eq.{bytes_eq-Decides}
use Rattle.crtp_packets.specs.declared.reading.Up.TheVariants.{WriteAnswer, ReadAnswer, CommandAnswer}

pub write-silent : (s : Upload) (d j id address status : ℕ) → (j < write_count s d → id ≡ s.memory_id → address ≡ s.offset + 24 * j → ⊥) →
    reply_in s d j (Ok (WriteAnswer id address status)) ≡ Silent
write-silent s d j id address status never =
    grind (arith, common_steps, cases_Bool, reply-of_read, reply-plain, cond, false_from_ne_true, ltb, eqb, and_parts, ltb-true, eqb-true)

pub command-silent : (s : Upload) (d j : ℕ) (first : List ℕ) (status : ℕ) → j < packet_count s d →
    (j ≡ write_count s d → get_or first 0 0 ≡ 6 → ⊥) → (j ≡ start_number s d → s.start ≡ true → get_or first 0 0 ≡ 5 → ⊥) →
    reply_in s d j (Ok (CommandAnswer first status)) ≡ Silent
command-silent s d j first status b define start = elim (cases_Bool (is_read s d j)) [
  | inl r ↦ reply-of_read s d j (Ok (CommandAnswer first status)) r
  | inr p ↦
      reply-plain s d j (Ok (CommandAnswer first status)) p
      ∙ ap (λ (c : Bool). status_reply d j (cond c (Some status) None))
      (false_from_ne_true (not (ltb j (write_count s d)) && bytes_eq first (take 3 (drop 1 (packet_at s d j)))) (λ all.
      let parts = and_parts (not (ltb j (write_count s d))) (bytes_eq first (take 3 (drop 1 (packet_at s d j)))) all in
      let same : first ≡ take 3 (drop 1 (packet_at s d j)) = (bytes_eq-Decides first (take 3 (drop 1 (packet_at s d j)))).0 parts.1 in
      by_kind p parts.0 same (packet_kind s d j b)))
] where
  by_kind : is_read s d j ≡ false → not (ltb j (write_count s d)) ≡ true → first ≡ take 3 (drop 1 (packet_at s d j)) → Kind s d j → ⊥
  by_kind p past same (a_write w) = false≢true (sym (not-true (ltb j (write_count s d)) past) ∙ lt-ltb j (write_count s d) w)
  by_kind p past same (a_define e) = define e (ap (λ (xs : List ℕ). get_or xs 0 0) same ∙ ap (λ (xs : List ℕ). get_or (take 3 (drop 1 xs)) 0 0) (packet_at-define s d j e))
  by_kind p past same (a_read i m e) = false≢true (sym p ∙ is_read-at s d j i m e)
  by_kind p past same (a_start e f) = start e f (ap (λ (xs : List ℕ). get_or xs 0 0) same ∙ ap (λ (xs : List ℕ). get_or (take 3 (drop 1 xs)) 0 0) (packet_at-start s d j e))

pub read-silent : (s : Upload) (d j id address status : ℕ) (piece : ArrayVec ℕ) →
    ((i : ℕ) → i < read_count s d → j ≡ load_count s d + i → id ≡ s.memory_id → address ≡ read_address s i → ⊥) →
    reply_in s d j (Ok (ReadAnswer id address status piece)) ≡ Silent
read-silent s d j id address status piece never = elim (cases_Bool (is_read s d j)) [
  | inl r ↦
      let inside = and_parts (leb (load_count s d) j) (ltb j (start_number s d)) r in
      let past : load_count s d ≤ j = leb-true (load_count s d) j inside.0 in
      let below : j < start_number s d = ltb-true j (start_number s d) inside.1 in
      reply-of_read s d j (Ok (ReadAnswer id address status piece)) r
      ∙ ap (λ (b : Bool). read_reply s d j (j - load_count s d) (cond b (Some (record { status = status; bytes = piece.items })) None))
      (false_from_ne_true (eqb id s.memory_id && eqb address (read_address s (j - load_count s d)) && (not (eqb status 0) || eqb (length piece.items) (length (wanted s d (j - load_count s d))))) (λ all.
      let outer = and_parts (eqb id s.memory_id && eqb address (read_address s (j - load_count s d))) (not (eqb status 0) || eqb (length piece.items) (length (wanted s d (j - load_count s d)))) all in
      let inner = and_parts (eqb id s.memory_id) (eqb address (read_address s (j - load_count s d))) outer.0 in
      never (j - load_count s d) (omega (arith, past, below)) (omega (arith, past)) (eqb-true id s.memory_id inner.0) (eqb-true address (read_address s (j - load_count s d)) inner.1)))
  | inr p ↦ reply-plain s d j (Ok (ReadAnswer id address status piece)) p
]
