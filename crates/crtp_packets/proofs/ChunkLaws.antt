-- The chunks of a list of bytes, one after the other, are the list.
use Rattle.std.proofs.lemmas.Grind.{common_steps}
use Rattle.std.proofs.Common.{◌≡◌, ℕ, zero, suc, ◌+◌, ◌*◌, ◌-◌, ◌<◌, ◌≤◌, List, ◌++◌, length, take, drop, refl, ap, sym, ◌∙◌, arith, inl, inr}
use Rattle.std.proofs.lemmas.Bool.{cases_lt}
use Rattle.std.proofs.lemmas.List.{take-append-drop, take_all, drop_all, drop-drop, length-take, length-drop, append-nil}
use Rattle.std.specs.List.{flat_map, range_with_len}
use Rattle.crtp_packets.specs.Chunks.{chunk_count_of, chunk_of, chunk_start, chunk_end, Covers}

-- chunk k, and then what is after it, is what stands from its beginning on
next_chunk : (bytes : List ℕ) (k : ℕ) → k < chunk_count_of (length bytes) →
    chunk_of bytes k ++ drop (24 * (k + 1)) bytes ≡ drop (24 * k) bytes
next_chunk bytes k h = elim (cases_lt (length bytes) (24 * k + 24)) [
  | inl last ↦ grind (arith, common_steps, take, drop, take_all, length-drop, drop_all, append-nil)
  | inr full ↦
      let size : chunk_end (length bytes) k - chunk_start k ≡ 24 = omega arith in
      let place : 24 * (k + 1) ≡ 24 * k + 24 = omega arith in
      let behind : drop (24 * k + 24) bytes ≡ drop 24 (drop (24 * k) bytes) = simp drop-drop refl in
      rw (size, place, behind) (take-append-drop 24 (drop (24 * k) bytes))
]

-- the last n chunks are what stands from the first of them on
last_chunks : (bytes : List ℕ) (n k : ℕ) → k + n ≡ chunk_count_of (length bytes) →
    flat_map (chunk_of bytes) (range_with_len k n) ≡ drop (24 * k) bytes
last_chunks bytes zero k e = sym (drop_all (24 * k) bytes (omega arith))
last_chunks bytes (suc n) k e =
    ap (λ (xs : List ℕ). chunk_of bytes k ++ xs) (last_chunks bytes n (k + 1) (omega arith))
    ∙ next_chunk bytes k (omega arith)

-- how long chunk k is
chunk_length : (bytes : List ℕ) (k : ℕ) → k < chunk_count_of (length bytes) →
    (1 ≤ length (chunk_of bytes k)) × (length (chunk_of bytes k) ≤ 24)
chunk_length bytes k h = grind (arith, common_steps, length-take, drop, length-drop)

pub covers : (bytes : List ℕ) → Covers bytes
covers bytes = grind (arith, common_steps, last_chunks, chunk_length)
