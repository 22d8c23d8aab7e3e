use Rattle.byte_streams.proofs.Prelude.{◌≡◌, ◌++◌, ◌∷◌, List, ℕ, drop, map, flat_map, hex_word}
use Rattle.byte_streams.proofs.TextLemmas.{Keeps}
use Rattle.byte_streams.proofs.lines.put_hex_line.Given as goal

abbrev pub invariant-loop-byte : goal.invariant-loop-byte
invariant-loop-byte l = record {
  so_far : l.text.items ++ flat_map (λ (word : List ℕ). 32 ∷ word) (map hex_word (drop l.byte-index l.bytes)) ≡ l.initial.text.items ++ flat_map (λ (word : List ℕ). 32 ∷ word) (map hex_word l.bytes);
  keeps : Keeps l.fn.text.items l.text.items;
}
