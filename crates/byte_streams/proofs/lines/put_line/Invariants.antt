use Rattle.byte_streams.proofs.Prelude.{◌≡◌, ◌++◌, drop, map, filled, word_bytes}
use Rattle.byte_streams.proofs.TextLemmas.{Keeps}
use Rattle.byte_streams.proofs.lines.put_line.Given as goal

abbrev pub invariant-loop-byte : goal.invariant-loop-byte
invariant-loop-byte l = record {
  so_far : l.text.items ++ filled (drop l.byte-index l.template) (map word_bytes l.left) ≡ l.initial.text.items ++ filled l.template (map word_bytes l.words);
  keeps : Keeps l.initial.text.items l.text.items;
}
