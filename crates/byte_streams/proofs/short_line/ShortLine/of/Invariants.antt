use Rattle.byte_streams.proofs.Prelude.{◌≡◌, ◌+◌, ◌≤◌, ◌++◌, drop, length, map, filled, word_bytes, words_room}
use Rattle.byte_streams.proofs.short_line.ShortLine.of.Given as goal

abbrev pub invariant-loop-byte : goal.invariant-loop-byte
invariant-loop-byte l = record {
  so_far : l.line ++ filled (drop l.byte-index l.template) (map word_bytes l.left) ≡ filled l.template (map word_bytes l.words);
  room : length l.line + words_room l.left ≤ l.byte-index + words_room l.words;
}
