use Rattle.hemtoghai.proofs.Prelude.{◌≡◌, ◌++◌, length, map, string_bytes, words_in}
use Rattle.hemtoghai.proofs.words.words_of.Given as goal

abbrev pub invariant-words : goal.invariant-words
invariant-words l = record {
  so_far : map string_bytes l.list.items ++ words_in l.rest ≡ words_in l.initial.bytes;
}

abbrev pub decreases-words : goal.decreases-words
decreases-words l = length l.rest
