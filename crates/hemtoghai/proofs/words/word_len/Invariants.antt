use Rattle.hemtoghai.proofs.Prelude.{◌≡◌, ◌+◌, ◌-◌, ◌≤◌, length, drop, position_or_len, divides}
use Rattle.hemtoghai.proofs.words.word_len.Given as goal

abbrev pub invariant-bytes : goal.invariant-bytes
invariant-bytes l = record {
  within : l.at ≤ length l.bytes;
  passed : position_or_len divides l.bytes ≡ l.at + position_or_len divides (drop l.at l.bytes);
}

abbrev pub decreases-bytes : goal.decreases-bytes
decreases-bytes l = length l.bytes - l.at
