use Rattle.text_lines.proofs.Prelude.{◌≡◌, ◌+◌, ◌<◌, ◌≤◌, ◌++◌, length, lines_of, tokens_from, tokens_of}
use Rattle.text_lines.proofs.token.tokens.Given as goal

abbrev pub invariant-lines : goal.invariant-lines
invariant-lines l = record {
  so_far : l.tokens.items ++ tokens_from l.comments l.number l.at (lines_of l.rest) ≡ tokens_of l.comments l.text;
  place : l.at + length l.rest ≤ length l.text + 1;
  some : 0 < length l.rest → l.at + length l.rest ≤ length l.text;
  few : l.number ≤ l.at + 1;
}

abbrev pub decreases-lines : goal.decreases-lines
decreases-lines l = length l.rest
