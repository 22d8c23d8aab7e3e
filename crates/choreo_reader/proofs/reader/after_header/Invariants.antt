use Rattle.choreo_reader.proofs.Prelude.{◌≡◌, ◌+◌, ◌≤◌, length, FromHash, lines_of, numbered, show_lines}
use Rattle.choreo_reader.proofs.reader.after_header.Given as goal

abbrev pub invariant-lines : goal.invariant-lines
invariant-lines l = record {
  so_far : numbered FromHash l.number (lines_of l.rest) ≡ show_lines l.text;
  within : length l.rest ≤ length l.text;
  few : l.number + length l.rest ≤ length l.text + 1;
}

abbrev pub decreases-lines : goal.decreases-lines
decreases-lines l = length l.rest
