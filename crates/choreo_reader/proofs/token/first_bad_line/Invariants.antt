use Rattle.choreo_reader.proofs.Prelude.{◌≡◌, ◌+◌, ◌≤◌, length, lines_of, forbidden, forbidden_from}
use Rattle.choreo_reader.proofs.token.first_bad_line.Given as goal

abbrev pub invariant-lines : goal.invariant-lines
invariant-lines l = record {
  so_far : forbidden_from l.number (lines_of l.rest) ≡ forbidden l.text;
  few : l.number + length l.rest ≤ length l.text + 1;
}

abbrev pub decreases-lines : goal.decreases-lines
decreases-lines l = length l.rest
