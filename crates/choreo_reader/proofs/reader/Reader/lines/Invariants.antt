use Rattle.choreo_reader.proofs.Prelude.{◌≡◌, ◌+◌, ◌≤◌, length, FromHash, lines_of, numbered, lines_step, built_of}
use Rattle.choreo_reader.proofs.reader.Reader.lines.Given as goal

abbrev pub invariant-lines : goal.invariant-lines
invariant-lines l = record {
  so_far : lines_step l.form (built_of l.fn.self) (numbered FromHash l.first (lines_of l.text)) ≡ lines_step l.form (built_of l.self) (numbered FromHash l.number (lines_of l.rest));
  within : length l.rest ≤ length l.text;
  few : l.number + length l.rest ≤ l.first + length l.text;
}

abbrev pub decreases-lines : goal.decreases-lines
decreases-lines l = length l.rest
