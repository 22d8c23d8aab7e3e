use Rattle.show_judge.proofs.Prelude.{◌≡◌, ◌+◌, ◌≤◌, drop, feeds, marker_number}
use Rattle.show_judge.proofs.refusing.marker_number.Given as goal

-- the line feeds so far are counted, and those of the rest are still to come
abbrev pub invariant-loop-byte : goal.invariant-loop-byte
invariant-loop-byte l = record {
  few : l.number ≤ l.byte-index + 1;
  counted : l.number + feeds (drop l.byte-index l.text) ≡ marker_number l.text;
}
