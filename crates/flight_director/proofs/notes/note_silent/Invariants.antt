use Rattle.flight_director.proofs.Prelude.{◌≡◌, ◌≤◌, ◌+◌, ◌++◌, drop, length, silent_from}
use Rattle.flight_director.proofs.notes.note_silent.Given as goal

abbrev pub invariant-loop-d : goal.invariant-loop-d
invariant-loop-d l = record {
  room : length l.out.items ≤ length l.fn.out.items + l.d;
  all : l.out.items ++ silent_from l.silence l.ms l.d (drop l.d l.tracks) ≡ l.fn.out.items ++ silent_from l.silence l.ms 0 l.tracks;
}
