-- What holds whenever the loop of `letters` begins a turn.
use Rattle.std.proofs.Common.{◌≡◌, length}
use Rattle.curves_tests.proofs.shows.letters.Given as goal

abbrev pub invariant-loop-d : goal.invariant-loop-d
invariant-loop-d l = length l.names.items ≡ l.d
