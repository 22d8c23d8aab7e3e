use Rattle.flight_director.proofs.Prelude.{◌≡◌, drop, all_answered}
use Rattle.flight_director.proofs.answers.all_answered.Given as goal

abbrev pub invariant-loop-has : goal.invariant-loop-has
invariant-loop-has l = all_answered (drop l.has-index l.answered) ≡ all_answered l.answered
