use Rattle.flight_director.proofs.Prelude.{◌≡◌, ◌++◌, take, drop, unanswered}
use Rattle.flight_director.proofs.answers.forget.Given as goal

abbrev pub invariant-loop-d : goal.invariant-loop-d
invariant-loop-d l = l.answered ≡ unanswered (take l.d l.fn.answered) ++ drop l.d l.fn.answered
