use Rattle.flight_director.proofs.Prelude.{◌≡◌, false, take, has_risen}
use Rattle.flight_director.proofs.risen.has_risen.Given as goal

abbrev pub invariant-loop-k : goal.invariant-loop-k
invariant-loop-k l = has_risen l.f l.k l.d ≡ false
