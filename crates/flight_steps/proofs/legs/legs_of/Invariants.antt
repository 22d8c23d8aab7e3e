use Rattle.flight_steps.proofs.Prelude.{◌≡◌, ◌++◌, drop, legs_from}
use Rattle.flight_steps.proofs.legs.legs_of.Given as goal

abbrev pub invariant-loop-s : goal.invariant-loop-s
invariant-loop-s l = l.legs.items ++ legs_from l.here (drop l.s-index l.t.segments) ≡ legs_from l.t.start l.t.segments
