use Rattle.flight_steps.proofs.Prelude.{◌≡◌, drop, downs_fault}
use Rattle.flight_steps.proofs.judging.downs_fault.Given as goal

abbrev pub invariant-loop-d : goal.invariant-loop-d
invariant-loop-d l = downs_fault 0 l.ways ≡ downs_fault l.d (drop l.d l.ways)
