use Rattle.flight_steps.proofs.Prelude.{◌≡◌, drop, ups_fault}
use Rattle.flight_steps.proofs.judging.ups_fault.Given as goal

abbrev pub invariant-loop-d : goal.invariant-loop-d
invariant-loop-d l = ups_fault 0 l.ways ≡ ups_fault l.d (drop l.d l.ways)
