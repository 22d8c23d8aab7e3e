use Rattle.flight_steps.proofs.Prelude.{◌≡◌, drop, seams_fault}
use Rattle.flight_steps.proofs.judging.seams_fault.Given as goal

abbrev pub invariant-loop-d : goal.invariant-loop-d
invariant-loop-d l = seams_fault 0 l.ups l.shows l.downs ≡ seams_fault l.d (drop l.d l.ups) (drop l.d l.shows) (drop l.d l.downs)
