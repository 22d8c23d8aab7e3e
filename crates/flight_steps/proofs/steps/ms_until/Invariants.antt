use Rattle.flight_steps.proofs.Prelude.{◌≡◌, ms_until}
use Rattle.flight_steps.proofs.steps.ms_until.Given as goal

abbrev pub invariant-loop-i : goal.invariant-loop-i
invariant-loop-i l = l.ms ≡ ms_until l.all l.i
