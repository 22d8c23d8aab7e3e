use Rattle.flight_steps.proofs.Prelude.{◌≡◌, drop, restless_from}
use Rattle.flight_steps.proofs.judging.restless.Given as goal

abbrev pub invariant-loop-cue : goal.invariant-loop-cue
invariant-loop-cue l = restless_from 0 l.t.start l.t.segments ≡ restless_from l.cue l.here (drop l.cue l.t.segments)
