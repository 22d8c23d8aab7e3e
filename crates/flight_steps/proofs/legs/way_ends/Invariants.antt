use Rattle.flight_steps.proofs.Prelude.{◌≡◌, drop, ends_from}
use Rattle.flight_steps.proofs.legs.way_ends.Given as goal

abbrev pub invariant-loop-s : goal.invariant-loop-s
invariant-loop-s l = ends_from l.here (drop l.s-index l.t.segments) ≡ ends_from l.t.start l.t.segments
