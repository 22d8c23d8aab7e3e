use Rattle.flight_link.proofs.Prelude.{◌≡◌, drop, end_in}
use Rattle.flight_link.proofs.exchange.end_in.Given as goal

abbrev pub invariant-loop-frame : goal.invariant-loop-frame
invariant-loop-frame l = end_in (drop l.frame-index l.said) ≡ end_in l.said
