use Rattle.flight_steps.proofs.Prelude.{◌≡◌, drop, all_values, with_more}
use Rattle.flight_steps.proofs.room.with_curves.Given as goal

abbrev pub invariant-loop-t : goal.invariant-loop-t
invariant-loop-t l = with_more l.all (all_values l.axis (drop l.t-index l.curves)) ≡ with_more l.fn.s (all_values l.axis l.curves)
