use Rattle.flight_steps.proofs.Prelude.{◌≡◌, drop, first_move}
use Rattle.flight_steps.proofs.moves.first_move.Given as goal

abbrev pub invariant-loop-l : goal.invariant-loop-l
invariant-loop-l l = first_move (drop l.l-index l.legs) ≡ first_move l.fn.legs
