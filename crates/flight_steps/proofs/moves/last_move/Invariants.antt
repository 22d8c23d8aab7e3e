use Rattle.flight_steps.proofs.Prelude.{◌≡◌, drop, None}
use Rattle.flight_steps.proofs.Walks.{last_from}
use Rattle.flight_steps.proofs.moves.last_move.Given as goal

abbrev pub invariant-loop-l : goal.invariant-loop-l
invariant-loop-l l = last_from l.last (drop l.l-index l.legs) ≡ last_from None l.fn.legs
