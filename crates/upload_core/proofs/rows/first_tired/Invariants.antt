use Rattle.upload_core.proofs.Prelude.{◌≡◌, ◌==◌, None, find, counted, in_windows}
use Rattle.upload_core.proofs.rows.first_tired.Given as goal

abbrev pub invariant-loop-drone : goal.invariant-loop-drone
invariant-loop-drone l = find (λ x. counted l.rows x.drone x.packet == 20) (in_windows l.rows l.drone) ≡ None
