use Rattle.upload_core.proofs.Prelude.{◌≡◌, ◌≤◌, ◌*◌, length}
use Rattle.upload_core.proofs.Beginning.{first_windows}
use Rattle.upload_core.proofs.rows.first_flight.Given as goal

abbrev pub invariant-loop-drone : goal.invariant-loop-drone
invariant-loop-drone l = (l.out.items ≡ first_windows l.session l.drone) × (length l.out.items ≤ 4 * l.drone)
