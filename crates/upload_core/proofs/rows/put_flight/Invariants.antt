use Rattle.upload_core.proofs.Prelude.{◌≡◌, ◌≤◌, ◌*◌, length, in_windows}
use Rattle.upload_core.proofs.rows.put_flight.Given as goal

abbrev pub invariant-loop-drone : goal.invariant-loop-drone
invariant-loop-drone l = (l.out.items ≡ in_windows l.rows l.drone) × (length l.out.items ≤ 4 * l.drone)
