use Rattle.upload_core.proofs.Prelude.{◌≡◌, ◌<◌, ℕ, length, row_at, IsStarting}
use Rattle.upload_core.proofs.rows.first_rows.Given as goal

abbrev pub invariant-loop-drone : goal.invariant-loop-drone
invariant-loop-drone l = record {
  len : length l.rows.items ≡ l.drone;
  each : (d : ℕ) → d < l.drone → IsStarting l.session d (row_at l.rows.items d);
}
