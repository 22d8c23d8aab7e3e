use Rattle.upload_core.proofs.Prelude.{◌≡◌, ◌==◌, drop, length, list_all, Row}
use Rattle.upload_core.proofs.rows.is_settled.Given as goal

abbrev pub invariant-loop-row : goal.invariant-loop-row
invariant-loop-row l = list_all (λ (row : Row). length row.window.items == 0) (drop l.row-index l.rows) ≡ list_all (λ (row : Row). length row.window.items == 0) l.rows
