use Rattle.upload_core.proofs.Prelude.{◌≡◌, ◌≤◌, ◌++◌, ℕ, map, take, drop, row_at, older_row}
use Rattle.upload_core.proofs.rows.age.Given as goal

abbrev pub invariant-loop-i : goal.invariant-loop-i
invariant-loop-i l = record {
  older : l.rows ≡ map older_row (take l.i l.fn.rows) ++ drop l.i l.fn.rows;
  rest : (d : ℕ) → l.i ≤ d → row_at l.rows d ≡ row_at l.fn.rows d;
}
