use Rattle.upload_core.proofs.Prelude.{◌≡◌, ◌<◌, ◌≤◌, ℕ, length, row_at, marked, counted, RowStands}
use Rattle.upload_core.proofs.rows.begin.Given as goal

abbrev pub invariant-loop-drone : goal.invariant-loop-drone
invariant-loop-drone l = record {
  stands : (d : ℕ) → d < l.drone → RowStands l.session l.phase d (row_at l.rows d);
  marks : (d k : ℕ) → marked l.rows d k ≡ marked l.fn.rows d k;
  counts : (d k : ℕ) → d < l.drone → counted l.rows d k ≡ 0;
  rest : (d : ℕ) → l.drone ≤ d → row_at l.rows d ≡ row_at l.fn.rows d;
  len : length l.rows ≡ length l.fn.rows;
}
