use Rattle.upload_core.proofs.Prelude.{◌≡◌, ◌≤◌, ◌++◌, ℕ, map, take, drop, get_or, older}
use Rattle.upload_core.proofs.row.age.Given as goal

abbrev pub invariant-loop-i : goal.invariant-loop-i
invariant-loop-i l = record {
  older : l.entries ≡ map older (take l.i l.fn.entries) ++ drop l.i l.fn.entries;
  rest : (j : ℕ) → l.i ≤ j → get_or l.entries j (record { packet = 0; ticks = 0 }) ≡ get_or l.fn.entries j (record { packet = 0; ticks = 0 });
}
