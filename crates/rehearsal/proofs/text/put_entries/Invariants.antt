use Rattle.rehearsal.proofs.Prelude.{◌≡◌, ◌++◌, drop, entry_lines}
use Rattle.rehearsal.proofs.text.put_entries.Given as goal

abbrev pub invariant-loop-id : goal.invariant-loop-id
invariant-loop-id l = l.text ++ entry_lines l.id (drop l.id l.table) ≡ l.initial.text ++ entry_lines 0 l.table
