use Rattle.upload_core.proofs.Prelude.{◌≡◌, ◌≤◌, ◌==◌, not, take, filter, length}
use Rattle.upload_core.proofs.row.without.Given as goal

abbrev pub invariant-loop-entry : goal.invariant-loop-entry
invariant-loop-entry l =
    (l.left.items ≡ filter (λ e. not (e.packet == l.k)) (take l.entry-index l.entries)) × (length l.left.items ≤ l.entry-index)
