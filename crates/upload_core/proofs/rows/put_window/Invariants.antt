use Rattle.upload_core.proofs.Prelude.{◌≡◌, ◌≤◌, ◌+◌, ◌++◌, length, take, sent_to, packets_in}
use Rattle.upload_core.proofs.rows.put_window.Given as goal

abbrev pub invariant-loop-entry : goal.invariant-loop-entry
invariant-loop-entry l =
    (l.out.items ≡ l.fn.out.items ++ sent_to l.drone (packets_in (take l.entry-index l.entries))) × (length l.out.items ≤ length l.fn.out.items + l.entry-index)
