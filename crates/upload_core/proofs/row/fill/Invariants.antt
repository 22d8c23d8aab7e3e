use Rattle.upload_core.proofs.Prelude.{◌≡◌, ◌≤◌, ◌-◌, ◌++◌, map, length, range_with_len, fresh}
use Rattle.upload_core.proofs.row.fill.Given as goal

abbrev pub invariant-loop-k : goal.invariant-loop-k
invariant-loop-k l = (l.window.items ≡ l.fn.window.items ++ map fresh (range_with_len l.next (l.k - l.next))) × (length l.window.items ≤ 4)
