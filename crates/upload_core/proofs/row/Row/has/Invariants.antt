use Rattle.upload_core.proofs.Prelude.{◌≡◌, drop, packets_in, among}
use Rattle.upload_core.proofs.row.Row.has.Given as goal

abbrev pub invariant-loop-entry : goal.invariant-loop-entry
invariant-loop-entry l = among (packets_in (drop l.entry-index l.self.window.items)) l.k ≡ among (packets_in l.self.window.items) l.k
