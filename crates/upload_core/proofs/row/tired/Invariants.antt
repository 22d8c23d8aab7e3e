use Rattle.upload_core.proofs.Prelude.{◌≡◌, drop, tired_in}
use Rattle.upload_core.proofs.row.tired.Given as goal

abbrev pub invariant-loop-entry : goal.invariant-loop-entry
invariant-loop-entry l = tired_in (drop l.entry-index l.entries) ≡ tired_in l.entries
