use Rattle.show_verify.proofs.Prelude.{◌≡◌, ◌≤◌, take, feeds}
use Rattle.show_verify.proofs.verifying.feeds.Given as goal

abbrev pub invariant-loop-b : goal.invariant-loop-b
invariant-loop-b l = (l.count ≡ feeds (take l.b-index l.bytes)) × (l.count ≤ l.b-index)
