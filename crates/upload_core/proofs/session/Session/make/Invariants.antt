use Rattle.upload_core.proofs.Prelude.{◌≡◌, take}
use Rattle.upload_core.proofs.session.Session.make.Given as goal

abbrev pub invariant-loop-load : goal.invariant-loop-load
invariant-loop-load l = l.copies.items ≡ take l.load-index l.loads.items
