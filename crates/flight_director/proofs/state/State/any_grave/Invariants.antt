use Rattle.flight_director.proofs.Prelude.{◌≡◌, drop, list_any, Note, is_grave}
use Rattle.flight_director.proofs.state.State.any_grave.Given as goal

abbrev pub invariant-loop-n : goal.invariant-loop-n
invariant-loop-n l = list_any (λ (n : Note). is_grave l.f l.self n.fault) (drop l.n-index l.notes) ≡ list_any (λ (n : Note). is_grave l.f l.self n.fault) l.notes
