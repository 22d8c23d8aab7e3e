use Rattle.flight_director.proofs.Prelude.{◌≡◌, take, map, Noted}
use Rattle.flight_director.proofs.state.put_notes.Given as goal

abbrev pub invariant-loop-n : goal.invariant-loop-n
invariant-loop-n l = l.out.items ≡ map Noted (take l.n-index l.notes)
