use Rattle.flight_steps.proofs.Prelude.{◌≡◌, take, map, legs_of}
use Rattle.flight_steps.proofs.legs.all_legs.Given as goal

abbrev pub invariant-loop-t : goal.invariant-loop-t
invariant-loop-t l = l.all.items ≡ map legs_of (take l.t-index l.ways)
