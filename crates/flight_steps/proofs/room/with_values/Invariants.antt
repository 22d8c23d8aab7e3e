use Rattle.flight_steps.proofs.Prelude.{◌≡◌, drop, with_more}
use Rattle.flight_steps.proofs.room.with_values.Given as goal

abbrev pub invariant-loop-v : goal.invariant-loop-v
invariant-loop-v l = with_more l.all (drop l.v-index l.vs) ≡ with_more l.fn.s l.vs
