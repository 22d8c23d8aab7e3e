use Rattle.show_plan.proofs.Prelude.{◌≡◌, map, take, joined}
use Rattle.show_plan.proofs.fitting.joined_all.Given as goal

-- those so far
abbrev pub invariant-loop-t : goal.invariant-loop-t
invariant-loop-t l = l.sent.items ≡ map joined (take l.t-index l.trajs)
