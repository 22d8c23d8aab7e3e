use Rattle.show_plan.proofs.Prelude.{◌≡◌, map, take, load_for}
use Rattle.show_plan.proofs.upload.loads_of.Given as goal

-- the loads so far
abbrev pub invariant-loop-t : goal.invariant-loop-t
invariant-loop-t l = l.loads.items ≡ map load_for (take l.t-index l.trajs)
