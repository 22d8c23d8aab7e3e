use Rattle.show_plan.proofs.Prelude.{◌*◌, ◌≤◌}
use Rattle.show_plan.proofs.text.total.Given as goal

-- 4,096 bytes a trajectory at most
abbrev pub invariant-loop-t : goal.invariant-loop-t
invariant-loop-t l = l.total ≤ 4096 * l.t-index
