use Rattle.show_plan.proofs.Prelude.{◌≡◌, drop, first_unsendable}
use Rattle.show_plan.proofs.fitting.first_unsendable.Given as goal

-- the trajectories so far can be sent
abbrev pub invariant-loop-d : goal.invariant-loop-d
invariant-loop-d l = first_unsendable l.room 0 l.trajs ≡ first_unsendable l.room l.d (drop l.d l.trajs)
