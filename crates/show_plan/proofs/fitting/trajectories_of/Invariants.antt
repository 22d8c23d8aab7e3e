use Rattle.show_plan.proofs.Prelude.{◌≡◌, ℕ, ◌<◌, All, take, IsTrajectory, FitsDrone, by_cue}
use Rattle.show_plan.proofs.fitting.trajectories_of.Given as goal

-- the trajectories so far
abbrev pub invariant-loop-d : goal.invariant-loop-d
invariant-loop-d l = record {
  so_far : l.trajs.items ≡ take l.d (by_cue l.grid);
  formed : All IsTrajectory l.trajs.items;
  fit : (k : ℕ) → k < l.d → FitsDrone l.grid k;
}
