use Rattle.speed_bound.proofs.Prelude.{◌≡◌, ◌<◌, ◌^◌, traj_at, greatest_below, speed}
use Rattle.speed_bound.proofs.reaching.reach_on.Given as goal

abbrev pub invariant-loop-t : goal.invariant-loop-t
invariant-loop-t l = record {
  exact : l.fastest ≡ greatest_below l.t-index (λ drone. speed l.depth (traj_at l.trajs drone) l.axis);
  small : l.fastest < 2 ^ 50;
}
