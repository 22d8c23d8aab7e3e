use Rattle.fleet_curves.proofs.Prelude.{◌≡◌, take, All, flat_map, Traj, raised_traj, IsFormed, AreSmallCurves, all_curves}
use Rattle.fleet_curves.proofs.curves.Curves.of_slice.Given as goal

abbrev pub invariant-loop-t : goal.invariant-loop-t
invariant-loop-t l = record {
  curves : all_curves l.all.items ≡ flat_map raised_traj (take l.t-index l.trajs);
  formed : All (λ (t : Traj). All IsFormed t.segments) (take l.t-index l.trajs);
  small : All AreSmallCurves (all_curves l.all.items);
}
