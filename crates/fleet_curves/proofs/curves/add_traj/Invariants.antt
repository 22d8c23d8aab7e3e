use Rattle.fleet_curves.proofs.Prelude.{◌≡◌, ◌++◌, drop, take, All, raised_from, raised_traj, IsFormed, AreSmallCurves, all_curves}
use Rattle.fleet_curves.proofs.curves.add_traj.Given as goal

abbrev pub invariant-loop-s : goal.invariant-loop-s
invariant-loop-s l = record {
  curves : all_curves l.all.items ++ raised_from l.x l.y l.z (drop l.s-index l.s-items) ≡ all_curves l.fn.all.items ++ raised_traj l.t;
  formed : All IsFormed (take l.s-index l.s-items);
  small : All AreSmallCurves (all_curves l.all.items);
}
