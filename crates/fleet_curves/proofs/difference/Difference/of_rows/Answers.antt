use Rattle.fleet_curves.proofs.Prelude.{rules, ◌≡◌, length}
use Rattle.fleet_curves.proofs.Rows.{rows_raised}
use Rattle.fleet_curves.proofs.difference.Difference.of_rows.Goals as goal

pub invariant_of-result : goal.invariant_of-result
invariant_of-result c = let three : length c.args.rows ≡ 3 = search rules in rows_raised c.args.rows three c.sizes_law.ensures c.requires
