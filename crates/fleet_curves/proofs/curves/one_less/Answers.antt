use Rattle.fleet_curves.proofs.Prelude.{rules, ◌≡◌, ◌^◌, length, sym, subst, All, List, ℤ, arith, Bez, IsBelow, curves_of}
use Rattle.fleet_curves.proofs.Differences.{less_small}
use Rattle.fleet_curves.proofs.Rows.{controls_row, rows_less, small_row}
use Rattle.fleet_curves.proofs.curves.one_less.Goals as goal

pub returns-clause-exact : goal.returns-clause-exact
returns-clause-exact c =
    let upper : length c.args.second.now ≡ 3 = search rules in
    let lower : length c.args.first.now ≡ 3 = search rules in
    rows_less c.args.second.now c.args.first.now c.args.axis _ _ (record { b = c.row_less.result }) (omega (arith, upper, c.requires.axis)) (omega (arith, lower, c.requires.axis)) c.row_less.ensures

pub returns-clause-small : goal.returns-clause-small
returns-clause-small c =
    subst (λ (curve : Bez 8). All (IsBelow (2 ^ 30)) curve.b) (sym (returns-clause-exact c))
    (less_small (curves_of c.args.second.now) (curves_of c.args.first.now) c.args.axis c.requires.second c.requires.first)

pub row_less-requires-clause-second : goal.row_less-requires-clause-second
row_less-requires-clause-second c =
    subst (λ (row : List ℤ). All (IsBelow (2 ^ 28)) row) (controls_row c.args.second.now c.args.axis)
    (small_row c.args.second.now c.args.axis (omega (arith, c.told-second, c.requires.axis)) c.requires.second)

pub row_less-requires-clause-first : goal.row_less-requires-clause-first
row_less-requires-clause-first c =
    subst (λ (row : List ℤ). All (IsBelow (2 ^ 28)) row) (controls_row c.args.first.now c.args.axis)
    (small_row c.args.first.now c.args.axis (omega (arith, c.told-first, c.requires.axis)) c.requires.first)
