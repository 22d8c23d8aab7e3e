use Rattle.pair_search.proofs.Prelude.{◌^◌, ◌<◌, arith, subst, All, List, ℤ, ℕ, length, get_or, [], IsBelow, curves_of, controls_row, small_row}
use Rattle.fleet_curves.specs.Steps.{AreSmallCurves}
use Rattle.pair_search.proofs.Reaches.{extent_made}
use Rattle.pair_search.proofs.extents.extent_of.Goals as goal

-- the values of one of the rows
row_small : (rows : List (List ℤ)) (axis : ℕ) → axis < length rows → AreSmallCurves (curves_of rows) → All (IsBelow (2 ^ 28)) (get_or rows axis [])
row_small rows axis inside small = subst (λ (row : List ℤ). All (IsBelow (2 ^ 28)) row) (controls_row rows axis) (small_row rows axis inside small)

pub least-requires : goal.least-requires
least-requires c = row_small c.args.rows.now 0 (omega (arith, c.told-rows)) c.requires.values

pub least-requires-2 : goal.least-requires-2
least-requires-2 c = row_small c.args.rows.now 1 (omega (arith, c.told-rows)) c.requires.values

pub least-requires-3 : goal.least-requires-3
least-requires-3 c = row_small c.args.rows.now 2 (omega (arith, c.told-rows)) c.requires.values

pub greatest-requires : goal.greatest-requires
greatest-requires c = row_small c.args.rows.now 0 (omega (arith, c.told-rows)) c.requires.values

pub greatest-requires-2 : goal.greatest-requires-2
greatest-requires-2 c = row_small c.args.rows.now 1 (omega (arith, c.told-rows)) c.requires.values

pub greatest-requires-3 : goal.greatest-requires-3
greatest-requires-3 c = row_small c.args.rows.now 2 (omega (arith, c.told-rows)) c.requires.values

pub returns : goal.returns
returns c =
    extent_made c.least.result c.least-2.result c.least-3.result c.greatest.result c.greatest-2.result c.greatest-3.result
    c.least.ensures.small c.least-2.ensures.small c.least-3.ensures.small c.greatest.ensures.small c.greatest-2.ensures.small c.greatest-3.ensures.small
    c.args.rows.now c.least.ensures.below c.least-2.ensures.below c.least-3.ensures.below c.greatest.ensures.above c.greatest-2.ensures.above c.greatest-3.ensures.above
