use Rattle.pair_search.proofs.Prelude.{arith, to_z-of_z, w32}
use Rattle.pair_search.proofs.LaneLemmas.{point_fits, point_of_rows, row_fits, row_within}
use Rattle.pair_search.proofs.lanes.whole_point_at.Goals as goal

pub whole_stepped-requires : goal.whole_stepped-requires
whole_stepped-requires c = record { value = rw (to_z-of_z w32 _ (row_fits _ (row_within c.rows-rows.result.now c.args.diff.now 0 c.args.k c.rows-rows.ensures c.raised_law.ensures.axes (omega arith) c.raised_law.ensures.values))) (row_within c.rows-rows.result.now c.args.diff.now 0 c.args.k c.rows-rows.ensures c.raised_law.ensures.axes (omega arith) c.raised_law.ensures.values) }

pub whole_stepped-requires-2 : goal.whole_stepped-requires-2
whole_stepped-requires-2 c = record { value = rw (to_z-of_z w32 _ (row_fits _ (row_within c.rows-rows.result.now c.args.diff.now 1 c.args.k c.rows-rows.ensures c.raised_law.ensures.axes (omega arith) c.raised_law.ensures.values))) (row_within c.rows-rows.result.now c.args.diff.now 1 c.args.k c.rows-rows.ensures c.raised_law.ensures.axes (omega arith) c.raised_law.ensures.values) }

pub whole_stepped-requires-3 : goal.whole_stepped-requires-3
whole_stepped-requires-3 c = record { value = rw (to_z-of_z w32 _ (row_fits _ (row_within c.rows-rows.result.now c.args.diff.now 2 c.args.k c.rows-rows.ensures c.raised_law.ensures.axes (omega arith) c.raised_law.ensures.values))) (row_within c.rows-rows.result.now c.args.diff.now 2 c.args.k c.rows-rows.ensures c.raised_law.ensures.axes (omega arith) c.raised_law.ensures.values) }

pub returns-clause-point : goal.returns-clause-point
returns-clause-point c =
    rw (to_z-of_z w32 c.whole_stepped.result (point_fits _ c.whole_stepped.ensures.small), to_z-of_z w32 c.whole_stepped-2.result (point_fits _ c.whole_stepped-2.ensures.small), to_z-of_z w32 c.whole_stepped-3.result (point_fits _ c.whole_stepped-3.ensures.small))
    (point_of_rows c.rows-rows.result.now c.args.diff.now c.args.k c.whole_stepped.result c.whole_stepped-2.result c.whole_stepped-3.result c.rows-rows.ensures
    (rw (to_z-of_z w32 _ (row_fits _ (row_within c.rows-rows.result.now c.args.diff.now 0 c.args.k c.rows-rows.ensures c.raised_law.ensures.axes (omega arith) c.raised_law.ensures.values))) at c.whole_stepped.ensures.floor)
    (rw (to_z-of_z w32 _ (row_fits _ (row_within c.rows-rows.result.now c.args.diff.now 1 c.args.k c.rows-rows.ensures c.raised_law.ensures.axes (omega arith) c.raised_law.ensures.values))) at c.whole_stepped-2.ensures.floor)
    (rw (to_z-of_z w32 _ (row_fits _ (row_within c.rows-rows.result.now c.args.diff.now 2 c.args.k c.rows-rows.ensures c.raised_law.ensures.axes (omega arith) c.raised_law.ensures.values))) at c.whole_stepped-3.ensures.floor))
