use Rattle.pair_search.proofs.Prelude.{arith, rules, FitsSigned, to_z-of_z, w32, w64}
use Rattle.pair_search.proofs.LaneLemmas.{row_fits, row_within}
use Rattle.pair_search.proofs.ShortLemmas.{short_point_of_rows}
use Rattle.pair_search.proofs.short.whole_short_point_at.Goals as goal

pub whole_short_stepped-requires : goal.whole_short_stepped-requires
whole_short_stepped-requires c = rw (to_z-of_z w32 _ (row_fits _ (row_within c.rows-rows.result.now c.args.diff.now 0 c.args.k c.rows-rows.ensures c.raised_law.ensures.axes (omega arith) c.raised_law.ensures.values))) (row_within c.rows-rows.result.now c.args.diff.now 0 c.args.k c.rows-rows.ensures c.raised_law.ensures.axes (omega arith) c.raised_law.ensures.values)

pub whole_short_stepped-requires-2 : goal.whole_short_stepped-requires-2
whole_short_stepped-requires-2 c = rw (to_z-of_z w32 _ (row_fits _ (row_within c.rows-rows.result.now c.args.diff.now 1 c.args.k c.rows-rows.ensures c.raised_law.ensures.axes (omega arith) c.raised_law.ensures.values))) (row_within c.rows-rows.result.now c.args.diff.now 1 c.args.k c.rows-rows.ensures c.raised_law.ensures.axes (omega arith) c.raised_law.ensures.values)

pub whole_short_stepped-requires-3 : goal.whole_short_stepped-requires-3
whole_short_stepped-requires-3 c = rw (to_z-of_z w32 _ (row_fits _ (row_within c.rows-rows.result.now c.args.diff.now 2 c.args.k c.rows-rows.ensures c.raised_law.ensures.axes (omega arith) c.raised_law.ensures.values))) (row_within c.rows-rows.result.now c.args.diff.now 2 c.args.k c.rows-rows.ensures c.raised_law.ensures.axes (omega arith) c.raised_law.ensures.values)

pub returns : goal.returns
returns c =
    let x_fits : FitsSigned w64 c.whole_short_stepped.result = search rules in
    let y_fits : FitsSigned w64 c.whole_short_stepped-2.result = search rules in
    let z_fits : FitsSigned w64 c.whole_short_stepped-3.result = search rules in
    short_point_of_rows c.rows-rows.result.now c.args.diff.now c.args.k c.whole_short_stepped.result c.whole_short_stepped-2.result c.whole_short_stepped-3.result c.short_point.result c.rows-rows.ensures
    (rw (to_z-of_z w64 c.whole_short_stepped.result x_fits, to_z-of_z w64 c.whole_short_stepped-2.result y_fits, to_z-of_z w64 c.whole_short_stepped-3.result z_fits) at c.short_point.ensures)
    (rw (to_z-of_z w32 _ (row_fits _ (row_within c.rows-rows.result.now c.args.diff.now 0 c.args.k c.rows-rows.ensures c.raised_law.ensures.axes (omega arith) c.raised_law.ensures.values))) at c.whole_short_stepped.ensures)
    (rw (to_z-of_z w32 _ (row_fits _ (row_within c.rows-rows.result.now c.args.diff.now 1 c.args.k c.rows-rows.ensures c.raised_law.ensures.axes (omega arith) c.raised_law.ensures.values))) at c.whole_short_stepped-2.ensures)
    (rw (to_z-of_z w32 _ (row_fits _ (row_within c.rows-rows.result.now c.args.diff.now 2 c.args.k c.rows-rows.ensures c.raised_law.ensures.axes (omega arith) c.raised_law.ensures.values))) at c.whole_short_stepped-3.ensures)
