use Rattle.pair_search.proofs.Prelude.{common_steps, rules, subst, FitsSigned, ℕ, pos, arith, to_z-of_z, w32, w64, w128, IsWithin, IsFloor, steps_of}
use Rattle.pair_search.proofs.LaneLemmas.{floor_small, point_fits, value_short}
use Rattle.pair_search.proofs.lanes.stepped.Goals.{After-floor_by, After-floor_short}
use Rattle.pair_search.proofs.lanes.stepped.Goals as goal

short_floor : (c : After-floor_short) → IsFloor (steps_of c.args.depth) c.args.value c.floor_short.result
short_floor c = grind (arith, common_steps, value_short, to_z-of_z)

wide_floor : (c : After-floor_by) → IsFloor (steps_of c.args.depth) c.args.value c.floor_by.result
wide_floor c =
    let v_wide : FitsSigned w128 c.args.value = c.ranges.value in
    subst (λ (times : ℕ). IsFloor times c.args.value c.floor_by.result) c.steps_of-times.ensures (simp to_z-of_z at c.floor_by.ensures)

short_small : (c : After-floor_short) → IsWithin (pos 65536) c.floor_short.result
short_small c = floor_small c.args.depth c.args.value c.floor_short.result c.requires.value (short_floor c)

wide_small : (c : After-floor_by) → IsWithin (pos 65536) c.floor_by.result
wide_small c = floor_small c.args.depth c.args.value c.floor_by.result c.requires.value (wide_floor c)

pub overflow_cast-result : goal.overflow_cast-result
overflow_cast-result c =
    let fits : FitsSigned w64 c.floor_short.result = search rules in
    rw (to_z-of_z w64 c.floor_short.result fits) (point_fits _ (short_small c))

pub overflow_cast-result-else-levels-le4 : goal.overflow_cast-result-else-levels-le4
overflow_cast-result-else-levels-le4 c =
    let fits : FitsSigned w128 c.floor_by.result = search rules in
    rw (to_z-of_z w128 c.floor_by.result fits) (point_fits _ (wide_small c))

pub returns-then-levels-le4-clause-floor : goal.returns-then-levels-le4-clause-floor
returns-then-levels-le4-clause-floor c =
    let fits : FitsSigned w64 c.floor_short.result = search rules in
    let few : FitsSigned w32 c.floor_short.result = point_fits _ (short_small c) in
    rw (to_z-of_z w64 c.floor_short.result fits, to_z-of_z w32 c.floor_short.result few) (short_floor c)

pub returns-then-levels-le4-clause-small : goal.returns-then-levels-le4-clause-small
returns-then-levels-le4-clause-small c = grind (arith, common_steps, point_fits, short_small, to_z-of_z)

pub returns-else-levels-le4-clause-floor : goal.returns-else-levels-le4-clause-floor
returns-else-levels-le4-clause-floor c = grind (arith, common_steps, point_fits, wide_small, to_z-of_z, wide_floor)

pub returns-else-levels-le4-clause-small : goal.returns-else-levels-le4-clause-small
returns-else-levels-le4-clause-small c = grind (arith, common_steps, point_fits, wide_small, to_z-of_z)
