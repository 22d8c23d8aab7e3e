use Rattle.pair_search.proofs.Prelude.{common_steps, ◌≡◌, ◌*ℤ◌, ◌+ℤ◌, ◌∙◌, FitsSigned, refl, arith, to_z-of_z, w32, at, lane_value}
use Rattle.pair_search.proofs.LaneLemmas.{lane_fits, lane_sum, point_fits, weight_fits}
use Rattle.pair_search.proofs.lanes.lane_at.Goals as goal

pub lane_times-requires-2-clause-weight : goal.lane_times-requires-2-clause-weight
lane_times-requires-2-clause-weight c =
    let small = (c.requires.lanes c.args.i c.requires.place).y in
    rw (to_z-of_z w32 (at c.args.lanes.now.y c.args.i) (weight_fits _ small)) small

pub lane_times-requires-3-clause-weight : goal.lane_times-requires-3-clause-weight
lane_times-requires-3-clause-weight c =
    let small = (c.requires.lanes c.args.i c.requires.place).z in
    rw (to_z-of_z w32 (at c.args.lanes.now.z c.args.i) (weight_fits _ small)) small

pub overflow_add-result : goal.overflow_add-result
overflow_add-result c = grind (arith, common_steps, lane_fits, to_z-of_z, lane_sum)

pub overflow_add-result-2 : goal.overflow_add-result-2
overflow_add-result-2 c = grind (arith, common_steps, lane_fits, lane_sum, to_z-of_z)

pub returns-clause-exact : goal.returns-clause-exact
returns-clause-exact c =
    let x_fits : FitsSigned w32 c.lane_times.result = lane_fits _ c.lane_times.ensures.small in
    let y_fits : FitsSigned w32 c.lane_times-2.result = lane_fits _ c.lane_times-2.ensures.small in
    let z_fits : FitsSigned w32 c.lane_times-3.result = lane_fits _ c.lane_times-3.ensures.small in
    let told = lane_sum _ _ _ c.lane_times.ensures.small c.lane_times-2.ensures.small c.lane_times-3.ensures.small in
    let lane = c.requires.lanes c.args.i c.requires.place in
    let a_fits : FitsSigned w32 (at c.args.lanes.now.x c.args.i) = weight_fits _ lane.x in
    let b_fits : FitsSigned w32 (at c.args.lanes.now.y c.args.i) = weight_fits _ lane.y in
    let c_fits : FitsSigned w32 (at c.args.lanes.now.z c.args.i) = weight_fits _ lane.z in
    let p_fits : FitsSigned w32 c.args.p.now.x = point_fits _ c.requires.point.x in
    let q_fits : FitsSigned w32 c.args.p.now.y = point_fits _ c.requires.point.y in
    let r_fits : FitsSigned w32 c.args.p.now.z = point_fits _ c.requires.point.z in
    let x : c.lane_times.result ≡ at c.args.lanes.now.x c.args.i *ℤ c.args.p.now.x = simp to_z-of_z at c.lane_times.ensures.exact in
    let y : c.lane_times-2.result ≡ at c.args.lanes.now.y c.args.i *ℤ c.args.p.now.y = simp to_z-of_z at c.lane_times-2.ensures.exact in
    let z : c.lane_times-3.result ≡ at c.args.lanes.now.z c.args.i *ℤ c.args.p.now.z = simp to_z-of_z at c.lane_times-3.ensures.exact in
    let sum : c.lane_times.result +ℤ c.lane_times-2.result +ℤ c.lane_times-3.result ≡ lane_value c.args.lanes.now c.args.p.now c.args.i = rw (x, y, z) refl in
    rw (to_z-of_z w32 c.lane_times.result x_fits, to_z-of_z w32 c.lane_times-2.result y_fits, to_z-of_z w32 c.lane_times-3.result z_fits, to_z-of_z w32 (c.lane_times.result +ℤ c.lane_times-2.result) told.0)
    (to_z-of_z w32 (c.lane_times.result +ℤ c.lane_times-2.result +ℤ c.lane_times-3.result) told.1 ∙ sum)

pub returns-clause-small : goal.returns-clause-small
returns-clause-small c =
    let x_fits : FitsSigned w32 c.lane_times.result = lane_fits _ c.lane_times.ensures.small in
    let y_fits : FitsSigned w32 c.lane_times-2.result = lane_fits _ c.lane_times-2.ensures.small in
    let z_fits : FitsSigned w32 c.lane_times-3.result = lane_fits _ c.lane_times-3.ensures.small in
    let told = lane_sum _ _ _ c.lane_times.ensures.small c.lane_times-2.ensures.small c.lane_times-3.ensures.small in
    grind (arith, common_steps, to_z-of_z)
