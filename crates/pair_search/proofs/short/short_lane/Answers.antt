use Rattle.pair_search.proofs.Prelude.{ℤ, pos, neg_ℤ, ◌+ℤ◌, ◌*ℤ◌, ◌<ℤ◌, ◌≤ℤ◌, ◌≡◌, subst, arith, ints, rules, FitsSigned, IsBelow, ◌^◌, to_z-of_z, at, w16, w32, w64, CancelAt, short_low}
use Rattle.pair_search.proofs.LaneLemmas.{weight_fits}
use Rattle.pair_search.proofs.ShortLemmas.{lane_told}
use Rattle.pair_search.proofs.short.short_lane.Goals as goal

pub returns : goal.returns
returns c =
    let l = c.args.lanes.now in
    let i = c.args.i in
    let g : ℤ = c.times_of-times.result in
    let few : (pos 0 ≤ℤ g) × (g ≤ℤ pos 21840) = c.times_of-times.ensures.few in
    let lane = c.requires.lanes i c.requires.i in
    let x_fits : FitsSigned w16 c.weight_times.result = search rules in
    let y_fits : FitsSigned w16 c.weight_times-2.result = search rules in
    let z_fits : FitsSigned w16 c.weight_times-3.result = search rules in
    let low_fits : FitsSigned w16 c.rough_low.result = search rules in
    let high_fits : FitsSigned w16 c.rough_high_of.result = search rules in
    let g_fits : FitsSigned w32 g = omega (arith, ints) in
    let small : IsBelow (2 ^ 33) c.short_low.result = c.short_low.ensures.small in
    let reach_fits : FitsSigned w64 c.short_low.result = omega (arith, ints) in
    let a_fits : FitsSigned w32 (at l.x i) = weight_fits _ lane.x in
    let b_fits : FitsSigned w32 (at l.y i) = weight_fits _ lane.y in
    let d_fits : FitsSigned w32 (at l.z i) = weight_fits _ lane.z in
    let x : c.weight_times.result ≡ at l.x i *ℤ g = simp to_z-of_z at c.weight_times.ensures in
    let y : c.weight_times-2.result ≡ at l.y i *ℤ g = simp to_z-of_z at c.weight_times-2.ensures in
    let z : c.weight_times-3.result ≡ at l.z i *ℤ g = simp to_z-of_z at c.weight_times-3.ensures in
    let low : (v : ℤ) → FitsSigned w16 v → v <ℤ c.rough_low.result → (pos 65536 *ℤ (v +ℤ pos 3)) ≤ℤ (short_low l i *ℤ g) = λ v fits less.
    subst (λ (m : ℤ). (pos 65536 *ℤ (v +ℤ pos 3)) ≤ℤ (m *ℤ g)) c.short_low.ensures.exact
    (rw (to_z-of_z w64 c.short_low.result reach_fits, to_z-of_z w32 g g_fits) at (c.rough_low.ensures v fits less)) in
    let high : (v : ℤ) → FitsSigned w16 v → c.rough_high_of.result <ℤ v → CancelAt l i c.args.j × ((neg_ℤ (short_low l c.args.j) *ℤ g) <ℤ (pos 65536 *ℤ v)) = λ v fits more.
    rw (to_z-of_z w32 g g_fits) at (c.rough_high_of.ensures v fits more) in
    rw (to_z-of_z w16 c.weight_times.result x_fits, to_z-of_z w16 c.weight_times-2.result y_fits, to_z-of_z w16 c.weight_times-3.result z_fits, to_z-of_z w16 c.rough_low.result low_fits, to_z-of_z w16 c.rough_high_of.result high_fits)
    (lane_told l i c.args.j g (record { x = c.weight_times.result; y = c.weight_times-2.result; z = c.weight_times-3.result; low = c.rough_low.result; high = c.rough_high_of.result })
    few.0 x y z c.times_of-times.ensures.x c.times_of-times.ensures.y c.times_of-times.ensures.z low high)
