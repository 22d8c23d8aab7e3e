use Rattle.pair_search.proofs.Prelude.{◌≡◌, ◌≢◌, ℕ, ◌^◌, ◌<◌, ℤ, pos, ◌+ℤ◌, ◌*ℤ◌, ◌≤ℤ◌, arith, rules, refl, subst, ap, ◌∙◌, List, replicate, FitsSigned, to_z, of_z, below_more, lit<, ints, to_z-of_z, w32, w64, w128, at, IsBelow, below_at, direction_of, threshold, weights, slack_of}
use Rattle.pair_search.proofs.LaneLemmas.{kept_lane, long_fits, low_fits, new_lane, ones_small, small_lane, weight_fits, zeros}
use Rattle.pair_search.proofs.lanes.lanes_of.Goals as goal

pub loop-i-init : goal.loop-i-init
loop-i-init g c = record {
  x_long = refl;
  y_long = refl;
  z_long = refl;
  low_long = refl;
  small = λ j few. record { x = zero 4001 j (lit< tt); y = zero 4001 j (lit< tt); z = zero 4001 j (lit< tt); low = ones_small (2 ^ 29) 112 j (lit< tt) };
  done = λ j none. absurd (omega arith);
}
  where
    zero : (n j : ℕ) → 0 < n → IsBelow n (at (replicate 112 (pos 0)) j)
    zero n j some = rw (zeros 112 j) (omega (arith, ints), omega (arith, ints))

pub lane_weight-requires : goal.lane_weight-requires
lane_weight-requires g c =
    let small : IsBelow 4001 (at c.weights_along-w.result 0) = below_at 4001 c.weights_along-w.result 0 (lit< tt) c.weights_along-w.ensures.small in
    rw (to_z-of_z w64 (at c.weights_along-w.result 0) (long_fits _ small)) small

pub lane_weight-requires-in-loop-i : goal.lane_weight-requires-in-loop-i
lane_weight-requires-in-loop-i g c =
    let small : IsBelow 4001 (at c.weights_along-w.result 1) = below_at 4001 c.weights_along-w.result 1 (lit< tt) c.weights_along-w.ensures.small in
    rw (to_z-of_z w64 (at c.weights_along-w.result 1) (long_fits _ small)) small

pub lane_weight-requires-in-loop-i-2 : goal.lane_weight-requires-in-loop-i-2
lane_weight-requires-in-loop-i-2 g c =
    let small : IsBelow 4001 (at c.weights_along-w.result 2) = below_at 4001 c.weights_along-w.result 2 (lit< tt) c.weights_along-w.ensures.small in
    rw (to_z-of_z w64 (at c.weights_along-w.result 2) (long_fits _ small)) small

pub loop-i-preserved : goal.loop-i-preserved
loop-i-preserved g c =
    let w : List ℤ = c.weights_along-w.result in
    let a : IsBelow 4001 (at w 0) = below_at 4001 w 0 (lit< tt) c.weights_along-w.ensures.small in
    let b : IsBelow 4001 (at w 1) = below_at 4001 w 1 (lit< tt) c.weights_along-w.ensures.small in
    let d : IsBelow 4001 (at w 2) = below_at 4001 w 2 (lit< tt) c.weights_along-w.ensures.small in
    let a_fits : FitsSigned w64 (at w 0) = long_fits _ a in
    let b_fits : FitsSigned w64 (at w 1) = long_fits _ b in
    let d_fits : FitsSigned w64 (at w 2) = long_fits _ d in
    let x : c.lane_weight.result ≡ at w 0 = simp to_z-of_z at c.lane_weight.ensures in
    let y : c.lane_weight-in-loop-i.result ≡ at w 1 = simp to_z-of_z at c.lane_weight-in-loop-i.ensures in
    let z : c.lane_weight-in-loop-i-2.result ≡ at w 2 = simp to_z-of_z at c.lane_weight-in-loop-i-2.ensures in
    let x_is : to_z w32 (of_z w32 c.lane_weight.result) ≡ at w 0 = ap (λ (v : ℤ). to_z w32 (of_z w32 v)) x ∙ to_z-of_z w32 (at w 0) (weight_fits _ a) in
    let y_is : to_z w32 (of_z w32 c.lane_weight-in-loop-i.result) ≡ at w 1 = ap (λ (v : ℤ). to_z w32 (of_z w32 v)) y ∙ to_z-of_z w32 (at w 1) (weight_fits _ b) in
    let z_is : to_z w32 (of_z w32 c.lane_weight-in-loop-i-2.result) ≡ at w 2 = ap (λ (v : ℤ). to_z w32 (of_z w32 v)) z ∙ to_z-of_z w32 (at w 2) (weight_fits _ d) in
    let low_is : to_z w32 (of_z w32 c.low_of.result) ≡ c.low_of.result = to_z-of_z w32 c.low_of.result (low_fits _ c.low_of.ensures.small) in
    let t_fits : FitsSigned w128 c.threshold_along.result = search rules in
    let inside : c.loop-i.i < 112 = omega (arith, c.loop-i-test.true, c.count-i-end.ensures.few) in
    let n : List ℤ = direction_of c.args.ruler.now.directions c.loop-i.i in
    let reach : (pos 16384 *ℤ (c.low_of.result +ℤ slack_of (weights n c.args.ruler.now.clearance.r c.args.ruler.now.clearance.h))) ≤ℤ (pos 5040 *ℤ threshold c.args.ruler.now.clearance n) =
    subst (λ (v : List ℤ). (pos 16384 *ℤ (c.low_of.result +ℤ slack_of v)) ≤ℤ (pos 5040 *ℤ threshold c.args.ruler.now.clearance n)) c.weights_along-w.ensures.exact
    (subst (λ (t : ℤ). (pos 16384 *ℤ (c.low_of.result +ℤ slack_of w)) ≤ℤ (pos 5040 *ℤ t)) c.threshold_along.ensures.exact (simp to_z-of_z at c.low_of.ensures.reach)) in
    record {
      x_long = search rules;
      y_long = search rules;
      z_long = search rules;
      low_long = search rules;
      small = λ j few. rw (x_is, y_is, z_is, low_is)
          (small_lane c.loop-i.lanes c.loop-i.i j (at w 0) (at w 1) (at w 2) c.low_of.result c.loop-i.invariant.x_long c.loop-i.invariant.y_long c.loop-i.invariant.z_long c.loop-i.invariant.low_long inside
          a b d c.low_of.ensures.small (c.loop-i.invariant.small j few));
      done = below_more _ _
          (λ j less. let ne : j ≢ c.loop-i.i = omega (arith, less) in kept_lane c.args.ruler.now.clearance (direction_of c.args.ruler.now.directions j) c.loop-i.lanes c.loop-i.i j _ _ _ _ ne (c.loop-i.invariant.done j less))
          (rw (x_is, y_is, z_is, low_is)
          (new_lane c.args.ruler.now.clearance n c.loop-i.lanes c.loop-i.i (at w 0) (at w 1) (at w 2) c.low_of.result
          c.loop-i.invariant.x_long c.loop-i.invariant.y_long c.loop-i.invariant.z_long c.loop-i.invariant.low_long inside
          (ap (λ (v : List ℤ). at v 0) c.weights_along-w.ensures.exact) (ap (λ (v : List ℤ). at v 1) c.weights_along-w.ensures.exact) (ap (λ (v : List ℤ). at v 2) c.weights_along-w.ensures.exact) reach));
    }
