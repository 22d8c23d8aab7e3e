use Rattle.pair_search.proofs.Prelude.{◌≢◌, ℕ, ℤ, ◌<◌, ◌<ℤ◌, arith, rules, FitsSigned, to_z, of_z, to_z-of_z, w16, at, HasSmallWeights, IsRough, ShortPoint, short_lane_at}
use Rattle.pair_search.proofs.EndLemmas.{set_bytes}
use Rattle.pair_search.proofs.short.short_marks.Goals as goal

pub returns : goal.returns
returns c = record {
  front = λ i few small clear. rw (to_z-of_z w16 c.args.x c.ranges.x, to_z-of_z w16 c.args.y c.ranges.y, to_z-of_z w16 c.args.z c.ranges.z) at (c.loop-i.invariant.front i (omega (arith, few, c.loop-i-test.false)) (c.clear_bytes.ensures i (omega (arith, few)) clear) small);
  back = λ i few small clear. rw (to_z-of_z w16 c.args.x c.ranges.x, to_z-of_z w16 c.args.y c.ranges.y, to_z-of_z w16 c.args.z c.ranges.z) at (c.loop-i.invariant.back i (omega (arith, few, c.loop-i-test.false)) (c.clear_bytes-2.ensures i (omega (arith, few)) clear) small);
}

pub loop-i-preserved : goal.loop-i-preserved
loop-i-preserved c =
    let few : c.loop-i.i < 56 = omega (arith, c.loop-i-test.true) in
    let s = c.args.short.now in
    let p : ShortPoint = record { x = to_z w16 (of_z w16 c.args.x); y = to_z w16 (of_z w16 c.args.y); z = to_z w16 (of_z w16 c.args.z) } in
    let value : ℤ = c.rough_at-value.result in
    let value_fits : FitsSigned w16 value = search rules in
    let low_fits : FitsSigned w16 (at s.low c.loop-i.i) = search rules in
    let high_fits : FitsSigned w16 (at s.high c.loop-i.i) = search rules in
    record {
      front_long = search rules;
      back_long = search rules;
      front = set_bytes (λ (k b : ℕ). b ≢ 0 → HasSmallWeights (short_lane_at s k) → (v : ℤ) × IsRough (short_lane_at s k) p v × (v <ℤ at s.low k)) c.loop-i.front c.loop-i.i c.is_less.result
          (omega (arith, few, c.loop-i.invariant.front_long))
          (λ some small. (value, c.rough_at-value.ensures small, rw (to_z-of_z w16 value value_fits, to_z-of_z w16 (at s.low c.loop-i.i) low_fits) at (c.is_less.ensures some)))
          c.loop-i.invariant.front;
      back = set_bytes (λ (k b : ℕ). b ≢ 0 → HasSmallWeights (short_lane_at s k) → (v : ℤ) × IsRough (short_lane_at s k) p v × (at s.high k <ℤ v)) c.loop-i.back c.loop-i.i c.is_less-in-loop-i.result
          (omega (arith, few, c.loop-i.invariant.back_long))
          (λ some small. (value, c.rough_at-value.ensures small, rw (to_z-of_z w16 value value_fits, to_z-of_z w16 (at s.high c.loop-i.i) high_fits) at (c.is_less-in-loop-i.ensures some)))
          c.loop-i.invariant.back;
    }
