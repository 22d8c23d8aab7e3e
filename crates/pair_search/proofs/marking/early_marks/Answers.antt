use Rattle.pair_search.proofs.Prelude.{◌≢◌, ℕ, ◌<◌, ◌^◌, ◌<ℤ◌, ℤ, arith, rules, subst, to_z-of_z, w32, at, IsBelow, lane_value, IsSmallHigh}
use Rattle.pair_search.proofs.EndLemmas.{set_bytes}
use Rattle.pair_search.proofs.LaneLemmas.{low_fits, value_fits}
use Rattle.pair_search.proofs.OppositeLemmas.{high_fits}
use Rattle.pair_search.proofs.marking.early_marks.Goals as goal

pub returns : goal.returns
returns c = record {
  front = λ i from few clear. c.loop-i.invariant.front i (omega (arith, few, c.loop-i-test.false)) (c.clear_of_sixteen.ensures i (omega (arith, few)) clear);
  back = λ i from few clear. c.loop-i.invariant.back i (omega (arith, few, c.loop-i-test.false)) (c.clear_of_sixteen-2.ensures i (omega (arith, few)) clear);
}

pub loop-i-preserved : goal.loop-i-preserved
loop-i-preserved c =
    let few : c.loop-i.i < 16 = omega (arith, c.loop-i-test.true) in
    let low : IsBelow (2 ^ 29) (at c.args.opposites.now.lanes.low c.loop-i.i) = (c.requires.lanes c.loop-i.i (omega (arith, few))).low in
    let high : IsSmallHigh (at c.args.opposites.now.high c.loop-i.i) = c.requires.high c.loop-i.i (omega (arith, few)) in
    record {
      front_long = search rules;
      back_long = search rules;
      front = set_bytes (λ (k b : ℕ). b ≢ 0 → lane_value c.args.opposites.now.lanes c.args.p.now k <ℤ at c.args.opposites.now.lanes.low k) c.loop-i.front c.loop-i.i c.is_low.result
          (omega (arith, few, c.loop-i.invariant.front_long))
          (λ some. subst (λ (z : ℤ). z <ℤ at c.args.opposites.now.lanes.low c.loop-i.i) c.lane_at-value.ensures.exact
          (rw (to_z-of_z w32 c.lane_at-value.result (value_fits _ c.lane_at-value.ensures.small), to_z-of_z w32 (at c.args.opposites.now.lanes.low c.loop-i.i) (low_fits _ low)) at (c.is_low.ensures some)))
          c.loop-i.invariant.front;
      back = set_bytes (λ (k b : ℕ). b ≢ 0 → at c.args.opposites.now.high k <ℤ lane_value c.args.opposites.now.lanes c.args.p.now k) c.loop-i.back c.loop-i.i c.is_low-in-loop-i.result
          (omega (arith, few, c.loop-i.invariant.back_long))
          (λ some. subst (λ (z : ℤ). at c.args.opposites.now.high c.loop-i.i <ℤ z) c.lane_at-value.ensures.exact
          (rw (to_z-of_z w32 c.lane_at-value.result (value_fits _ c.lane_at-value.ensures.small), to_z-of_z w32 (at c.args.opposites.now.high c.loop-i.i) (high_fits _ high)) at (c.is_low-in-loop-i.ensures some)))
          c.loop-i.invariant.back;
    }
