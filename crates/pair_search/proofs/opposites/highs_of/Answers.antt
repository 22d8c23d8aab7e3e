use Rattle.pair_search.proofs.Prelude.{◌≡◌, ◌+◌, ◌-◌, ◌<◌, ℤ, ℕ, arith, refl, rules, subst, length, FitsSigned, to_z, of_z, to_z-of_z, w32, IsHigh, IsSmallHigh, set_below}
use Rattle.pair_search.proofs.LaneLemmas.{set_all}
use Rattle.pair_search.proofs.OppositeLemmas.{high_fits, minus_small}
use Rattle.pair_search.proofs.opposites.highs_of.Goals as goal

pub loop-i-preserved : goal.loop-i-preserved
loop-i-preserved c =
    let fits : FitsSigned w32 c.high_of.result = high_fits c.high_of.result c.high_of.ensures.small in
    let value : to_z w32 (of_z w32 c.high_of.result) ≡ c.high_of.result = to_z-of_z w32 c.high_of.result fits in
    let inside : c.loop-i.i < length c.loop-i.high = omega (arith, c.loop-i.invariant.same_length, c.loop-i-test.true, c.front_of-i-end.ensures.few, c.requires.count) in
    let other : c.args.count - 1 - c.loop-i.i ≡ c.args.count - (c.loop-i.i + 1) = omega arith in
    record {
      same_length = search rules;
      small = λ k few. rw value (set_all IsSmallHigh c.loop-i.high c.loop-i.i k c.high_of.result inside c.high_of.ensures.small (c.loop-i.invariant.small k few));
      each = rw value
          (set_below (λ (k : ℕ) (z : ℤ). IsHigh c.args.lanes.now k (c.args.count - (k + 1)) z) c.loop-i.high c.loop-i.i c.high_of.result inside
          (subst (λ (j : ℕ). IsHigh c.args.lanes.now c.loop-i.i j c.high_of.result) other c.high_of.ensures.high) c.loop-i.invariant.each);
    }

pub loop-i-init : goal.loop-i-init
loop-i-init c = record {
  same_length = refl;
  small = λ k few. minus_small 56 k;
  each = λ k none. absurd (omega arith);
}
