use Rattle.pair_search.proofs.Prelude.{◌≡◌, ◌≢◌, ℕ, ◌+◌, ◌-◌, ◌<◌, arith, refl, rules, sym, subst, below_more, FitsSigned, to_z-of_z, w16, TellsShort, ShortLane}
use Rattle.pair_search.proofs.ShortLemmas.{kept_short, new_short}
use Rattle.pair_search.proofs.short.short_of.Goals as goal

pub returns : goal.returns
returns c = λ i inside. c.loop-i.invariant.done i (omega (arith, inside, c.loop-i-test.false, c.front_of-i-end.ensures.enough))

pub loop-i-init : goal.loop-i-init
loop-i-init c = record {
  x_long = refl;
  y_long = refl;
  z_long = refl;
  low_long = refl;
  high_long = refl;
  done = λ k none. absurd (omega arith);
}

pub loop-i-preserved : goal.loop-i-preserved
loop-i-preserved c =
    let lane : ShortLane = c.short_lane-lane.result in
    let x_fits : FitsSigned w16 lane.x = search rules in
    let y_fits : FitsSigned w16 lane.y = search rules in
    let z_fits : FitsSigned w16 lane.z = search rules in
    let low_fits : FitsSigned w16 lane.low = search rules in
    let high_fits : FitsSigned w16 lane.high = search rules in
    let inside : c.loop-i.i < 56 = omega (arith, c.loop-i-test.true, c.front_of-i-end.ensures.few, c.requires.count) in
    let other : c.args.count - 1 - c.loop-i.i ≡ c.args.count - (c.loop-i.i + 1) = omega arith in
    record {
      x_long = search rules;
      y_long = search rules;
      z_long = search rules;
      low_long = search rules;
      high_long = search rules;
      done = rw (to_z-of_z w16 lane.x x_fits, to_z-of_z w16 lane.y y_fits, to_z-of_z w16 lane.z z_fits, to_z-of_z w16 lane.low low_fits, to_z-of_z w16 lane.high high_fits)
          (below_more _ _
          (λ k less.
          let ne : k ≢ c.loop-i.i = omega (arith, less) in
          subst (λ (s : ShortLane). TellsShort c.args.lanes.now k (c.args.count - (k + 1)) s) (sym (kept_short c.loop-i.short lane c.loop-i.i k ne)) (c.loop-i.invariant.done k less))
          (subst (λ (s : ShortLane). TellsShort c.args.lanes.now c.loop-i.i (c.args.count - (c.loop-i.i + 1)) s)
          (sym (new_short c.loop-i.short lane c.loop-i.i (omega (arith, inside, c.loop-i.invariant.x_long)) (omega (arith, inside, c.loop-i.invariant.y_long)) (omega (arith, inside, c.loop-i.invariant.z_long)) (omega (arith, inside, c.loop-i.invariant.low_long)) (omega (arith, inside, c.loop-i.invariant.high_long))))
          (subst (λ (j : ℕ). TellsShort c.args.lanes.now c.loop-i.i j lane) other c.short_lane-lane.ensures)));
    }
