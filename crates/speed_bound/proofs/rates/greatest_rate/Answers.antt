use Rattle.speed_bound.proofs.Prelude.{refl, ◌<◌, arith, rules, ◌∙◌, ap, List, length, FitsSigned, to_z-of_z, w16, Segment}
use Rattle.speed_bound.proofs.Walks.{rate-at, rate-next, value-next}
use Rattle.speed_bound.proofs.rates.greatest_rate.Goals as goal

pub loop-s-preserved : goal.loop-s-preserved
loop-s-preserved g c =
    let inside : c.loop-s.s-index < length c.args.t.now.segments = omega (arith, c.loop-s-test.true, ap (λ (ss : List Segment). length ss) c.as_slice-s-items.ensures) in
    let next_fits : FitsSigned w16 c.value_after-value.result = search rules in
    record {
      value = value-next c.args.t.now c.args.axis c.loop-s.s-index c.as_slice-s-items.result.now _ _ _ _ inside c.as_slice-s-items.ensures c.loop-s.invariant.value refl
          (to_z-of_z w16 c.value_after-value.result next_fits ∙ c.value_after-value.ensures);
      most = rate-next g.row.K c.args.depth c.args.axis c.loop-s.s-index c.args.t.now c.args.least c.loop-s.most _ _ c.loop-s.invariant.most
          (rate-at g.row.K c.args.depth c.args.axis c.loop-s.s-index c.args.t.now c.as_slice-s-items.result.now _ _ _ inside c.as_slice-s-items.ensures c.loop-s.invariant.value refl)
          c.element_rate-most.ensures.exact;
      small = c.element_rate-most.ensures.small;
    }
