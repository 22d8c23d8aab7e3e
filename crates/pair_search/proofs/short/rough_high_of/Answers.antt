use Rattle.pair_search.proofs.Prelude.{ℤ, pos, neg_ℤ, ◌-ℤ◌, ◌*ℤ◌, ◌<ℤ◌, ◌≡◌, subst, arith, ints, rules, FitsSigned, IsBelow, ◌^◌, to_z-of_z, w16, w32, w64}
use Rattle.pair_search.proofs.short.rough_high_of.Goals as goal

pub returns-then-are_opposite : goal.returns-then-are_opposite
returns-then-are_opposite c = λ v fits more.
    let result_fits : FitsSigned w16 c.rough_high.result = search rules in
    let low : ℤ = c.short_low.result in
    let small : IsBelow (2 ^ 33) low = c.short_low.ensures.small in
    let low_fits : FitsSigned w64 low = omega (arith, ints) in
    let minus_fits : FitsSigned w64 (pos 0 -ℤ low) = omega (arith, ints) in
    let minus : pos 0 -ℤ low ≡ neg_ℤ low = omega (arith, ints) in
    let times_fits : FitsSigned w32 c.args.times = c.ranges.times in (
      c.are_opposite.ensures c.if-are_opposite.true,
      subst (λ (z : ℤ). (neg_ℤ z *ℤ c.args.times) <ℤ (pos 65536 *ℤ v)) c.short_low.ensures.exact
          (subst (λ (z : ℤ). (z *ℤ c.args.times) <ℤ (pos 65536 *ℤ v)) minus
          (rw (to_z-of_z w64 low low_fits, to_z-of_z w64 (pos 0 -ℤ low) minus_fits, to_z-of_z w32 c.args.times times_fits) at
          (c.rough_high.ensures v fits (subst (λ (z : ℤ). z <ℤ v) (to_z-of_z w16 c.rough_high.result result_fits) more)))),
    )
