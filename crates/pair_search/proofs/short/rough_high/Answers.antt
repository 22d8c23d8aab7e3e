use Rattle.pair_search.proofs.Prelude.{ℤ, ◌*ℤ◌, ◌<ℤ◌, FitsSigned, rules, subst, to_z-of_z, w16}
use Rattle.pair_search.proofs.ShortLemmas.{shift_less, shifted_is}
use Rattle.pair_search.proofs.short.rough_high.Goals as goal

pub returns : goal.returns
returns c = λ v fits more.
    let result_fits : FitsSigned w16 c.clamped.result = search rules in
    shift_less (c.args.high *ℤ c.args.times) v
    (subst (λ (z : ℤ). z <ℤ v) (shifted_is c.args.high c.args.times c.from.result c.requires.high c.requires.times c.from.ensures)
    (c.clamped.ensures.high v fits (subst (λ (z : ℤ). z <ℤ v) (to_z-of_z w16 c.clamped.result result_fits) more)))
