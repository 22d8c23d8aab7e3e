use Rattle.pair_search.proofs.Prelude.{ℤ, ◌*ℤ◌, ◌<ℤ◌, FitsSigned, rules, subst, to_z-of_z, w16}
use Rattle.pair_search.proofs.ShortLemmas.{shift_more, shifted_less}
use Rattle.pair_search.proofs.short.rough_low.Goals as goal

pub returns : goal.returns
returns c = λ v fits less.
    let result_fits : FitsSigned w16 c.clamped.result = search rules in
    shift_more (c.args.low *ℤ c.args.times) v
    (subst (λ (z : ℤ). v <ℤ z) (shifted_less c.args.low c.args.times c.from.result c.requires.low c.requires.times c.from.ensures)
    (c.clamped.ensures.low v fits (subst (λ (z : ℤ). v <ℤ z) (to_z-of_z w16 c.clamped.result result_fits) less)))
