use Rattle.pair_search.proofs.Prelude.{rules, FitsSigned, to_z-of_z, w64}
use Rattle.pair_search.proofs.ShortLemmas.{short_point_of}
use Rattle.pair_search.proofs.short.short_point_at.Goals as goal

pub returns-then-levels-le4 : goal.returns-then-levels-le4
returns-then-levels-le4 c =
    let x_fits : FitsSigned w64 c.shallow_stepped.result = search rules in
    let y_fits : FitsSigned w64 c.shallow_stepped-then-levels-le4.result = search rules in
    let z_fits : FitsSigned w64 c.shallow_stepped-then-levels-le4-2.result = search rules in
    short_point_of c.args.level.now c.args.k c.shallow_stepped.result c.shallow_stepped-then-levels-le4.result c.shallow_stepped-then-levels-le4-2.result c.short_point.result
    (rw (to_z-of_z w64 c.shallow_stepped.result x_fits, to_z-of_z w64 c.shallow_stepped-then-levels-le4.result y_fits, to_z-of_z w64 c.shallow_stepped-then-levels-le4-2.result z_fits) at c.short_point.ensures)
    (search rules) (search rules) (search rules)

pub returns-else-levels-le4 : goal.returns-else-levels-le4
returns-else-levels-le4 c =
    let x_fits : FitsSigned w64 c.deep_stepped.result = search rules in
    let y_fits : FitsSigned w64 c.deep_stepped-else-levels-le4.result = search rules in
    let z_fits : FitsSigned w64 c.deep_stepped-else-levels-le4-2.result = search rules in
    short_point_of c.args.level.now c.args.k c.deep_stepped.result c.deep_stepped-else-levels-le4.result c.deep_stepped-else-levels-le4-2.result c.short_point-else-levels-le4.result
    (rw (to_z-of_z w64 c.deep_stepped.result x_fits, to_z-of_z w64 c.deep_stepped-else-levels-le4.result y_fits, to_z-of_z w64 c.deep_stepped-else-levels-le4-2.result z_fits) at c.short_point-else-levels-le4.ensures)
    (search rules) (search rules) (search rules)
