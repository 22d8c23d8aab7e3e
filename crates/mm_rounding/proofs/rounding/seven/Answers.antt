use Rattle.mm_rounding.proofs.Prelude.{rules, sym, ap, ◌∙◌, FitsSigned, to_z-of_z, w16, at, Seven, all_equal, after_first}
use Rattle.mm_rounding.proofs.Elements.{seven_behind, unequal}
use Rattle.mm_rounding.proofs.rounding.seven.Goals as goal

pub returns-else-are_equal : goal.returns-else-are_equal
returns-else-are_equal c =
    let f1 : FitsSigned w16 (at c.args.v.now 1) = search rules in
    let f2 : FitsSigned w16 (at c.args.v.now 2) = search rules in
    let f3 : FitsSigned w16 (at c.args.v.now 3) = search rules in
    let f4 : FitsSigned w16 (at c.args.v.now 4) = search rules in
    let f5 : FitsSigned w16 (at c.args.v.now 5) = search rules in
    let f6 : FitsSigned w16 (at c.args.v.now 6) = search rules in
    let f7 : FitsSigned w16 (at c.args.v.now 7) = search rules in
    simp to_z-of_z
    (ap Seven (seven_behind c.args.v.now c.told-v)
    ∙ unequal (all_equal c.args.v.now) (Seven (after_first c.args.v.now)) (sym c.are_equal.ensures ∙ c.if-are_equal.false))
