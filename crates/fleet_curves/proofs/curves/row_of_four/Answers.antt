use Rattle.fleet_curves.proofs.Prelude.{◌≡◌, length, rules, List, ℤ, pos, get_or, ◌∷◌, FitsSigned, ap, sym, ◌∙◌, w16}
use Rattle.fleet_curves.proofs.Small.{told_short}
use Rattle.fleet_curves.proofs.Differences.{list_of_three, same_four}
use Rattle.fleet_curves.proofs.curves.row_of_four.Goals as goal

pub returns-clause-exact : goal.returns-clause-exact
returns-clause-exact c =
    let len : length c.args.v ≡ 3 = search rules in
    let fits_0 : FitsSigned w16 (get_or c.args.v 0 (pos 0)) = search rules in
    let fits_1 : FitsSigned w16 (get_or c.args.v 1 (pos 0)) = search rules in
    let fits_2 : FitsSigned w16 (get_or c.args.v 2 (pos 0)) = search rules in
    same_four
    (told_short c.wide.result c.args.first c.wide.ensures.small c.ranges.first c.wide.ensures.exact)
    (told_short c.wide-2.result (get_or c.args.v 0 (pos 0)) c.wide-2.ensures.small fits_0 c.wide-2.ensures.exact)
    (told_short c.wide-3.result (get_or c.args.v 1 (pos 0)) c.wide-3.ensures.small fits_1 c.wide-3.ensures.exact)
    (told_short c.wide-4.result (get_or c.args.v 2 (pos 0)) c.wide-4.ensures.small fits_2 c.wide-4.ensures.exact)
    ∙ ap (λ (xs : List ℤ). c.args.first ∷ xs) (sym (list_of_three c.args.v len))
