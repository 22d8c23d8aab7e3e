use Rattle.fleet_curves.proofs.Prelude.{◌≡◌, length, rules, List, ℤ, pos, get_or, ◌∷◌, FitsSigned, ap, sym, ◌∙◌, w16, w128, IsBelow}
use Rattle.fleet_curves.proofs.Small.{told_short, kept}
use Rattle.fleet_curves.proofs.Differences.{list_of_seven, eight_all, same_eight_numbers}
use Rattle.fleet_curves.proofs.curves.row_of_eight.Goals as goal

pub returns-clause-exact : goal.returns-clause-exact
returns-clause-exact c =
    let len : length c.args.v ≡ 7 = search rules in
    let fits_0 : FitsSigned w16 (get_or c.args.v 0 (pos 0)) = search rules in
    let fits_1 : FitsSigned w16 (get_or c.args.v 1 (pos 0)) = search rules in
    let fits_2 : FitsSigned w16 (get_or c.args.v 2 (pos 0)) = search rules in
    let fits_3 : FitsSigned w16 (get_or c.args.v 3 (pos 0)) = search rules in
    let fits_4 : FitsSigned w16 (get_or c.args.v 4 (pos 0)) = search rules in
    let fits_5 : FitsSigned w16 (get_or c.args.v 5 (pos 0)) = search rules in
    let fits_6 : FitsSigned w16 (get_or c.args.v 6 (pos 0)) = search rules in
    same_eight_numbers
    (told_short c.wide.result c.args.first c.wide.ensures.small c.ranges.first c.wide.ensures.exact)
    (told_short c.wide-2.result (get_or c.args.v 0 (pos 0)) c.wide-2.ensures.small fits_0 c.wide-2.ensures.exact)
    (told_short c.wide-3.result (get_or c.args.v 1 (pos 0)) c.wide-3.ensures.small fits_1 c.wide-3.ensures.exact)
    (told_short c.wide-4.result (get_or c.args.v 2 (pos 0)) c.wide-4.ensures.small fits_2 c.wide-4.ensures.exact)
    (told_short c.wide-5.result (get_or c.args.v 3 (pos 0)) c.wide-5.ensures.small fits_3 c.wide-5.ensures.exact)
    (told_short c.wide-6.result (get_or c.args.v 4 (pos 0)) c.wide-6.ensures.small fits_4 c.wide-6.ensures.exact)
    (told_short c.wide-7.result (get_or c.args.v 5 (pos 0)) c.wide-7.ensures.small fits_5 c.wide-7.ensures.exact)
    (told_short c.wide-8.result (get_or c.args.v 6 (pos 0)) c.wide-8.ensures.small fits_6 c.wide-8.ensures.exact)
    ∙ ap (λ (xs : List ℤ). c.args.first ∷ xs) (sym (list_of_seven c.args.v len))

pub returns-clause-small : goal.returns-clause-small
returns-clause-small c =
    let fits_0 : FitsSigned w128 c.wide.result = search rules in
    let fits_1 : FitsSigned w128 c.wide-2.result = search rules in
    let fits_2 : FitsSigned w128 c.wide-3.result = search rules in
    let fits_3 : FitsSigned w128 c.wide-4.result = search rules in
    let fits_4 : FitsSigned w128 c.wide-5.result = search rules in
    let fits_5 : FitsSigned w128 c.wide-6.result = search rules in
    let fits_6 : FitsSigned w128 c.wide-7.result = search rules in
    let fits_7 : FitsSigned w128 c.wide-8.result = search rules in
    eight_all (IsBelow 32769) _ _ _ _ _ _ _ _
    (kept 32769 c.wide.result fits_0 c.wide.ensures.small)
    (kept 32769 c.wide-2.result fits_1 c.wide-2.ensures.small)
    (kept 32769 c.wide-3.result fits_2 c.wide-3.ensures.small)
    (kept 32769 c.wide-4.result fits_3 c.wide-4.ensures.small)
    (kept 32769 c.wide-5.result fits_4 c.wide-5.ensures.small)
    (kept 32769 c.wide-6.result fits_5 c.wide-6.ensures.small)
    (kept 32769 c.wide-7.result fits_6 c.wide-7.ensures.small)
    (kept 32769 c.wide-8.result fits_7 c.wide-8.ensures.small)
