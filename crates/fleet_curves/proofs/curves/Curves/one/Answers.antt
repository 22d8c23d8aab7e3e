use Rattle.fleet_curves.proofs.Prelude.{◌^◌, ◌∙◌, sym, subst, All, List, Bez, IsBelow}
use Rattle.fleet_curves.proofs.curves.Curves.one.Goals as goal

pub returns-clause-small : goal.returns-clause-small
returns-clause-small c =
    subst (λ (curves : List (Bez 8)). All (λ (curve : Bez 8). All (IsBelow (2 ^ 28)) curve.b) curves) (sym (c.widened_rows.ensures ∙ c.rows.ensures.exact)) c.rows.ensures.small
