use Rattle.fleet_curves.proofs.Prelude.{◌∙◌, refl, difference}
use Rattle.fleet_curves.proofs.curves.Curves.diff.Goals as goal

pub returns : goal.returns
unfolding difference
returns c = c.differences.ensures ∙ rw (c.rows.ensures.exact, c.rows-2.ensures.exact) refl
