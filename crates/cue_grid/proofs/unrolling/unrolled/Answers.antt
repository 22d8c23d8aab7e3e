use Rattle.cue_grid.proofs.Prelude.{ap, sym, subst, ◌∙◌, shown, IsGrid, Grid}
use Rattle.cue_grid.proofs.Distinct.{answered_distinct}
use Rattle.cue_grid.proofs.Fits.{answered_names, fit_grid}
use Rattle.cue_grid.proofs.unrolling.unrolled.Goals as goal

pub whole_grid-requires : goal.whole_grid-requires
whole_grid-requires c = sym c.in_ok-fault.ensures ∙ c.in_default.is

pub returns-clause-gives : goal.returns-clause-gives
returns-clause-gives c = (sym c.in_ok-fault.ensures ∙ c.in_default.is, c.in_ok-whole_grid.ensures)

pub returns-clause-valid : goal.returns-clause-valid
returns-clause-valid c =
    subst IsGrid (sym c.in_ok-whole_grid.ensures) (fit_grid (shown c.args.show.now) c.requires (sym c.in_ok-fault.ensures ∙ c.in_default.is))

pub returns-clause-names : goal.returns-clause-names
returns-clause-names c = answered_names (shown c.args.show.now) _ c.requires (ap (λ (g : Grid). g.starts) c.in_ok-whole_grid.ensures)

pub returns-clause-distinct : goal.returns-clause-distinct
returns-clause-distinct c =
    answered_distinct (shown c.args.show.now) _ _ c.in_ok-fault.ensures c.in_default.is (ap (λ (g : Grid). g.starts) c.in_ok-whole_grid.ensures)
