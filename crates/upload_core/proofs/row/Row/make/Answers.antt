use Rattle.upload_core.proofs.Prelude.{common_steps, ◌∙◌, List, ap, sym, subst, arith, InFlight, packets_in, count_in, IsBetween}
use Rattle.upload_core.proofs.Numbers.{past-later}
use Rattle.upload_core.proofs.RowLemmas.{grows-rising, grows-past, grows-counts}
use Rattle.upload_core.proofs.row.Row.make.Goals as goal
use Rattle.upload_core.proofs.row.Row.make.Goals.{After-fill-next}

none : (c : After-fill-next) → IsBetween 0 0 (packets_in c.new-window.result.items)
none c = subst (λ (es : List InFlight). IsBetween 0 0 (packets_in es)) (sym c.new-window.ensures) tt

pub returns-clause-row : goal.returns-clause-row
returns-clause-row c = grind (arith, common_steps, grows-rising, none)

pub returns-clause-blank : goal.returns-clause-blank
returns-clause-blank c k =
    grows-past 0 c.new-window.result.items c.fill-next.new.window.items 0 c.fill-next.result c.fill-next.ensures.grown c.fill-next.ensures.from
    (none (goal.at.returns-clause-blank c).After-fill-next) k
    ∙ past-later 0 (packets_in c.new-window.result.items) k (omega arith)

pub returns-clause-counts : goal.returns-clause-counts
returns-clause-counts c k =
    grows-counts c.new-window.result.items c.fill-next.new.window.items 0 c.fill-next.result c.fill-next.ensures.grown k
    ∙ ap (λ (es : List InFlight). count_in es k) c.new-window.ensures
