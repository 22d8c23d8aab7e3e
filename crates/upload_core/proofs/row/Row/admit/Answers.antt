use Rattle.upload_core.proofs.Prelude.{common_steps, ◌∙◌, List, ap, arith, InFlight, count_in}
use Rattle.upload_core.proofs.RowLemmas.{grows-rising, grows-past, grows-counts}
use Rattle.upload_core.proofs.row.Row.admit.Goals as goal

pub returns-clause-row : goal.returns-clause-row
returns-clause-row c = grind (arith, common_steps, grows-rising)

pub returns-clause-marks : goal.returns-clause-marks
returns-clause-marks c k =
    grows-past 0 c.args.self.now.window.items c.fill-next.new.window.items c.args.self.now.next c.fill-next.result
    c.fill-next.ensures.grown c.fill-next.ensures.from c.requires.row.rising k

pub returns-clause-counts : goal.returns-clause-counts
returns-clause-counts c k =
    grows-counts c.args.self.now.window.items c.fill-next.new.window.items c.args.self.now.next c.fill-next.result c.fill-next.ensures.grown k
    ∙ ap (λ (es : List InFlight). count_in es k) c.requires.empty
