use Rattle.cue_grid.proofs.Prelude.{◌+◌, ◌∙◌, arith, most_cues, none_performed}
use Rattle.cue_grid.proofs.Counting.{added, stays_full}
use Rattle.cue_grid.proofs.count.figure_total.Goals as goal
use Rattle.cue_grid.proofs.count.figure_total.Goals.{then-total-le-MOST_CUES, else-total-le-MOST_CUES}

pub loop-block-preserved : goal.loop-block-preserved
loop-block-preserved c =
    elim c.if-total-le-MOST_CUES.branch [
      | then-total-le-MOST_CUES w ↦ added none_performed (most_cues + 1) _ _ _ _ _ _ c.loop-block-test.true c.block-item.is c.loop-block.invariant w.figure_count.ensures (w.total-is ∙ w.capped-total.ensures)
      | else-total-le-MOST_CUES w ↦ w.total-is ∙ stays_full none_performed (most_cues + 1) _ _ _ _ c.loop-block-test.true c.block-item.is c.loop-block.invariant (omega (arith, w.if-total-le-MOST_CUES.false))
    ]
