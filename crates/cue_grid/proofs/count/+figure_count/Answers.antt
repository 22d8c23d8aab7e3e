use Rattle.cue_grid.proofs.Prelude.{◌+◌, ◌∙◌, arith, most_cues, none_performed}
use Rattle.cue_grid.proofs.Counting.{added, stays_full, repeat_count}
use Rattle.cue_grid.proofs.count.+figure_count.Goals as goal
use Rattle.cue_grid.proofs.count.+figure_count.Goals.{then-inside-le-MOST_CUES, else-inside-le-MOST_CUES}

pub loop-inner-preserved : goal.loop-inner-preserved
loop-inner-preserved t c =
    elim c.if-inside-le-MOST_CUES.branch [
      | then-inside-le-MOST_CUES w ↦ added none_performed (most_cues + 1) _ _ _ _ _ _ c.loop-inner-test.true c.inner-item.is c.loop-inner.invariant w.figure_count.ensures (w.inside-is ∙ w.capped-inside.ensures)
      | else-inside-le-MOST_CUES w ↦ w.inside-is ∙ stays_full none_performed (most_cues + 1) _ _ _ _ c.loop-inner-test.true c.inner-item.is c.loop-inner.invariant (omega (arith, w.if-inside-le-MOST_CUES.false))
    ]

pub returns-after-loop-inner : goal.returns-after-loop-inner
returns-after-loop-inner t c =
    c.times_over.ensures ∙ repeat_count none_performed (most_cues + 1) _ _ _ _ _ _ _ c.in-Repeat.is c.deref-inner-items.ensures.value c.loop-inner-test.false c.loop-inner.invariant
