use Rattle.cue_grid.proofs.Prelude.{◌≡◌, ◌++◌, take, body_of, times_over, figure_cues, shown, played}
use Rattle.cue_grid.proofs.cues.+put_figure_block.Given as goal

abbrev pub invariant-loop-inner : goal.invariant-loop-inner
invariant-loop-inner l = l.cues.items ≡ l.initial.cues.items ++ figure_cues (shown l.show) (played l.cast) (body_of (take l.inner-index l.inner-items))

abbrev pub invariant-loop-turn : goal.invariant-loop-turn
invariant-loop-turn l = l.cues.items ≡ l.initial.cues.items ++ times_over l.turn (figure_cues (shown l.show) (played l.cast) (body_of l.body.items))
