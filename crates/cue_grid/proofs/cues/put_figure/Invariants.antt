use Rattle.cue_grid.proofs.Prelude.{◌≡◌, ◌++◌, take, body_of, figure_cues, shown, played}
use Rattle.cue_grid.proofs.cues.put_figure.Given as goal

abbrev pub invariant-loop-block : goal.invariant-loop-block
invariant-loop-block l = l.cues.items ≡ l.initial.cues.items ++ figure_cues (shown l.show) (played l.cast) (body_of (take l.block-index l.body))
