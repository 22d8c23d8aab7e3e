use Rattle.cue_grid.proofs.Prelude.{◌≡◌, ◌+◌, take, min, body_of, most_cues, figure_count}
use Rattle.cue_grid.proofs.count.figure_total.Given as goal

abbrev pub invariant-loop-block : goal.invariant-loop-block
invariant-loop-block l = l.total ≡ min (most_cues + 1) (figure_count (body_of (take l.block-index l.body)))
