use Rattle.cue_grid.proofs.Prelude.{◌≡◌, ◌+◌, take, min, body_of, most_cues, figure_count}
use Rattle.cue_grid.proofs.count.+figure_count.Given as goal

abbrev pub invariant-loop-inner : goal.invariant-loop-inner
invariant-loop-inner l = l.inside ≡ min (most_cues + 1) (figure_count (body_of (take l.inner-index l.inner-items)))
