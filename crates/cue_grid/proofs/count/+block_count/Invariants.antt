use Rattle.cue_grid.proofs.Prelude.{◌≡◌, ◌+◌, take, min, body_of, shown, most_cues, body_count}
use Rattle.cue_grid.proofs.count.+block_count.Given as goal

abbrev pub invariant-loop-inner : goal.invariant-loop-inner
invariant-loop-inner l = l.inside ≡ min (most_cues + 1) (body_count (shown l.show).figures (body_of (take l.inner-index l.inner-items)))
