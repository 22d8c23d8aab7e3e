use Rattle.cue_grid.proofs.Prelude.{◌≡◌, ◌++◌, take, body_of, cues_in, times_over, performed_cues, shown, played}
use Rattle.cue_grid.proofs.cues.+put_block.Given as goal

abbrev pub invariant-loop-inner : goal.invariant-loop-inner
invariant-loop-inner l = l.cues.items ≡ l.initial.cues.items ++ cues_in (shown l.show) (played l.cast) (performed_cues (shown l.show)) (body_of (take l.inner-index l.inner-items))

abbrev pub invariant-loop-turn : goal.invariant-loop-turn
invariant-loop-turn l = l.cues.items ≡ l.initial.cues.items ++ times_over l.turn (cues_in (shown l.show) (played l.cast) (performed_cues (shown l.show)) (body_of l.body.items))
