use Rattle.cue_grid.proofs.Prelude.{◌≡◌, take, body_of, cues_in, shown, as_written, performed_cues}
use Rattle.cue_grid.proofs.cues.cues_of.Given as goal

abbrev pub invariant-loop-block : goal.invariant-loop-block
invariant-loop-block l = l.cues.items ≡ cues_in (shown l.show) as_written (performed_cues (shown l.show)) (body_of (take l.block-index l.block-items))
