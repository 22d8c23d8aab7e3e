use Rattle.cue_grid.proofs.Prelude.{performed_cues, shown, played}
use Rattle.cue_grid.proofs.Written.{cues_put, cues_turn}
use Rattle.cue_grid.proofs.cues.+put_block.Goals as goal

pub loop-inner-preserved : goal.loop-inner-preserved
loop-inner-preserved t c = cues_put (shown c.args.show.now) (played c.args.cast.now) (performed_cues (shown c.args.show.now)) _ _ _ _ _ _ c.loop-inner-test.true c.inner-item.is c.loop-inner.invariant c.in_ok-put_block-in-Repeat.ensures

pub loop-turn-preserved : goal.loop-turn-preserved
loop-turn-preserved t c = cues_turn (shown c.args.show.now) (played c.args.cast.now) (performed_cues (shown c.args.show.now)) _ _ _ _ _ _ _ c.deref-inner-items.ensures.value c.loop-inner-test.false c.loop-turn.invariant c.loop-inner.invariant
