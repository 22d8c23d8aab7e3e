use Rattle.cue_grid.proofs.Prelude.{shown}
use Rattle.cue_grid.proofs.Written.{written_put}
use Rattle.cue_grid.proofs.cues.cues_of.Goals as goal

pub loop-block-preserved : goal.loop-block-preserved
loop-block-preserved c = written_put (shown c.args.show.now) _ _ _ _ _ _ c.unmoved.ensures c.loop-block-test.true c.block-item.is c.loop-block.invariant c.in_ok-put_block.ensures
