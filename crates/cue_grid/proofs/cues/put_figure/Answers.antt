use Rattle.cue_grid.proofs.Prelude.{nothing_performed, shown, played}
use Rattle.cue_grid.proofs.Written.{cues_put}
use Rattle.cue_grid.proofs.cues.put_figure.Goals as goal

pub loop-block-preserved : goal.loop-block-preserved
loop-block-preserved c = cues_put (shown c.args.show.now) (played c.args.cast.now) nothing_performed _ _ _ _ _ _ c.loop-block-test.true c.block-item.is c.loop-block.invariant c.in_ok-put_figure_block.ensures
