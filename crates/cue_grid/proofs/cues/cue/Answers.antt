use Rattle.cue_grid.proofs.Prelude.{arith, shown, played}
use Rattle.cue_grid.proofs.Placing.{line_put}
use Rattle.cue_grid.proofs.cues.cue.Goals as goal

pub loop-k-preserved : goal.loop-k-preserved
loop-k-preserved c =
    line_put (shown c.args.show.now).formations (played c.args.cast.now) _ c.args.acts.now c.loop-k.k _ _ _ _ c.loop-k-test.true
    (omega (arith, c.loop-k-test.true, c.loop-k.auto.k)) c.index-acts-k.is c.loop-k.invariant c.put_line.ensures
