use Rattle.touch_witness.proofs.Prelude.{below_more}
use Rattle.touch_witness.proofs.touch.first_site.Goals as goal

pub loop-cue-preserved : goal.loop-cue-preserved
loop-cue-preserved c = record {
  starts = c.next_starts-here.ensures;
  apart = below_more _ _ c.loop-cue.invariant.apart c.in_default.ensures;
}
