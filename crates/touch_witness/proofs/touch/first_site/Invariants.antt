use Rattle.touch_witness.proofs.Prelude.{ℕ, ◌+◌, ◌^◌, ◌<◌, DisjointInCue, AreStarts}
use Rattle.touch_witness.proofs.touch.first_site.Given as goal

abbrev pub invariant-loop-cue : goal.invariant-loop-cue
invariant-loop-cue l = record {
  starts : AreStarts l.trajs l.cue l.here;
  apart : (cue : ℕ) → cue < l.cue → DisjointInCue l.trajs l.axes.r l.axes.h l.fine cue (2 ^ l.fine + 1);
}
