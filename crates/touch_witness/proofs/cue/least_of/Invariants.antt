use Rattle.touch_witness.proofs.Prelude.{IsLeastOf}
use Rattle.touch_witness.proofs.cue.least_of.Given as goal

abbrev pub invariant-loop-at : goal.invariant-loop-at
invariant-loop-at l = IsLeastOf l.trajs l.axes.r l.axes.h l.fine l.slot l.at l.best.at l.best.left
