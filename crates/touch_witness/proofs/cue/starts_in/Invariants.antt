use Rattle.touch_witness.proofs.Prelude.{◌≤◌, AreStarts}
use Rattle.touch_witness.proofs.cue.starts_in.Given as goal

abbrev pub invariant-loop-k : goal.invariant-loop-k
invariant-loop-k l = record { starts : AreStarts l.trajs l.k l.here; inside : l.k ≤ l.cue }
