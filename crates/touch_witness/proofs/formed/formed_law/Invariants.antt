use Rattle.touch_witness.proofs.Prelude.{take, All, IsFormed}
use Rattle.touch_witness.proofs.formed.formed_law.Given as goal

abbrev pub invariant-loop-t : goal.invariant-loop-t
invariant-loop-t l = All (λ t. All IsFormed t.segments) (take l.t-index l.trajs)
