use Rattle.fleet_curves.proofs.Prelude.{take, All, IsFormed}
use Rattle.fleet_curves.proofs.formed.formed_law.Given as goal

abbrev pub invariant-loop-s : goal.invariant-loop-s
invariant-loop-s l = All IsFormed (take l.s-index l.s-items)
