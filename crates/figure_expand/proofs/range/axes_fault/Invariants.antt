use Rattle.figure_expand.proofs.Prelude.{◌≡◌, drop, values_of, first_unfit}
use Rattle.figure_expand.proofs.range.axes_fault.Given as goal

-- the axes so far fit
abbrev pub invariant-loop-axis : goal.invariant-loop-axis
invariant-loop-axis l = first_unfit (values_of l.line 0 l.curves) ≡ first_unfit (values_of l.line l.axis (drop l.axis l.curves))
