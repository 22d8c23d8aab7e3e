use Rattle.figure_expand.proofs.Prelude.{◌≡◌, drop, values_on, first_unfit}
use Rattle.figure_expand.proofs.range.values_fault.Given as goal

-- the values so far fit
abbrev pub invariant-loop-value : goal.invariant-loop-value
invariant-loop-value l = first_unfit (values_on l.line l.axis l.values) ≡ first_unfit (values_on l.line l.axis (drop l.value-index l.values))
