use Rattle.figure_expand.proofs.Prelude.{◌≡◌, drop, start_values, first_unfit}
use Rattle.figure_expand.proofs.range.starts_fault.Given as goal

-- the starts so far fit
abbrev pub invariant-loop-start : goal.invariant-loop-start
invariant-loop-start l = first_unfit (start_values l.starts) ≡ first_unfit (start_values (drop l.start-index l.starts))
