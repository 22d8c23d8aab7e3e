use Rattle.figure_expand.proofs.Prelude.{◌≡◌, drop, cue_values, first_unfit}
use Rattle.figure_expand.proofs.range.cue_fault.Given as goal

-- the drones so far fit
abbrev pub invariant-loop-d : goal.invariant-loop-d
invariant-loop-d l = first_unfit (cue_values l.points l.jobs) ≡ first_unfit (cue_values (drop l.d l.points) (drop l.d l.jobs))
