use Rattle.figure_expand.proofs.Prelude.{◌≡◌, length, drop, AreInReach, values_from, first_unfit}
use Rattle.figure_expand.proofs.range.cues_fault.Given as goal

-- the cues so far fit, and the drones are where they leave them
abbrev pub invariant-loop-cue : goal.invariant-loop-cue
invariant-loop-cue l = record {
  count : length l.points ≡ length l.initial.points;
  reached : AreInReach l.cue-index l.points;
  left : first_unfit (values_from l.initial.points l.cues) ≡ first_unfit (values_from l.points (drop l.cue-index l.cues));
}
