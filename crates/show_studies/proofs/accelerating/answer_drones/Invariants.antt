-- What holds whenever the loop of `answer_drones` begins a turn: what is still to come completes the lines, the extremes, the refusal and what
-- the drones keep to.
use Rattle.show_studies.proofs.Prelude.{◌≡◌, ◌++◌, All, drop, durations, KeepsMotion, extremes_of, greater, first_excess_of, motion_lines}
use Rattle.show_studies.proofs.accelerating.answer_drones.Given as goal

abbrev pub invariant-loop-d : goal.invariant-loop-d
invariant-loop-d l = record {
  so_far : l.text ++ motion_lines l.depth (durations l.cues) (drop l.d l.sent) (drop l.d l.names) ≡ motion_lines l.depth (durations l.cues) l.sent l.names;
  most : greater l.most (extremes_of l.depth (drop l.d l.sent)) ≡ extremes_of l.depth l.sent;
  refusal : first_excess_of l.limits l.depth (durations l.cues) (drop l.d l.sent) (drop l.d l.names) ≡ first_excess_of l.limits l.depth (durations l.cues) l.sent l.names;
  keeps : All (KeepsMotion l.limits l.depth) (drop l.d l.sent) → All (KeepsMotion l.limits l.depth) l.sent;
}
