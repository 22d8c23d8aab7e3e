-- What holds whenever the loop of `answer_drones` begins a turn: what is still to come completes the lines, the refusal and the bounds.
use Rattle.show_studies.proofs.Prelude.{◌≡◌, ◌++◌, All, drop, KeepsBounds, first_too_fast, speed_text}
use Rattle.show_studies.proofs.speeding.answer_drones.Given as goal

abbrev pub invariant-loop-d : goal.invariant-loop-d
invariant-loop-d l = record {
  so_far : l.text ++ speed_text l.depth (drop l.d l.sent) (drop l.d l.names) ≡ speed_text l.depth l.sent l.names;
  refusal : first_too_fast l.limit l.depth (drop l.d l.sent) (drop l.d l.names) ≡ first_too_fast l.limit l.depth l.sent l.names;
  keeps : All (KeepsBounds l.limit l.depth) (drop l.d l.sent) → All (KeepsBounds l.limit l.depth) l.sent;
}
