-- What holds whenever the loop of `cue_from` begins a turn: the cues that have begun, and those to come, are all that begin before the instant.
use Rattle.dynamics_bound.proofs.Prelude.{◌≡◌, ◌+◌, drop, durations, cue_from}
use Rattle.dynamics_bound.proofs.motion.cue_from.Given as goal

abbrev pub invariant-loop-cue : goal.invariant-loop-cue
invariant-loop-cue l = record {
  begun : l.begun ≡ l.cue-index;
  so_far : l.begun + cue_from l.left (durations (drop l.cue-index l.cues)) ≡ cue_from l.instant (durations l.cues);
}
