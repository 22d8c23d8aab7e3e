use Rattle.show_plan.proofs.Prelude.{◌≡◌, ◌*◌, ◌≤◌, map, take, sum, Cue}
use Rattle.show_plan.proofs.fitting.duration_of.Given as goal

-- the milliseconds so far
abbrev pub invariant-loop-cue : goal.invariant-loop-cue
invariant-loop-cue l = record {
  so_far : l.total ≡ sum (map (λ (cue : Cue). cue.ms) (take l.cue-index l.cues));
  most : l.total ≤ 65535 * l.cue-index;
}
