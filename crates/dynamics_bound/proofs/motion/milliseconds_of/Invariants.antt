use Rattle.dynamics_bound.proofs.Prelude.{◌≡◌, ◌*◌, ◌≤◌, take, sum, durations}
use Rattle.dynamics_bound.proofs.motion.milliseconds_of.Given as goal

-- the milliseconds so far
abbrev pub invariant-loop-segment : goal.invariant-loop-segment
invariant-loop-segment l = record {
  so_far : l.total ≡ sum (durations (take l.segment-index l.segments));
  most : l.total ≤ 65535 * l.segment-index;
}
