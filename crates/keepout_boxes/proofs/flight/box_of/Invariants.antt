use Rattle.keepout_boxes.proofs.Prelude.{ℕ, ◌<◌, ◌≤◌, IsIn, curves_at, values_of}
use Rattle.keepout_boxes.proofs.flight.box_of.Given as goal

abbrev pub invariant-loop-cue : goal.invariant-loop-cue
invariant-loop-cue l = record {
  on_x : (cue : ℕ) → cue < l.cue → (k : ℕ) → k ≤ 7 → IsIn l.x.low l.x.high (values_of (curves_at l.curves l.drone cue) 0 k);
  on_y : (cue : ℕ) → cue < l.cue → (k : ℕ) → k ≤ 7 → IsIn l.y.low l.y.high (values_of (curves_at l.curves l.drone cue) 1 k);
  on_z : (cue : ℕ) → cue < l.cue → (k : ℕ) → k ≤ 7 → IsIn l.z.low l.z.high (values_of (curves_at l.curves l.drone cue) 2 k);
}
