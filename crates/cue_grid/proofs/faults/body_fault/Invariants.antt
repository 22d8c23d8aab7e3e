use Rattle.cue_grid.proofs.Prelude.{shown, ◌≡◌, drop, body_of, first_of, body_faults}
use Rattle.cue_grid.proofs.faults.body_fault.Given as goal

abbrev pub invariant-loop-block : goal.invariant-loop-block
invariant-loop-block l = first_of (body_faults (shown l.show) l.known (body_of l.body)) ≡ first_of (body_faults (shown l.show) l.known (body_of (drop l.block-index l.body)))
