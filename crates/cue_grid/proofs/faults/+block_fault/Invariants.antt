use Rattle.cue_grid.proofs.Prelude.{shown, ◌≡◌, drop, body_of, first_of, body_faults}
use Rattle.cue_grid.proofs.faults.+block_fault.Given as goal

abbrev pub invariant-loop-inner : goal.invariant-loop-inner
invariant-loop-inner l = first_of (body_faults (shown l.show) l.known (body_of l.inner-items)) ≡ first_of (body_faults (shown l.show) l.known (body_of (drop l.inner-index l.inner-items)))
