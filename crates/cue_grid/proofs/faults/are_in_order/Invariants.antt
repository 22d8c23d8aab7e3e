use Rattle.cue_grid.proofs.Prelude.{◌≡◌, ◌≤◌, length, drop, lines_after}
use Rattle.cue_grid.proofs.faults.are_in_order.Given as goal

abbrev pub invariant-loop-name : goal.invariant-loop-name
invariant-loop-name l = record {
  rest : lines_after l.known l.acts ≡ lines_after (drop l.name-index l.known) (drop l.next l.acts);
  within : l.next ≤ length l.acts;
}
