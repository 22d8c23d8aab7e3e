use Rattle.cue_grid.proofs.Prelude.{◌≡◌, drop, has_mark}
use Rattle.cue_grid.proofs.acted.has_some_mark.Given as goal

abbrev pub invariant-loop-number : goal.invariant-loop-number
invariant-loop-number l = has_mark l.marks l.numbers ≡ has_mark l.marks (drop l.number-index l.numbers)
