use Rattle.cue_grid.proofs.Prelude.{◌≡◌, drop, marked}
use Rattle.cue_grid.proofs.acted.mark_each.Given as goal

abbrev pub invariant-loop-number : goal.invariant-loop-number
invariant-loop-number l = marked l.initial.marks.items l.numbers ≡ marked l.marks.items (drop l.number-index l.numbers)
