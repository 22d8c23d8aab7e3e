use Rattle.choreo_lines.proofs.Prelude.{◌+◌, ◌++◌, length, IsMoved}
use Rattle.choreo_lines.proofs.quantity.moved.Given as goal

abbrev pub invariant-loop-place : goal.invariant-loop-place
invariant-loop-place l =
    IsMoved (l.whole ++ l.fraction) (length l.whole + l.fn.shift.right) l.fn.shift.left l.place l.number l.places
