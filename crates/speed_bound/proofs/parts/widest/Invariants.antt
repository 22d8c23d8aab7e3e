use Rattle.speed_bound.proofs.Prelude.{◌≡◌, unsigned_abs, at, greatest_below, differences}
use Rattle.speed_bound.proofs.parts.widest.Given as goal

abbrev pub invariant-loop-i : goal.invariant-loop-i
invariant-loop-i g l = l.widest ≡ greatest_below l.i (λ i. unsigned_abs (differences g.row.K (at l.curve.b) i))
