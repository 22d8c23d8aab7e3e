use Rattle.rehearsal.proofs.Prelude.{◌≡◌, ℕ, ℤ, ◌<◌, take, fold}
use Rattle.whole_numbers.specs.Bernstein.{at}
use Rattle.traj_codec.specs.declared.traj.Segment.{Segment}
use Rattle.traj_codec.specs.Positions.{element_on, value_after}
use Rattle.rehearsal.proofs.text.ends_of.Given as goal

abbrev pub invariant-loop-s : goal.invariant-loop-s
invariant-loop-s l = (axis : ℕ) → axis < 4 → at l.ends axis ≡ fold (λ (v : ℤ) (s : Segment). value_after v (element_on s axis)) (at l.fn.t.start axis) (take l.s-index l.fn.t.segments)
