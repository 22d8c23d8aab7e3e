use Rattle.figure_expand.proofs.Prelude.{◌≡◌}
use Rattle.figure_expand.proofs.Unfit.{moved}
use Rattle.figure_expand.proofs.range.advance.Given as goal

-- this many points are moved
abbrev pub invariant-loop-d : goal.invariant-loop-d
invariant-loop-d l = l.points ≡ moved l.d l.initial.points l.jobs
