use Rattle.figure_expand.proofs.Prelude.{◌≡◌, ◌++◌, drop, start_points}
use Rattle.figure_expand.proofs.range.points_of.Given as goal

-- the points so far
abbrev pub invariant-loop-start : goal.invariant-loop-start
invariant-loop-start l = l.points.items ++ start_points (drop l.start-index l.starts) ≡ start_points l.starts
