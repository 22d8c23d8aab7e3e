-- Words of private steps: how far a walk over the segments has come. No public clause cites them.
use Rattle.std.specs.Prelude.{ℕ, zero, suc, ℤ, List, [], ◌∷◌}
use Rattle.whole_numbers.specs.Bernstein.{at}
use Rattle.traj_codec.specs.declared.traj.Segment.{Segment}
use Rattle.traj_codec.specs.declared.traj.Traj.{Traj}
use Rattle.traj_codec.specs.Positions.{element_on, value_after}

-- the value on an axis before the segment with this number, over segments that begin with a value
abbrev pub value_before : ℤ → ℕ → List Segment → ℕ → ℤ
value_before first axis segments zero = first
value_before first axis [] (suc k) = first
value_before first axis (s ∷ rest) (suc k) = value_before (value_after first (element_on s axis)) axis rest k

-- the value of a trajectory on an axis at an edge
abbrev pub value_at : Traj → ℕ → ℕ → ℤ
value_at t axis edge = value_before (at t.start axis) axis t.segments edge
