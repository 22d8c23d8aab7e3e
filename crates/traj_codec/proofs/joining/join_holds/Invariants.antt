use Rattle.traj_codec.proofs.Prelude.{◌≡◌, ◌++◌, drop, joined_from}
use Rattle.traj_codec.proofs.joining.join_holds.Given as goal

-- what is put so far and what is left are all
abbrev pub invariant-loop-s : goal.invariant-loop-s
invariant-loop-s l = l.segments.items ++ joined_from l.held (drop l.s-index l.t.segments) ≡ joined_from 0 l.t.segments
