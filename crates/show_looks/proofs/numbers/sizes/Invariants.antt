use Rattle.show_looks.proofs.Prelude.{◌≡◌, map, take, size}
use Rattle.show_looks.proofs.numbers.sizes.Given as goal

-- the sizes so far
abbrev pub invariant-loop-t : goal.invariant-loop-t
invariant-loop-t l = l.sizes.items ≡ map size (take l.t-index l.trajs)
