use Rattle.show_looks.proofs.Prelude.{◌≡◌, ◌+◌, map, take, chunk_count_of}
use Rattle.show_looks.proofs.numbers.packets.Given as goal

-- the packets so far
abbrev pub invariant-loop-size : goal.invariant-loop-size
invariant-loop-size l = l.packets.items ≡ map (λ n. chunk_count_of n + 1) (take l.size-index l.sizes)
