use Rattle.rehearsal.proofs.Prelude.{◌≡◌, ◌++◌, flat_map, range_with_len, memory_line}
use Rattle.rehearsal.proofs.text.put_memory.Given as goal

abbrev pub invariant-loop-k : goal.invariant-loop-k
invariant-loop-k l = l.text ≡ l.initial.text ++ flat_map (memory_line l.memory) (range_with_len 0 l.k)
