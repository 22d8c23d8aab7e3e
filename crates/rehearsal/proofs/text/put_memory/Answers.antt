-- Why `put_memory` keeps its contract: row by row.
use Rattle.rehearsal.proofs.Prelude.{◌≡◌, ◌∙◌, ◌++◌, ℕ, ap, arith, flat_map, range_with_len, memory_line, memory_lines}
use Rattle.rehearsal.proofs.TextLemmas.{rows-more}
use Rattle.rehearsal.proofs.text.put_memory.Goals as goal

pub loop-k-preserved : goal.loop-k-preserved
loop-k-preserved c = rows-more c.args.text.now c.args.memory.now c.loop-k.k c.loop-k.text c.put_row.new.text c.loop-k.invariant c.in_ok-put_row.ensures

pub returns : goal.returns
unfolding memory_lines
returns c =
    let over : c.loop-k.k ≡ 128 = omega arith in
    c.loop-k.invariant ∙ ap (λ (n : ℕ). c.args.text.now ++ flat_map (memory_line c.args.memory.now) (range_with_len 0 n)) over
