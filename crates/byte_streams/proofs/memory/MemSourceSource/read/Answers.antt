use Rattle.byte_streams.proofs.Prelude.{common_steps, ◌∙◌, ap, List, ℕ, drop, arith, drop-drop, take_rest}
use Rattle.byte_streams.proofs.CopiedLemmas.{Reads-copied, given_on}
use Rattle.byte_streams.proofs.memory.MemSourceSource.read.Goals as goal

pub returns-clause-reads : goal.returns-clause-reads
returns-clause-reads c =
    let s = c.self.inside in
    rw (← c.self.view_is) (Reads-copied s.bytes.items _ c.args.buf.now c.copy_front-count.new.to s.at s.cut c.copy_front-count.result s.faults (take_rest c.deref-2.result.now s.at ∙ ap (λ (xs : List ℕ). drop s.at xs) c.deref-2.ensures.value) c.self.invariant.0 (omega arith) c.copy_front-count.ensures.count c.copy_front-count.ensures.bytes)

pub returns-clause-gave : goal.returns-clause-gave
returns-clause-gave c =
    let s = c.self.inside in
    let on = given_on s.bytes.items s.at c.copy_front-count.result c.self.invariant.0 in
    rw (← c.self.view_is, ← on) grind (arith, common_steps, drop-drop)
