use Rattle.byte_streams.proofs.Prelude.{◌≡◌, ◌∙◌, ◌-◌, ap, List, ℕ, suc, length, drop, take, arith, refl, take_rest}
use Rattle.byte_streams.proofs.CopiedLemmas.{Reads-copied, sure_on}
use Rattle.byte_streams.proofs.sure.SureSourceSource.read.Goals as goal

pub returns-clause-reads : goal.returns-clause-reads
returns-clause-reads c =
    let s = c.self.inside in
    let from = take (length c.deref.result.now - s.at) (drop s.at c.deref.result.now) in
    rw (← c.self.view_is) (Reads-copied s.bytes.items from c.args.buf.now c.copy_front-count.new.to s.at (suc (length from)) c.copy_front-count.result 0 (take_rest c.deref.result.now s.at ∙ ap (λ (xs : List ℕ). drop s.at xs) c.deref.ensures.value) c.self.invariant (omega arith) (c.copy_front-count.ensures.count ∙ omega arith) c.copy_front-count.ensures.bytes)

pub returns-clause-gave : goal.returns-clause-gave
returns-clause-gave c =
    let s = c.self.inside in
    let from : take (length c.deref.result.now - s.at) (drop s.at c.deref.result.now) ≡ drop s.at s.bytes.items = take_rest c.deref.result.now s.at ∙ ap (λ (xs : List ℕ). drop s.at xs) c.deref.ensures.value in
    let on = sure_on s.bytes.items s.at c.copy_front-count.result (length c.args.buf.now) c.self.invariant (c.copy_front-count.ensures.count ∙ rw from (omega arith)) in
    rw (← c.self.view_is, on.0, on.1) refl
