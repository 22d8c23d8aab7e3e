use Rattle.hemtoghai.proofs.Prelude.{◌∙◌, ◌-◌, ◌++◌, ap, List, ℕ, suc, length, drop, take, arith, take_rest, Reads-copied}
use Rattle.hemtoghai.proofs.ends.SliceSourceSource.read.Goals as goal

pub returns-clause-reads : goal.returns-clause-reads
returns-clause-reads c =
    let s = c.self.inside in
    let from = take (length s.bytes.now - s.at) (drop s.at s.bytes.now) in
    let to = c.copy_from_slice.new.self ++ drop c.min-count.result c.args.buf.now in
    rw (← c.self.view_is) (Reads-copied s.bytes.now from c.args.buf.now to s.at (suc (length from)) c.min-count.result 0 (take_rest s.bytes.now s.at) c.self.invariant (omega arith) (c.min-count.ensures ∙ omega arith)
    (ap (λ (xs : List ℕ). xs ++ drop c.min-count.result c.args.buf.now) c.copy_from_slice.ensures.after))
