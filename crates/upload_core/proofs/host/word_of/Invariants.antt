use Rattle.upload_core.proofs.Prelude.{◌+◌, ◌*◌, ◌&&◌, nat_lt, is_marked}
use Rattle.upload_core.proofs.Looking.{AreBits}
use Rattle.upload_core.proofs.host.word_of.Given as goal

abbrev pub invariant-loop-k : goal.invariant-loop-k
invariant-loop-k l = AreBits (λ j. nat_lt (64 * l.w + j) l.count && is_marked l.row (64 * l.w + j)) l.k l.word
