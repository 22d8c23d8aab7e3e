use Rattle.byte_streams.proofs.Prelude.{arith}
use Rattle.byte_streams.proofs.WaitingLemmas.{between_is}
use Rattle.byte_streams.proofs.parts.Parts.waiting.Goals as goal

pub returns-clause-value : goal.returns-clause-value
returns-clause-value c = rw (← c.self.view_is) (between_is c.self.inside.start c.self.inside.end c.self.inside.buf (omega arith))
