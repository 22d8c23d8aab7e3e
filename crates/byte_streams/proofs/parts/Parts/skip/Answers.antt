use Rattle.byte_streams.proofs.Prelude.{arith}
use Rattle.byte_streams.proofs.WaitingLemmas.{skipped}
use Rattle.byte_streams.proofs.parts.Parts.skip.Goals as goal

pub returns-clause-waiting : goal.returns-clause-waiting
returns-clause-waiting c = rw (← c.self.view_is, c.min-self-inside.ensures) (skipped c.self.inside.start c.self.inside.end c.args.count c.self.inside.buf (omega arith))
