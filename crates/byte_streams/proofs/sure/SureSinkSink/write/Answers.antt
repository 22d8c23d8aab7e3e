use Rattle.byte_streams.proofs.Prelude.{common_steps, take, arith}
use Rattle.byte_streams.proofs.CopiedLemmas.{keeps}
use Rattle.byte_streams.proofs.sure.SureSinkSink.write.Goals as goal

pub returns-clause-kept : goal.returns-clause-kept
returns-clause-kept c = grind (arith, common_steps, take, keeps)
