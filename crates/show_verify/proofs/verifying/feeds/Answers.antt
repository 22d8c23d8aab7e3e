use Rattle.show_verify.proofs.Prelude.{common_steps, cond, arith}
use Rattle.show_verify.proofs.SecondLemmas.{feeds_next}
use Rattle.show_verify.proofs.verifying.feeds.Goals as goal

pub loop-b-preserved : goal.loop-b-preserved
loop-b-preserved c = grind (arith, common_steps, cond, feeds_next)
