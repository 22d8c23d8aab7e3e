-- Why `pass` keeps its contract, where a write fails.
use Rattle.integer_player.proofs.Prelude.{arith, common_steps}
use Rattle.integer_player.proofs.ShowLemmas.{fails-with, front-more}
use Rattle.integer_player.proofs.show.pass.Goals as goal

pub returns-in_err-write_whole-clause-front : goal.returns-in_err-write_whole-clause-front
returns-in_err-write_whole-clause-front g c = grind (arith, common_steps, fails-with, front-more)
