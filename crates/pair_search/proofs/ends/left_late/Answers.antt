use Rattle.pair_search.proofs.EndLemmas.{either_clear}
use Rattle.pair_search.proofs.ends.left_late.Goals as goal

pub returns-clause-front : goal.returns-clause-front
returns-clause-front c = λ i clear. either_clear c.args.late.first.front c.args.late.last.front i clear

pub returns-clause-back : goal.returns-clause-back
returns-clause-back c = λ i clear. either_clear c.args.ends.first.back c.args.ends.last.back i clear
