use Rattle.pair_search.proofs.EndLemmas.{either_clear}
use Rattle.pair_search.proofs.marking.common.Goals as goal

pub returns-clause-front : goal.returns-clause-front
returns-clause-front c = λ i clear. either_clear c.args.a.front c.args.b.front i clear

pub returns-clause-back : goal.returns-clause-back
returns-clause-back c = λ i clear. either_clear c.args.a.back c.args.b.back i clear
