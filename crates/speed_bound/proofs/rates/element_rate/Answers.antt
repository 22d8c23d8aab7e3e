use Rattle.speed_bound.proofs.RateLemmas.{still_slow}
use Rattle.speed_bound.proofs.rates.element_rate.Goals as goal

pub returns-in-Constant-clause-exact : goal.returns-in-Constant-clause-exact
returns-in-Constant-clause-exact g c = still_slow g.row.K c.args.depth c.args.ms c.args.least c.args.first c.args.element c.requires.order c.in-Constant.is c.requires.duration
