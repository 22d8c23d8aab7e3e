use Rattle.bezier_core.proofs.Prelude.{at}
use Rattle.bezier_core.proofs.PolarLemmas.{chain}
use Rattle.bezier_core.proofs.halves.chain_law.Goals as goal

pub returns-clause-here : goal.returns-clause-here
returns-clause-here c k within = chain c.args.p.depth c.args.p.index k (at c.args.b.now.b) c.requires.valid.1 within

pub returns-clause-everywhere : goal.returns-clause-everywhere
returns-clause-everywhere c f depth index k inside within = chain depth index k f inside within
