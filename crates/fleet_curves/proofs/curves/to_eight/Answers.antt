use Rattle.fleet_curves.proofs.Bounds.{raised_small}
use Rattle.fleet_curves.proofs.curves.to_eight.Goals as goal

pub returns-clause-small : goal.returns-clause-small
returns-clause-small g c = rw c.to_eight.ensures.exact (raised_small c.args.curve.now.b (rw c.requires.size c.requires.length) c.requires.values)
