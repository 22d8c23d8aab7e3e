use Rattle.pair_search.proofs.Prelude.{arith}
use Rattle.pair_search.proofs.HighBits.{highest_set}
use Rattle.pair_search.proofs.marking.highest.Goals as goal

pub returns-clause-set : goal.returns-clause-set
returns-clause-set c = (highest_set c.args.bits (omega (arith, c.requires)) c.ranges.bits.fits).1

pub returns-clause-above : goal.returns-clause-above
returns-clause-above c = (highest_set c.args.bits (omega (arith, c.requires)) c.ranges.bits.fits).2
