use Rattle.sep_parts.proofs.Prelude.{weights}
use Rattle.sep_parts.proofs.Lows.{wider}
use Rattle.sep_parts.proofs.Weighted.{along_small}
use Rattle.sep_parts.proofs.part.projected.Goals as goal

pub along-requires-clause-values : goal.along-requires-clause-values
along-requires-clause-values c k d inside k' d' inside' = wider _ (c.requires.values k d inside k' d' inside')

pub returns-clause-small : goal.returns-clause-small
returns-clause-small c =
    along_small c.args.diff.now c.long_weights.result (weights c.args.n c.args.r c.args.h) c.along.result.b c.long_weights.ensures.small c.long_weights.ensures.exact c.requires.values c.along.ensures.exact
