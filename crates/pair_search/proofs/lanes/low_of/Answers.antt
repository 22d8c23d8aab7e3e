use Rattle.pair_search.proofs.Prelude.{common_steps, pos, lit<, arith, to_z-of_z, below_at}
use Rattle.pair_search.proofs.LaneLemmas.{long_fits, low_reach, low_small, low_told}
use Rattle.pair_search.proofs.lanes.low_of.Goals as goal

pub overflow_sub-result-3 : goal.overflow_sub-result-3
overflow_sub-result-3 c = (low_told c.whole_steps-reach.result c.slack.result c.slack-2.result c.slack-3.result c.whole_steps-reach.ensures.positive c.whole_steps-reach.ensures.small c.slack.ensures.small c.slack-2.ensures.small c.slack-3.ensures.small).0

pub overflow_cast-result : goal.overflow_cast-result
overflow_cast-result c = (low_told c.whole_steps-reach.result c.slack.result c.slack-2.result c.slack-3.result c.whole_steps-reach.ensures.positive c.whole_steps-reach.ensures.small c.slack.ensures.small c.slack-2.ensures.small c.slack-3.ensures.small).1

pub returns-clause-small : goal.returns-clause-small
returns-clause-small c =
    rw ((low_told c.whole_steps-reach.result c.slack.result c.slack-2.result c.slack-3.result c.whole_steps-reach.ensures.positive c.whole_steps-reach.ensures.small c.slack.ensures.small c.slack-2.ensures.small c.slack-3.ensures.small).2)
    (low_small c.whole_steps-reach.result c.slack.result c.slack-2.result c.slack-3.result c.whole_steps-reach.ensures.positive c.whole_steps-reach.ensures.small c.slack.ensures.small c.slack-2.ensures.small c.slack-3.ensures.small)

pub returns-clause-reach : goal.returns-clause-reach
returns-clause-reach c = grind (arith, common_steps, below_at, lit<, long_fits, to_z-of_z, pos, low_told, low_reach)
