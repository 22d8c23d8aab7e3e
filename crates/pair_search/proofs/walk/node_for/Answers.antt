use Rattle.pair_search.proofs.Prelude.{rules}
use Rattle.pair_search.proofs.EndLemmas.{left_marks}
use Rattle.pair_search.proofs.walk.node_for.Goals as goal

pub first_direction-requires : goal.first_direction-requires
first_direction-requires g c = (
  search rules,
  (
    c.requires.level,
    left_marks c.args.ruler.now c.args.diff.now c.args.level.now.place c.args.ends c.common.result c.requires.ends c.common.ensures.front c.common.ensures.back,
  ),
)
