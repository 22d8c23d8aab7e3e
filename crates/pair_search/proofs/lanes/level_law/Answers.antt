use Rattle.pair_search.proofs.Prelude.{◌*◌, ◌^◌, arith, pow_pos, level_below}
use Rattle.pair_search.proofs.lanes.level_law.Goals as goal

pub returns-clause-values : goal.returns-clause-values
returns-clause-values c =
    let depth = c.args.level.now.place.depth in
    level_below depth (2 ^ (7 * depth) * 2 ^ 30) c.args.diff.now c.args.level.now (omega arith) (omega arith) (omega (arith, pow_pos (7 * depth))) c.requires.level c.raised_law.ensures.values
