use Rattle.speed_bound.proofs.Prelude.{◌-◌, ◌*◌, ◌≤◌, arith}
use Rattle.speed_bound.proofs.Halves.{room_of}
use Rattle.speed_bound.proofs.parts.widest_of.Goals as goal

pub widest_by-requires-clause-values : goal.widest_by-requires-clause-values
widest_by-requires-clause-values c k d inside = room_of 120 c.args.depth _ (omega arith) (c.requires.values k d inside)

pub widest_by-requires-else-levels-lt4-clause-values : goal.widest_by-requires-else-levels-lt4-clause-values
widest_by-requires-else-levels-lt4-clause-values c k d inside =
    let few : 84 - 7 * c.args.depth ≤ 56 = omega (arith, c.levels.ensures.same, c.if-levels-lt4.false) in
    room_of 56 c.args.depth _ few (c.requires.values k d inside)
