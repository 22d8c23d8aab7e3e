use Rattle.pair_search.proofs.Prelude.{◌≤◌, length, arith, rules, sym, ◌∙◌, AreLeft}
use Rattle.pair_search.proofs.EndLemmas.{left_marks, nothing_left}
use Rattle.pair_search.proofs.Marks.{some_there}
use Rattle.pair_search.proofs.shape.has_direction.Goals as goal

pub returns-then-are_none : goal.returns-then-are_none
returns-then-are_none g c =
    let few : length c.args.ruler.now.directions ≤ 98 = omega (arith, c.count-count.ensures.exact, c.count-count.ensures.few) in
    let left : AreLeft c.args.ruler.now c.args.diff.now c.args.level.now.place c.common-near.result =
    left_marks c.args.ruler.now c.args.diff.now c.args.level.now.place c.args.ends c.common-near.result c.requires.ends c.common-near.ensures.front c.common-near.ensures.back in
    let none = c.are_none.ensures c.if-are_none.true in
    nothing_left c.args.ruler.now c.args.diff.now c.args.level.now.place c.common-near.result few left none.0 none.1

pub some_direction-requires : goal.some_direction-requires
some_direction-requires g c = (
  search rules,
  (
    c.requires.level,
    left_marks c.args.ruler.now c.args.diff.now c.args.level.now.place c.args.ends c.common-near.result c.requires.ends c.common-near.ensures.front c.common-near.ensures.back,
  ),
)

pub returns-then-separates : goal.returns-then-separates
returns-then-separates g c =
    some_there c.args.ruler.now.clearance c.args.diff.now c.args.ruler.now.directions c.args.level.now.place c.args.hint.now
    (omega (arith, c.if-last-count.true, c.count-count.ensures.exact)) (sym c.separates.ensures ∙ c.if-separates.true)
