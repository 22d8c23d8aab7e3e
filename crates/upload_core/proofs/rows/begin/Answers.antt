use Rattle.upload_core.proofs.Prelude.{common_steps, ◌≡◌, ◌∙◌, ◌<◌, [], ap, sym, set, get_or, arith, cases_eq, cases_lt, length-set, drone_count, first_of, Row, row_at}
use Rattle.upload_core.proofs.RowLemmas.{row-settled}
use Rattle.upload_core.proofs.Windows.{row-at, row_at-set_same, row_at-set_other}
use Rattle.upload_core.proofs.Walks.{allowed-later, row_at-past, row-empty}
use Rattle.upload_core.proofs.rows.begin.Goals as goal
use Rattle.upload_core.proofs.rows.begin.Goals.{After-end_of}

known : (c : After-end_of) → c.loop-drone.drone < drone_count c.args.session.now
known c = let n = c.requires.rows.count in let m = c.loop-drone.invariant.len in omega arith

-- the row that is indexed is the one from the beginning, of which nothing is in flight
elem : (c : After-end_of) → get_or c.loop-drone.rows c.loop-drone.drone c.index-rows-drone.result ≡ row_at c.args.rows.now c.loop-drone.drone
elem c = grind (arith, common_steps, row-at)

empty : (c : After-end_of) → (row_at c.args.rows.now c.loop-drone.drone).window.items ≡ []
empty c = c.requires.settled c.loop-drone.drone (known c)

next : (c : After-end_of) → (get_or c.loop-drone.rows c.loop-drone.drone c.index-rows-drone.result).next ≡ first_of c.args.session.now c.args.phase c.loop-drone.drone
next c =
    ap (λ (r : Row). r.next) (elem c)
    ∙ (row-settled c.args.session.now c.args.before c.loop-drone.drone (row_at c.args.rows.now c.loop-drone.drone) (c.requires.rows.each c.loop-drone.drone (known c)) (empty c)).0
    ∙ sym (c.requires.next c.loop-drone.drone)

pub admit-requires-clause-row : goal.admit-requires-clause-row
admit-requires-clause-row c = grind (arith, common_steps, elem, row-empty, known, empty)

pub admit-requires-clause-empty : goal.admit-requires-clause-empty
admit-requires-clause-empty c =
    let w = (goal.at.admit-requires-clause-empty c).After-end_of in ap (λ (r : Row). r.window.items) (elem w) ∙ empty w

pub admit-requires-clause-more : goal.admit-requires-clause-more
admit-requires-clause-more c = grind (arith, common_steps, next)

pub loop-drone-preserved : goal.loop-drone-preserved
loop-drone-preserved c = grind (arith, common_steps, next, allowed-later, cases_eq, set, row_at-set_same, row_at-set_other, elem, length-set)

pub returns-clause-rows : goal.returns-clause-rows
returns-clause-rows c = grind (arith, common_steps)

pub returns-clause-counts : goal.returns-clause-counts
returns-clause-counts c d k = grind (arith, common_steps, cases_lt, row_at-past)
