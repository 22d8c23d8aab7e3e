use Rattle.upload_core.proofs.Prelude.{common_steps, ◌≡◌, ◌∙◌, ◌<◌, ◌≤◌, ◌-◌, not, length, set, get_or, filter, ap, sym, subst, arith, rules, range_with_len, length-set, length-map, first_of, InFlight, Row, packets_in, among, row_at, window_at, IsRow, RowStands}
use Rattle.upload_core.proofs.Windows.{row-at, row_at-set_same, row_at-set_other}
use Rattle.upload_core.proofs.Settling.{row-from_zero, row-until, news-few, set-stands, set-marks, set-low}
use Rattle.upload_core.proofs.answers.settle.Goals as goal
use Rattle.upload_core.proofs.answers.settle.Goals.{After-end_of, After-settle}

-- the row that is indexed is that of the drone
fits : (c : After-end_of) → c.args.drone < length c.args.rows.now
fits c = let n = c.requires.rows.count in let l = c.requires.known in omega arith

first : (c : After-end_of) → get_or c.args.rows.now c.args.drone c.index-rows-drone.result ≡ row_at c.args.rows.now c.args.drone
first c = sym c.index-rows-drone.is ∙ sym (row-at c.args.rows.now c.args.drone c.index-rows-drone.result c.index-rows-drone.is (fits c))

elem : (c : After-end_of) → get_or c.args.rows.now c.args.drone c.index-rows-drone-2.result ≡ row_at c.args.rows.now c.args.drone
elem c = sym c.index-rows-drone-2.is ∙ sym (row-at c.args.rows.now c.args.drone c.index-rows-drone-2.result c.index-rows-drone-2.is (fits c))

stands : (c : After-end_of) → RowStands c.args.session.now c.args.phase c.args.drone (row_at c.args.rows.now c.args.drone)
stands c = c.requires.rows.each c.args.drone c.requires.known

pub settle-requires-clause-row : goal.settle-requires-clause-row
settle-requires-clause-row c =
    let w = (goal.at.settle-requires-clause-row c).After-end_of in
    subst (IsRow 0) (sym (elem w)) (row-from_zero (first_of c.args.session.now c.args.phase c.args.drone) (row_at c.args.rows.now c.args.drone) (stands w).shape)

pub settle-requires-clause-in_flight : goal.settle-requires-clause-in_flight
settle-requires-clause-in_flight c =
    let w = (goal.at.settle-requires-clause-in_flight c).After-end_of in
    ap (λ (r : Row). among (packets_in r.window.items) c.args.k) (elem w) ∙ c.requires.in_flight

pub settle-requires-clause-more : goal.settle-requires-clause-more
settle-requires-clause-more c = grind (arith, common_steps, elem, row-until, stands)

-- ---- the row as it is now

inside : (c : After-settle) → c.args.drone < length c.args.rows.now
inside c = let n = c.requires.rows.count in let l = c.requires.known in omega arith

before : (c : After-settle) → get_or c.args.rows.now c.args.drone c.index-rows-drone.result ≡ row_at c.args.rows.now c.args.drone
before c = sym c.index-rows-drone.is ∙ sym (row-at c.args.rows.now c.args.drone c.index-rows-drone.result c.index-rows-drone.is (inside c))

old : (c : After-settle) → get_or c.args.rows.now c.args.drone c.index-rows-drone-2.result ≡ row_at c.args.rows.now c.args.drone
old c = sym c.index-rows-drone-2.is ∙ sym (row-at c.args.rows.now c.args.drone c.index-rows-drone-2.result c.index-rows-drone-2.is (inside c))

now : (c : After-settle) → RowStands c.args.session.now c.args.phase c.args.drone c.settle.new.self
now c =
    c.settle.ensures.stands c.args.session.now c.args.phase c.args.drone
    (subst (RowStands c.args.session.now c.args.phase c.args.drone) (sym (old c)) (c.requires.rows.each c.args.drone c.requires.known)) c.end_of.ensures.value

news : (c : After-settle) → filter (λ j. not (among (window_at c.args.rows.now c.args.drone) j)) (packets_in c.settle.new.self.window.items)
    ≡ range_with_len (row_at c.args.rows.now c.args.drone).next (c.settle.new.self.next - (row_at c.args.rows.now c.args.drone).next)
news c =
    subst (λ (r : Row). filter (λ j. not (among (packets_in r.window.items) j)) (packets_in c.settle.new.self.window.items) ≡ range_with_len r.next (c.settle.new.self.next - r.next))
    (old c) c.settle.ensures.news

few : (c : After-settle) → c.settle.new.self.next - (row_at c.args.rows.now c.args.drone).next ≤ 4
few c =
    news-few (window_at c.args.rows.now c.args.drone) (packets_in c.settle.new.self.window.items) (row_at c.args.rows.now c.args.drone).next
    (c.settle.new.self.next - (row_at c.args.rows.now c.args.drone).next) (news c)
    (let long = length-map c.settle.new.self.window.items (λ (e : InFlight). e.packet) in let most = (now c).shape.few in omega (arith, long, most))

-- the row that is read again is the new one
again : (c : After-settle) (r : Row) → r ≡ get_or (set c.args.rows.now c.args.drone c.settle.new.self) c.args.drone r →
    get_or (set c.args.rows.now c.args.drone c.settle.new.self) c.args.drone r ≡ c.settle.new.self
again c r is = grind (arith, common_steps, row-at, set, inside, length-set, row_at-set_same)

pub put_news-requires-clause-few : goal.put_news-requires-clause-few
put_news-requires-clause-few c = grind (arith, common_steps, before, set, again, few)

pub returns-clause-rows : goal.returns-clause-rows
returns-clause-rows c =
    let w = (goal.at.returns-clause-rows c).After-settle in
    set-stands c.args.rows.now c.args.drone c.settle.new.self (inside w) c.args.session.now c.args.phase c.requires.rows (now w)

pub returns-clause-marks : goal.returns-clause-marks
returns-clause-marks c = grind (arith, common_steps, set-marks, inside, old)

pub returns-clause-others : goal.returns-clause-others
returns-clause-others c d other = row_at-set_other c.args.rows.now c.args.drone d c.settle.new.self other

pub returns-clause-counts : goal.returns-clause-counts
returns-clause-counts c j other = grind (arith, common_steps, row_at-set_same, inside, old)

pub returns-clause-low : goal.returns-clause-low
returns-clause-low c = search (rules, set-low, inside, old)

pub returns-clause-len : goal.returns-clause-len
returns-clause-len c = length-set c.args.rows.now c.args.drone c.settle.new.self

pub returns-clause-sent : goal.returns-clause-sent
returns-clause-sent c = grind (arith, common_steps, set, before, again, news, filter, not, row_at-set_same, inside)
