use Rattle.upload_core.proofs.Prelude.{common_steps, ◌≡◌, ◌∙◌, ◌<◌, Bool, true, false, cond, [], ap, sym, ℕ, arith, Going, Done, drone_count, phase_of, row_at, marked, in_windows}
use Rattle.upload_core.proofs.Windows.{empty-all}
use Rattle.upload_core.proofs.Phases.{phase-is, rows-complete, rows-open, all-open, all-done}
use Rattle.upload_core.proofs.Settling.{IsLess, less-begun, less-counts_in, less-sent, later-counts, later-sent, low-rows}
use Rattle.upload_core.proofs.answers.acknowledge.Goals as goal
use Rattle.upload_core.proofs.answers.acknowledge.Goals.{After-is_settled}

less : (c : After-is_settled) → IsLess c.args.session.now c.args.phase.now c.args.drone c.args.k c.args.rows.now c.settle.new.rows
less c = grind (arith, common_steps)

-- ---- something of the phase is in flight

stays : (c : After-is_settled) → c.is_settled.result ≡ false → c.args.phase.now ≡ phase_of c.args.session.now (marked c.settle.new.rows)
stays c some =
    phase-is c.args.session.now c.args.phase.now (marked c.settle.new.rows)
    (less-begun c.args.session.now c.args.phase.now c.args.drone c.args.k c.args.rows.now c.settle.new.rows (less c))
    (rows-open c.args.session.now c.args.phase.now c.settle.new.rows c.settle.ensures.rows (sym c.is_settled.ensures ∙ some))

pub returns-then-not-is_settled-clause-phase : goal.returns-then-not-is_settled-clause-phase
returns-then-not-is_settled-clause-phase c = stays (goal.at.returns-then-not-is_settled-clause-phase c).After-is_settled c.if-not-is_settled.true

pub returns-then-not-is_settled-clause-counts : goal.returns-then-not-is_settled-clause-counts
returns-then-not-is_settled-clause-counts c =
    let w = (goal.at.returns-then-not-is_settled-clause-counts c).After-is_settled in
    less-counts_in c.args.session.now c.args.phase.now c.args.drone c.args.k c.args.rows.now c.settle.new.rows (less w) (stays w c.if-not-is_settled.true)

pub returns-then-not-is_settled-clause-answer : goal.returns-then-not-is_settled-clause-answer
returns-then-not-is_settled-clause-answer c =
    sym (ap (λ (b : Bool). cond b Done Going)
    (all-open c.args.session.now c.args.phase.now (marked c.settle.new.rows)
    (rows-open c.args.session.now c.args.phase.now c.settle.new.rows c.settle.ensures.rows (sym c.is_settled.ensures ∙ c.if-not-is_settled.true))))

pub returns-then-not-is_settled-clause-sent : goal.returns-then-not-is_settled-clause-sent
returns-then-not-is_settled-clause-sent c =
    let w = (goal.at.returns-then-not-is_settled-clause-sent c).After-is_settled in
    c.settle.ensures.sent
    ∙ less-sent c.args.session.now c.args.phase.now c.args.drone c.args.k c.args.rows.now c.settle.new.rows (less w) (stays w c.if-not-is_settled.true)

-- ---- the phase is complete

pub advance-requires-clause-begun : goal.advance-requires-clause-begun
advance-requires-clause-begun c =
    less-begun c.args.session.now c.args.phase.now c.args.drone c.args.k c.args.rows.now c.settle.new.rows (less (goal.at.advance-requires-clause-begun c).After-is_settled)

-- nothing of it is in flight
abbrev None-in_flight : (c : After-is_settled) → Type 0
None-in_flight c = (i : ℕ) → i < drone_count c.args.session.now → (row_at c.settle.new.rows i).window.items ≡ []

none : (c : After-is_settled) → c.is_settled.result ≡ true → None-in_flight c
none c all i l = empty-all c.settle.new.rows (sym c.is_settled.ensures ∙ all) i

pub returns-then-is_settled-clause-counts : goal.returns-then-is_settled-clause-counts
returns-then-is_settled-clause-counts c =
    let w = (goal.at.returns-then-is_settled-clause-counts c).After-is_settled in
    later-counts c.args.session.now c.args.phase.now c.args.drone c.args.k c.args.rows.now c.settle.new.rows (less w) (none w c.if-not-is_settled.false)
    c.advance.result c.advance.new.rows c.advance.ensures.rows c.advance.ensures.phase c.advance.ensures.marks
    (c.advance.ensures.counts (sym c.is_settled.ensures ∙ c.if-not-is_settled.false))

pub returns-then-is_settled-clause-answer : goal.returns-then-is_settled-clause-answer
returns-then-is_settled-clause-answer c =
    sym (ap (λ (b : Bool). cond b Done Going)
    (all-done c.args.session.now c.advance.result (marked c.advance.new.rows) c.advance.ensures.phase
    (rows-complete c.args.session.now c.advance.result c.advance.new.rows c.advance.ensures.rows (sym c.is_settled-2.ensures ∙ c.if-is_settled.true))))

pub returns-clause-counts : goal.returns-clause-counts
returns-clause-counts c =
    let w = (goal.at.returns-clause-counts c).After-is_settled in
    later-counts c.args.session.now c.args.phase.now c.args.drone c.args.k c.args.rows.now c.settle.new.rows (less w) (none w c.if-not-is_settled.false)
    c.advance.result c.advance.new.rows c.advance.ensures.rows c.advance.ensures.phase c.advance.ensures.marks
    (c.advance.ensures.counts (sym c.is_settled.ensures ∙ c.if-not-is_settled.false))

pub returns-clause-low : goal.returns-clause-low
returns-clause-low c low =
    low-rows c.args.session.now c.advance.result c.advance.new.rows c.advance.ensures.rows (c.advance.ensures.counts (sym c.is_settled.ensures ∙ c.if-not-is_settled.false))

pub returns-clause-answer : goal.returns-clause-answer
returns-clause-answer c =
    sym (ap (λ (b : Bool). cond b Done Going)
    (all-open c.args.session.now c.advance.result (marked c.advance.new.rows)
    (rows-open c.args.session.now c.advance.result c.advance.new.rows c.advance.ensures.rows (sym c.is_settled-2.ensures ∙ c.if-is_settled.false))))

pub returns-clause-sent : goal.returns-clause-sent
returns-clause-sent c =
    let w = (goal.at.returns-clause-sent c).After-is_settled in
    c.put_flight.ensures
    ∙ ap (λ (n : ℕ). in_windows c.advance.new.rows n) c.advance.ensures.rows.count
    ∙ later-sent c.args.session.now c.args.phase.now c.args.drone c.args.k c.args.rows.now c.settle.new.rows (less w) (none w c.if-not-is_settled.false)
    c.advance.result c.advance.new.rows c.advance.ensures.rows c.advance.ensures.phase c.advance.ensures.marks
