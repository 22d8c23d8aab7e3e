use Rattle.upload_core.proofs.Prelude.{◌∙◌, sym, subst, Phase, Loading, Reading, Starting, marked, IsBegun, RowsStand}
use Rattle.upload_core.proofs.Phases.{phase-is, phase-last, begun-more, rows-complete, rows-open}
use Rattle.upload_core.proofs.rows.advance.Goals as goal

pub returns-then-not-is_settled-clause-phase : goal.returns-then-not-is_settled-clause-phase
returns-then-not-is_settled-clause-phase c =
    phase-is c.args.session.now c.args.phase (marked c.args.rows.now) c.requires.begun
    (rows-open c.args.session.now c.args.phase c.args.rows.now c.requires.rows (sym c.is_settled.ensures ∙ c.if-not-is_settled.true))

pub returns-in-Reading-clause-phase : goal.returns-in-Reading-clause-phase
returns-in-Reading-clause-phase c =
    let stand : RowsStand c.args.session.now Reading c.args.rows.now
    = subst (λ (p : Phase). RowsStand c.args.session.now p c.args.rows.now) c.in-Reading.is c.requires.rows in
    let begun : IsBegun c.args.session.now (marked c.args.rows.now) Reading
    = subst (IsBegun c.args.session.now (marked c.args.rows.now)) c.in-Reading.is c.requires.begun in
    phase-last c.args.session.now (marked c.begin-in-Reading.new.rows)
    (begun-more c.args.session.now (marked c.args.rows.now) (marked c.begin-in-Reading.new.rows) (λ d k e. c.begin-in-Reading.ensures.marks d k ∙ e) Starting
    (begun, rows-complete c.args.session.now Reading c.args.rows.now stand (sym c.is_settled.ensures ∙ c.if-not-is_settled.false)))

pub returns-in-Starting-clause-phase : goal.returns-in-Starting-clause-phase
returns-in-Starting-clause-phase c =
    phase-last c.args.session.now (marked c.args.rows.now) (subst (IsBegun c.args.session.now (marked c.args.rows.now)) c.in-Starting.is c.requires.begun)

pub returns-then-not-is_settled-2-clause-phase : goal.returns-then-not-is_settled-2-clause-phase
returns-then-not-is_settled-2-clause-phase c =
    let stand : RowsStand c.args.session.now Loading c.args.rows.now
    = subst (λ (p : Phase). RowsStand c.args.session.now p c.args.rows.now) c.in-Loading.is c.requires.rows in
    phase-is c.args.session.now Reading (marked c.begin.new.rows)
    (begun-more c.args.session.now (marked c.args.rows.now) (marked c.begin.new.rows) (λ d k e. c.begin.ensures.marks d k ∙ e) Reading
    (rows-complete c.args.session.now Loading c.args.rows.now stand (sym c.is_settled.ensures ∙ c.if-not-is_settled.false)))
    (rows-open c.args.session.now Reading c.begin.new.rows c.begin.ensures.rows (sym c.is_settled-2.ensures ∙ c.if-not-is_settled-2.true))

pub returns-clause-phase : goal.returns-clause-phase
returns-clause-phase c =
    let stand : RowsStand c.args.session.now Loading c.args.rows.now
    = subst (λ (p : Phase). RowsStand c.args.session.now p c.args.rows.now) c.in-Loading.is c.requires.rows in
    phase-last c.args.session.now (marked c.begin-2.new.rows)
    (begun-more c.args.session.now (marked c.begin.new.rows) (marked c.begin-2.new.rows) (λ d k e. c.begin-2.ensures.marks d k ∙ e) Starting (
      begun-more c.args.session.now (marked c.args.rows.now) (marked c.begin.new.rows) (λ d k e. c.begin.ensures.marks d k ∙ e) Reading
          (rows-complete c.args.session.now Loading c.args.rows.now stand (sym c.is_settled.ensures ∙ c.if-not-is_settled.false)),
      rows-complete c.args.session.now Reading c.begin.new.rows c.begin.ensures.rows (sym c.is_settled-2.ensures ∙ c.if-not-is_settled-2.false),
    ))
