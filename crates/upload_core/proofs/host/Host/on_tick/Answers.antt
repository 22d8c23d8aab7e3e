use Rattle.upload_core.proofs.Prelude.{common_steps, ◌≡◌, ◌∙◌, ◌==◌, ◌<◌, ℕ, ◌∷◌, ◌++◌, [], List, length, map, ap, sym, subst, arith, find, with_items, with_items_is, length-map, Going, phase_of, gave_up, if_going, progress, out, if_going-fits, Row, HostState, view_of, HostStandsFor, row_at, marked, counted, older_row, IsRow, RowsStand, IsReady, in_windows}
use Rattle.upload_model.specs.declared.events.Event.TheVariants as event
use Rattle.upload_core.proofs.Windows.{windows-flight}
use Rattle.upload_core.proofs.Standing.{flight_after-known, older-rows, older-phase, row-shape, ready-tick, answer-tick, stands-tick, sent-tick}
use Rattle.upload_core.proofs.host.Host.on_tick.Goals as goal
use Rattle.upload_core.proofs.host.Host.on_tick.Goals.{After-tick-answer}

going_inside : (c : After-tick-answer) → c.self.inside.progress ≡ Going
going_inside c = ap (λ (v : HostState). v.progress) c.self.view_is ∙ c.requires.going

-- the host before the tick
seen_by : (c : After-tick-answer) →
    c.args.self.now ≡ record { session = c.self.inside.session; rows = c.self.inside.rows.items; phase = c.self.inside.phase; progress = Going }
seen_by c =
    sym c.self.view_is
    ∙ (λ i. record { session = c.self.inside.session; rows = c.self.inside.rows.items; phase = c.self.inside.phase; progress = going_inside c i })

-- the rows after it
aged : (c : After-tick-answer) → c.tick-answer.new.rows ≡ map older_row c.self.inside.rows.items
aged c = c.tick-answer.ensures.rows ∙ ap (map older_row) c.as_mut_slice.ensures.value

written : (c : After-tick-answer) → (with_items c.self.inside.rows c.tick-answer.new.rows).items ≡ map older_row c.self.inside.rows.items
written c =
    with_items_is c.self.inside.rows c.tick-answer.new.rows (ap (λ (rows : List Row). length rows) (aged c) ∙ length-map c.self.inside.rows.items older_row ∙ (omega arith))
    ∙ aged c

answered : (c : After-tick-answer) → c.tick-answer.result
    ≡ gave_up (find (λ x. counted (map older_row c.self.inside.rows.items) x.drone x.packet == 20) (in_windows c.self.inside.rows.items (length c.self.inside.rows.items)))
answered c = grind (arith, common_steps, aged)

sent_is : (c : After-tick-answer) → c.tick-answer.new.out.items ≡ if_going c.tick-answer.result (in_windows c.self.inside.rows.items (length c.self.inside.rows.items))
sent_is c =
    c.tick-answer.ensures.sent
    ∙ ap (λ (rows : List Row). if_going c.tick-answer.result (in_windows rows (length rows))) c.as_mut_slice.ensures.value

pub tick-answer-requires-clause-rows : goal.tick-answer-requires-clause-rows
tick-answer-requires-clause-rows c =
    subst (λ (rows : List Row). (d : ℕ) → d < length rows → IsRow 0 (row_at rows d)) (sym c.as_mut_slice.ensures.value)
    (row-shape c.self.inside.session c.self.inside.phase c.self.inside.rows.items c.self.invariant.0)

pub invariant_of-self : goal.invariant_of-self
invariant_of-self c =
    let w = (goal.at.invariant_of-self c).After-tick-answer in (
      subst (RowsStand c.self.inside.session c.self.inside.phase) (sym (written w)) (older-rows c.self.inside.session c.self.inside.phase c.self.inside.rows.items c.self.invariant.0),
      c.self.invariant.1,
      c.self.invariant.2 ∙ older-phase c.self.inside.session c.self.inside.rows.items ∙ ap (λ (rows : List Row). phase_of c.self.inside.session (marked rows)) (sym (written w)),
      (λ going.
          subst (IsReady c.self.inside.session) (sym (written w))
          (ready-tick c.self.inside.session c.self.inside.phase c.self.inside.rows.items c.self.invariant.0 c.tick-answer.result (answered w) (c.self.invariant.3 (going_inside w)) going)),
    )

pub returns-clause-stands : goal.returns-clause-stands
returns-clause-stands c h stands =
    let w = (goal.at.returns-clause-stands c).After-tick-answer in
    let here = subst (λ (v : HostState). HostStandsFor (view_of v) h) (seen_by w) stands in
    subst (λ (rows : List Row). HostStandsFor (view_of (record { session = c.self.inside.session; rows = rows; phase = c.self.inside.phase; progress = c.tick-answer.result })) (h ++ event.Tick ∷ [])) (sym (written w))
    (stands-tick c.self.inside.session c.self.inside.phase c.self.inside.rows.items c.self.invariant.0 c.self.invariant.2 c.tick-answer.result (answered w) h here)

pub returns-clause-sent : goal.returns-clause-sent
returns-clause-sent c h stands =
    let w = (goal.at.returns-clause-sent c).After-tick-answer in
    let here = subst (λ (v : HostState). HostStandsFor (view_of v) h) (seen_by w) stands in
    sent_is w
    ∙ sent-tick c.self.inside.session c.self.inside.phase c.self.inside.rows.items c.self.invariant.0 c.self.invariant.2 c.tick-answer.result (answered w) h here
    ∙ ap (λ (v : HostState). out v.session h event.Tick) c.self.view_is

pub returns-clause-answer : goal.returns-clause-answer
returns-clause-answer c h stands =
    let w = (goal.at.returns-clause-answer c).After-tick-answer in
    let here = subst (λ (v : HostState). HostStandsFor (view_of v) h) (seen_by w) stands in
    answer-tick c.self.inside.session c.self.inside.phase c.self.inside.rows.items c.self.invariant.0 c.self.invariant.2 c.tick-answer.result (answered w) h here
    ∙ ap (λ (v : HostState). progress v.session (h ++ event.Tick ∷ [])) c.self.view_is

pub returns-clause-known : goal.returns-clause-known
returns-clause-known c =
    let w = (goal.at.returns-clause-known c).After-tick-answer in
    let flight
    = ap (in_windows c.self.inside.rows.items) c.self.invariant.0.count
    ∙ sym (windows-flight c.self.inside.session c.self.inside.phase c.self.inside.rows.items c.self.invariant.0 c.self.invariant.2) in
    grind (arith, common_steps, sent_is, if_going-fits, flight_after-known)
