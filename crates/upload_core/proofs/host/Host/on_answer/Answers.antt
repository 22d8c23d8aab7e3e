use Rattle.upload_core.proofs.Prelude.{common_steps, ◌≡◌, ◌∙◌, ◌∷◌, ◌++◌, [], List, length, not, ap, sym, subst, arith, All, filter, with_items, with_items_is, All-filter, Going, Sent, flight_after, includes, progress, if_going-fits, Row, HostState, IsPacketOf, view_of, HostStandsFor, marked, RowsStand, IsLow}
use Rattle.upload_model.specs.declared.events.Event.TheVariants as event
use Rattle.upload_core.proofs.Standing.{flight_after-known, ready-hear, answer-hear, stands-hear, sent-hear}
use Rattle.upload_core.proofs.host.Host.on_answer.Goals as goal
use Rattle.upload_core.proofs.host.Host.on_answer.Goals.{After-hear-answer}

going_inside : (c : After-hear-answer) → c.self.inside.progress ≡ Going
going_inside c = ap (λ (v : HostState). v.progress) c.self.view_is ∙ c.requires.going

-- the host as the call of hear sees it
seen_by : (c : After-hear-answer) →
    c.args.self.now ≡ record { session = c.self.inside.session; rows = c.as_mut_slice.result.now; phase = c.self.inside.phase; progress = Going }
seen_by c =
    sym c.self.view_is
    ∙ (λ i. record { session = c.self.inside.session; rows = sym c.as_mut_slice.ensures.value i; phase = c.self.inside.phase; progress = going_inside c i })

written : (c : After-hear-answer) → (with_items c.self.inside.rows c.hear-answer.new.rows).items ≡ c.hear-answer.new.rows
written c =
    with_items_is c.self.inside.rows c.hear-answer.new.rows (c.hear-answer.ensures.len ∙ ap (λ (rows : List Row). length rows) c.as_mut_slice.ensures.value ∙ (omega arith))

low_before : (c : After-hear-answer) → IsLow c.as_mut_slice.result.now
low_before c = subst IsLow (sym c.as_mut_slice.ensures.value) (c.self.invariant.3 (going_inside c)).low

pub hear-answer-requires-clause-rows : goal.hear-answer-requires-clause-rows
hear-answer-requires-clause-rows c = subst (RowsStand c.self.inside.session c.self.inside.phase) (sym c.as_mut_slice.ensures.value) c.self.invariant.0

pub invariant_of-self : goal.invariant_of-self
invariant_of-self c = grind (arith, common_steps, written, ready-hear, low_before)

pub returns-clause-stands : goal.returns-clause-stands
returns-clause-stands c h stands =
    let w = (goal.at.returns-clause-stands c).After-hear-answer in
    let here = subst (λ (v : HostState). HostStandsFor (view_of v) h) (seen_by w) stands in
    subst
    (λ (rows : List Row). HostStandsFor (view_of (record { session = c.self.inside.session; rows = rows; phase = c.hear-answer.new.phase; progress = c.hear-answer.result })) (h ++ event.Up c.args.drone c.args.packet.now ∷ []))
    (sym (written w))
    (stands-hear c.self.inside.session c.as_mut_slice.result.now c.hear-answer.new.rows c.args.drone c.args.packet.now c.hear-answer.result
    c.hear-answer.ensures.marks c.hear-answer.ensures.counts c.hear-answer.ensures.finished c.hear-answer.ensures.unfinished h here)

pub returns-clause-sent : goal.returns-clause-sent
returns-clause-sent c h stands = grind (arith, common_steps, seen_by, sent-hear)

pub returns-clause-answer : goal.returns-clause-answer
returns-clause-answer c h stands =
    let w = (goal.at.returns-clause-answer c).After-hear-answer in
    let here = subst (λ (v : HostState). HostStandsFor (view_of v) h) (seen_by w) stands in
    answer-hear c.self.inside.session c.as_mut_slice.result.now c.hear-answer.new.rows c.args.drone c.args.packet.now c.hear-answer.result
    c.hear-answer.ensures.marks c.hear-answer.ensures.counts c.hear-answer.ensures.finished c.hear-answer.ensures.unfinished h here
    ∙ ap (λ (v : HostState). progress v.session (h ++ event.Up c.args.drone c.args.packet.now ∷ [])) c.self.view_is

pub returns-clause-known : goal.returns-clause-known
returns-clause-known c =
    subst (λ (v : HostState). All (IsPacketOf v.session) c.hear-answer.new.out.items) c.self.view_is
    (subst (λ (xs : List Sent). All (IsPacketOf c.self.inside.session) xs) (sym c.hear-answer.ensures.sent)
    (if_going-fits (IsPacketOf c.self.inside.session) c.hear-answer.result
    (filter (λ x. not (includes (flight_after c.self.inside.session (marked c.as_mut_slice.result.now)) x)) (flight_after c.self.inside.session (marked c.hear-answer.new.rows)))
    (All-filter (λ x. not (includes (flight_after c.self.inside.session (marked c.as_mut_slice.result.now)) x)) (IsPacketOf c.self.inside.session)
    (flight_after c.self.inside.session (marked c.hear-answer.new.rows)) (flight_after-known c.self.inside.session (marked c.hear-answer.new.rows)))))
