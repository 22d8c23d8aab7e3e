use Rattle.flight_director.proofs.Prelude.{◌≡◌, ◌++◌, ◌∙◌, Bool, List, sym, ap, map, list_any, Note, Noted, notes, done, overdue, is_grave}
use Rattle.flight_director.proofs.Walks.{happens-by, says-by, notes-by}
use Rattle.flight_director.proofs.state.State.happen.Goals as goal
use Rattle.flight_director.proofs.state.State.happen.Goals.{After-lead}

-- the notes are those of the event
same-notes : (c : After-lead) → c.overdue.new.out.items ≡ notes c.args.f.now c.args.self.now c.args.e.now
same-notes c =
    c.overdue.ensures.noted
    ∙ (ap (λ xs. xs ++ overdue c.args.f.now c.hear.new.self c.args.e.now) c.noticed.ensures.noted
    ∙ notes-by c.args.f.now c.args.self.now c.hear.new.self c.args.e.now c.hear.ensures)

same-fault : (c : After-lead) → c.any_grave-fault.result ≡ list_any (λ (n : Note). is_grave c.args.f.now c.hear.new.self n.fault) c.overdue.new.out.items
same-fault c =
    c.any_grave-fault.ensures ∙ ap (λ xs. list_any (λ (n : Note). is_grave c.args.f.now c.hear.new.self n.fault) xs) c.as_slice.ensures.value

pub returns-clause-state : goal.returns-clause-state
returns-clause-state c =
    c.lead.ensures
    ∙ happens-by c.args.f.now c.args.self.now c.hear.new.self c.args.e.now c.overdue.new.out.items c.any_grave-fault.result c.choose-choice.result
    c.hear.ensures (same-notes c) (same-fault c) c.choose-choice.ensures.value

pub returns-clause-out : goal.returns-clause-out
returns-clause-out c =
    c.put.ensures
    ∙ (ap (λ xs. xs ++ done c.args.f.now c.hear.new.self c.choose-choice.result) (c.put_notes.ensures ∙ ap (λ xs. map Noted xs) c.as_slice-2.ensures.value)
    ∙ says-by c.args.f.now c.args.self.now c.hear.new.self c.args.e.now c.overdue.new.out.items c.any_grave-fault.result c.choose-choice.result
    c.hear.ensures (same-notes c) (same-fault c) c.choose-choice.ensures.value)
