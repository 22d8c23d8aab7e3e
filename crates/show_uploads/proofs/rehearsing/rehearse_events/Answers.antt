use Rattle.show_uploads.proofs.Prelude.{◌∙◌, sym, map, Name, state_at, IsRehearsalText, Differs, GaveUp, Refused}
use Rattle.show_uploads.proofs.ScheduleLemmas.{StandsAfter, among_names, rehearses_done}
use Rattle.show_uploads.proofs.rehearsing.rehearse_events.Goals as goal

pub name_at-requires-clause-drone : goal.name_at-requires-clause-drone
name_at-requires-clause-drone c =
    let stands : StandsAfter c.in_ok-world.world c.args.fitted.now c.args.readback c.args.start c.args.events.now = rw c.in_ok-session.ensures at c.in_ok-world.ensures in
    rw c.as_slice-names.ensures
    (among_names c.in_ok-world.world c.args.fitted.now c.args.readback c.args.start c.args.events.now (GaveUp c.in-GaveUp.drone c.in-GaveUp.packet) c.requires.valid stands (sym c.in-GaveUp.is ∙ c.progress.ensures))

pub name_at-requires-in-Refused-clause-drone : goal.name_at-requires-in-Refused-clause-drone
name_at-requires-in-Refused-clause-drone c =
    let stands : StandsAfter c.in_ok-world.world c.args.fitted.now c.args.readback c.args.start c.args.events.now = rw c.in_ok-session.ensures at c.in_ok-world.ensures in
    rw c.as_slice-names.ensures
    (among_names c.in_ok-world.world c.args.fitted.now c.args.readback c.args.start c.args.events.now (Refused c.in-Refused.drone c.in-Refused.packet c.in-Refused.status) c.requires.valid stands
    (sym c.in-Refused.is ∙ c.progress.ensures))

pub name_at-requires-in-Differs-clause-drone : goal.name_at-requires-in-Differs-clause-drone
name_at-requires-in-Differs-clause-drone c =
    let stands : StandsAfter c.in_ok-world.world c.args.fitted.now c.args.readback c.args.start c.args.events.now = rw c.in_ok-session.ensures at c.in_ok-world.ensures in
    rw c.as_slice-names.ensures
    (among_names c.in_ok-world.world c.args.fitted.now c.args.readback c.args.start c.args.events.now (Differs c.in-Differs.drone c.in-Differs.address c.in-Differs.wanted c.in-Differs.got) c.requires.valid stands
    (sym c.in-Differs.is ∙ c.progress.ensures))

pub returns-in-Done-clause-gives : goal.returns-in-Done-clause-gives
returns-in-Done-clause-gives c = λ s is.
    let stands : StandsAfter c.in_ok-world.world c.args.fitted.now c.args.readback c.args.start c.args.events.now = rw c.in_ok-session.ensures at c.in_ok-world.ensures in
    let said : IsRehearsalText (state_at c.in_ok-world.world.drones) c.args.fitted.now.settings.trajectory_id (map (λ (name : Name). name.items) c.args.fitted.now.names) c.in_ok-lines-in-Done.lines =
    rw c.as_slice-names.ensures at c.in_ok-lines-in-Done.ensures in
    rehearses_done c.in_ok-world.world c.args.fitted.now s c.args.readback c.args.start c.args.events.now c.in_ok-lines-in-Done.lines c.requires.valid c.requires.lands is stands (sym c.progress.ensures ∙ c.in-Done.is) said
