use Rattle.show_plan.proofs.Prelude.{List, map, ap, sym, subst, ◌∙◌, Traj, IsSession, load_for}
use Rattle.show_plan.proofs.Landing.{is_session, session_is}
use Rattle.show_plan.proofs.Uploadable.{uploadable}
use Rattle.show_plan.proofs.upload.session.Goals as goal

pub of_loads-requires : goal.of_loads-requires
of_loads-requires c =
    let f = c.args.f.now in
    let loads = c.in_ok-loads.ensures ∙ ap (λ (ts : List Traj). map load_for ts) c.as_slice.ensures in
    let place = c.place_in.ensures in
    subst IsSession (sym (session_is c.place_in.result f.settings c.in_ok-loads.loads.items f.sent c.args.readback c.args.start place.memory_id place.offset place.trajectory_id loads))
    (is_session f.settings f.sent c.args.readback c.args.start (uploadable f c.join_law.ensures.curve c.requires))

pub returns : goal.returns
returns c =
    let f = c.args.f.now in
    let loads = c.in_ok-loads.ensures ∙ ap (λ (ts : List Traj). map load_for ts) c.as_slice.ensures in
    let place = c.place_in.ensures in
    c.of_loads.ensures ∙ session_is c.place_in.result f.settings c.in_ok-loads.loads.items f.sent c.args.readback c.args.start place.memory_id place.offset place.trajectory_id loads
