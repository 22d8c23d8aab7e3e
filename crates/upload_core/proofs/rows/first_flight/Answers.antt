use Rattle.upload_core.proofs.Prelude.{common_steps, ◌≡◌, ◌≤◌, ◌∙◌, List, length, sym, subst, ap, arith, length-append, length-map, drone_count, InFlight}
use Rattle.upload_core.proofs.Beginning.{first_windows, first-window, first_windows-walk, first_windows-flight}
use Rattle.upload_core.proofs.rows.first_flight.Goals as goal
use Rattle.upload_core.proofs.rows.first_flight.Goals.{After-as_slice}

few-entries : (c : After-as_slice) → length c.as_slice.result.now ≤ 4
few-entries c = subst (λ (es : List InFlight). length es ≤ 4) (sym c.as_slice.ensures.value) c.first_row-row.ensures.stands.shape.few

pub put_window-requires-clause-room : goal.put_window-requires-clause-room
put_window-requires-clause-room c = grind (arith, common_steps, few-entries)

pub loop-drone-preserved : goal.loop-drone-preserved
loop-drone-preserved c = grind (arith, common_steps, few-entries, first_windows, first-window, first_windows-walk, length-append, length-map)

pub returns : goal.returns
returns c =
    c.loop-drone.invariant.0
    ∙ ap (first_windows c.args.session.now) (let last = c.drones-drone-end.ensures.value in let e : c.loop-drone.drone ≡ drone_count c.args.session.now = omega arith in e)
    ∙ first_windows-flight c.args.session.now c.drones-drone-end.ensures.valid.some_drones
