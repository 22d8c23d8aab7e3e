use Rattle.upload_core.proofs.Prelude.{common_steps, ◌≡◌, ◌≤◌, ◌∙◌, List, length, sym, subst, ap, arith, length-append, length-map, InFlight, Row, row_at}
use Rattle.upload_core.proofs.Windows.{row-at, windows-walk}
use Rattle.upload_core.proofs.rows.put_flight.Goals as goal
use Rattle.upload_core.proofs.rows.put_flight.Goals.{After-as_slice}

-- the window is that of the drone's row, and so are its packets
same-window : (c : After-as_slice) → c.as_slice.result.now ≡ (row_at c.args.rows.now c.loop-drone.drone).window.items
same-window c =
    c.as_slice.ensures.value
    ∙ ap (λ (r : Row). r.window.items) (sym c.index-rows-drone.is ∙ sym (row-at c.args.rows.now c.loop-drone.drone c.index-rows-drone.result c.index-rows-drone.is (omega arith)))

few-entries : (c : After-as_slice) → length c.as_slice.result.now ≤ 4
few-entries c = subst (λ (es : List InFlight). length es ≤ 4) (sym (same-window c)) (c.requires.windows c.loop-drone.drone (omega arith))

pub put_window-requires-clause-room : goal.put_window-requires-clause-room
put_window-requires-clause-room c = grind (arith, common_steps, few-entries)

pub loop-drone-preserved : goal.loop-drone-preserved
loop-drone-preserved c = grind (arith, common_steps, few-entries, same-window, windows-walk, length-append, length-map)
