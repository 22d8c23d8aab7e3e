use Rattle.upload_core.proofs.Prelude.{◌≡◌, ◌∙◌, length, ap, sym, arith, Row, row_at, tired_in}
use Rattle.upload_core.proofs.Windows.{row-at}
use Rattle.upload_core.proofs.Walks.{packet_of, tired-walk, tired-here}
use Rattle.upload_core.proofs.rows.first_tired.Goals as goal
use Rattle.upload_core.proofs.rows.first_tired.Goals.{After-tired}

of_row : (c : After-tired) → tired_in (row_at c.args.rows.now c.loop-drone.drone).window.items ≡ c.tired.result
of_row c =
    ap (λ (r : Row). tired_in r.window.items) (row-at c.args.rows.now c.loop-drone.drone c.index-rows-drone.result c.index-rows-drone.is (omega arith))
    ∙ sym c.tired.ensures

pub returns-in-Some : goal.returns-in-Some
returns-in-Some c =
    sym (tired-here c.args.rows.now c.loop-drone.drone (length c.args.rows.now) c.in-Some.packet (omega arith)
    (c.requires.rows c.loop-drone.drone (omega arith)) c.loop-drone.invariant (of_row (goal.at.returns-in-Some c).After-tired ∙ c.in-Some.is))

pub loop-drone-preserved : goal.loop-drone-preserved
loop-drone-preserved c =
    tired-walk c.args.rows.now c.loop-drone.drone (c.requires.rows c.loop-drone.drone (omega arith)) c.loop-drone.invariant
    ∙ ap (packet_of c.loop-drone.drone) (of_row (goal.at.loop-drone-preserved c).After-tired ∙ c.in-None.is)
