use Rattle.show_plan.proofs.Prelude.{◌++◌, ◌<◌, length, false, true, List, ℕ, sym, ap, ◌∙◌, arith, session_for, drone_part}
use Rattle.show_plan.proofs.PacketLines.{packets_at}
use Rattle.show_plan.proofs.PlanLines.{parts_next, parts_over}
use Rattle.show_plan.proofs.Landing.{alone_uploadable}
use Rattle.show_plan.proofs.text.put_parts.Goals as goal

pub put_part-requires : goal.put_part-requires
put_part-requires c =
    alone_uploadable c.args.settings c.args.trajs.now c.loop-d.d c.index-trajs-d.result c.requires.uploadable c.index-trajs-d.is (omega (arith, c.requires.count, c.loop-d-test.true))

pub loop-d-preserved : goal.loop-d-preserved
loop-d-preserved c =
    let s = session_for c.args.settings c.args.trajs.now false true in
    let within : c.loop-d.d < length c.args.trajs.now = omega (arith, c.requires.count, c.loop-d-test.true) in
    let more =
    c.in_ok-put_part.ensures s c.loop-d.d (packets_at c.args.settings c.args.trajs.now c.loop-d.d c.index-trajs-d.result within c.index-trajs-d.is)
    ∙ ap (λ (name : List ℕ). c.loop-d.text ++ drone_part s c.loop-d.d name c.index-trajs-d.result) c.as_slice.ensures.value in
    let next =
    parts_next c.loop-d.text c.put_part.new.text s c.args.names.now c.args.trajs.now c.loop-d.d c.index-names-d.result c.index-trajs-d.result
    (omega (arith, c.loop-d-test.true)) c.requires.count c.index-names-d.is c.index-trajs-d.is more in
    next ∙ c.loop-d.invariant

pub returns : goal.returns
returns c =
    sym (parts_over c.loop-d.text (session_for c.args.settings c.args.trajs.now false true) c.args.names.now c.args.trajs.now c.loop-d.d c.loop-d-test.false) ∙ c.loop-d.invariant
