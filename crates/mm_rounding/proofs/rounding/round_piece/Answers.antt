use Rattle.mm_rounding.proofs.Prelude.{sym, ap, arith, ◌∙◌, fitted, rounded, axis_on, counted, segment_of}
use Rattle.mm_rounding.proofs.Elements.{all_fitted, as_it_is, axis_unfitted, in_millimetres}
use Rattle.mm_rounding.proofs.rounding.round_piece.Goals as goal

pub returns-in_err-z : goal.returns-in_err-z
returns-in_err-z c =
    let p = c.args.p.now in
    c.from_residual-in_err-z.ensures
    ∙ axis_unfitted p.ms (counted p) 2 (axis_on p 2) (segment_of p) (omega arith) (sym c.in_err-z.was ∙ c.element-3.ensures ∙ ap fitted (in_millimetres (axis_on p 2)))

pub returns-in_err-yaw : goal.returns-in_err-yaw
returns-in_err-yaw c =
    let p = c.args.p.now in
    c.from_residual-in_err-yaw.ensures
    ∙ axis_unfitted p.ms (counted p) 3 (axis_on p 3) (segment_of p) (omega arith) (sym c.in_err-yaw.was ∙ c.element-4.ensures ∙ ap fitted (as_it_is (axis_on p 3)))

pub returns : goal.returns
returns c =
    let p = c.args.p.now in
    all_fitted p.ms (rounded (axis_on p 0)) (rounded (axis_on p 1)) (rounded (axis_on p 2)) (axis_on p 3) c.in_ok-x.x c.in_ok-y.y c.in_ok-z.z c.in_ok-yaw.yaw
    c.if-p-eq0.false
    (sym c.in_ok-x.was ∙ c.element.ensures ∙ ap fitted (in_millimetres (axis_on p 0)))
    (sym c.in_ok-y.was ∙ c.element-2.ensures ∙ ap fitted (in_millimetres (axis_on p 1)))
    (sym c.in_ok-z.was ∙ c.element-3.ensures ∙ ap fitted (in_millimetres (axis_on p 2)))
    (sym c.in_ok-yaw.was ∙ c.element-4.ensures ∙ ap fitted (as_it_is (axis_on p 3)))
