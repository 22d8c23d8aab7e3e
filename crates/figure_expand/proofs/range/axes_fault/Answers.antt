use Rattle.figure_expand.proofs.Prelude.{ℕ, pos, get_or, arith, sym, ap, ◌∙◌, controls, One, values_on, first_unfit}
use Rattle.figure_expand.proofs.Unfit.{axes_here, axes_later}
use Rattle.figure_expand.proofs.range.axes_fault.Goals as goal

pub returns-in-Some : goal.returns-in-Some
returns-in-Some c =
    sym (c.loop-axis.invariant ∙ axes_here c.args.line c.loop-axis.axis c.args.curves.now (One (pos 0)) c.in-Some.fault (omega arith)
    (ap (λ (i : ℕ). first_unfit (values_on c.args.line c.loop-axis.axis (controls (get_or c.args.curves.now i (One (pos 0)))))) (sym c.from.ensures) ∙ sym c.in-Some.ensures))

pub loop-axis-preserved : goal.loop-axis-preserved
loop-axis-preserved c =
    c.loop-axis.invariant ∙ axes_later c.args.line c.loop-axis.axis c.args.curves.now (One (pos 0)) (omega arith)
    (ap (λ (i : ℕ). first_unfit (values_on c.args.line c.loop-axis.axis (controls (get_or c.args.curves.now i (One (pos 0)))))) (sym c.from.ensures) ∙ sym c.axis_fault.ensures ∙ c.in_default.is)
