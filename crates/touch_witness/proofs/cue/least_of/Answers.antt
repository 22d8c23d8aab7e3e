use Rattle.touch_witness.proofs.Prelude.{◌+◌, ◌≤ℤ◌, ◌<ℤ◌, FitsSigned, sym, subst, arith, to_z-of_z, w128, IsLeastOf}
use Rattle.touch_witness.specs.declared.cue.Fraction.{Fraction}
use Rattle.touch_witness.proofs.Least.{fits_126, told_below, told_from}
use Rattle.touch_witness.proofs.CueLemmas.{least_fewer, least_first, least_kept, least_taken}
use Rattle.touch_witness.proofs.cue.least_of.Goals.{then-left-best, else-left-best}
use Rattle.touch_witness.proofs.cue.least_of.Goals as goal

pub loop-at-init : goal.loop-at-init
loop-at-init c =
    let fits : FitsSigned w128 c.left_at.result = fits_126 _ c.left_at.ensures.small in
    simp to_z-of_z (least_first c.args.trajs.now c.args.axes.r c.args.axes.h c.args.fine c.args.slot c.left_at.result c.left_at.ensures)

pub loop-at-preserved : goal.loop-at-preserved
loop-at-preserved c =
    let x_fits : FitsSigned w128 c.left_at-left.result = fits_126 _ c.left_at-left.ensures.small in
    let y_fits : FitsSigned w128 c.loop-at.best.left = fits_126 _ c.loop-at.invariant.here.small in
    elim c.if-left-best.branch [
      | then-left-best w ↦ (
          let less : c.left_at-left.result <ℤ c.loop-at.best.left = told_below _ _ (simp to_z-of_z at w.if-left-best.true) in
          subst (λ (s : Fraction). IsLeastOf c.args.trajs.now c.args.axes.r c.args.axes.h c.args.fine c.args.slot (c.loop-at.at + 1) s.at s.left) (sym w.best-is)
          (simp to_z-of_z (least_taken c.args.trajs.now c.args.axes.r c.args.axes.h c.args.fine c.args.slot c.loop-at.at c.loop-at.best.at c.loop-at.best.left c.left_at-left.result c.loop-at.invariant c.left_at-left.ensures (omega arith) less)))
      | else-left-best w ↦ (
          let more : c.loop-at.best.left ≤ℤ c.left_at-left.result = told_from _ _ (simp to_z-of_z at w.if-left-best.false) in
          subst (λ (s : Fraction). IsLeastOf c.args.trajs.now c.args.axes.r c.args.axes.h c.args.fine c.args.slot (c.loop-at.at + 1) s.at s.left) (sym w.best-is)
          (least_kept c.args.trajs.now c.args.axes.r c.args.axes.h c.args.fine c.args.slot c.loop-at.at c.loop-at.best.at c.loop-at.best.left c.left_at-left.result c.loop-at.invariant c.left_at-left.ensures more))
    ]

pub returns : goal.returns
returns c = least_fewer c.args.trajs.now c.args.axes.r c.args.axes.h c.args.fine c.args.slot c.loop-at.at _ c.loop-at.best.at c.loop-at.best.left c.loop-at.invariant (omega arith)
