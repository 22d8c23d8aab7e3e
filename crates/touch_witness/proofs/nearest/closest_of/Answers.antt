use Rattle.touch_witness.proofs.Prelude.{FitsSigned, arith, refl, ap, sym, ◌∙◌, to_z-of_z, w128, Traj}
use Rattle.touch_witness.proofs.Least.{fits_126}
use Rattle.touch_witness.proofs.Levels.{closest_told, fits_116}
use Rattle.touch_witness.proofs.nearest.closest_of.Goals as goal

pub returns : goal.returns
returns c =
    let x_fits : FitsSigned w128 c.loop-cue.best.left = fits_126 _ c.loop-cue.invariant.best.small in
    let y_fits : FitsSigned w128 c.right_side-right.result = fits_116 _ c.right_side-right.ensures.small in
    closest_told c.args.trajs.now c.args.trajs.now c.args.axes.r c.args.axes.h c.args.fine c.loop-cue.cue c.level.result c.loop-cue.best c.index-trajs-0.result c.as_slice-cue-end.result.now c.right_side-right.result
    refl c.index-trajs-0.is (c.as_slice-cue-end.ensures ∙ sym (ap (λ (t : Traj). t.segments) c.index-trajs-0.is)) (omega arith) c.loop-cue-test.false c.loop-cue.invariant.best c.right_side-right.ensures.exact c.right_side-right.ensures.small
    (simp to_z-of_z at c.level.ensures.low) (simp to_z-of_z at c.level.ensures.high)
