use Rattle.touch_witness.proofs.Prelude.{FitsSigned, to_z-of_z, w128}
use Rattle.touch_witness.proofs.Least.{fits_126}
use Rattle.touch_witness.proofs.Levels.{fits_116}
use Rattle.touch_witness.proofs.CueLemmas.{closest_in_told}
use Rattle.touch_witness.proofs.cue.closest_in.Goals as goal

pub returns : goal.returns
returns c =
    let x_fits : FitsSigned w128 c.least_of-best.result.left = fits_126 _ c.least_of-best.ensures.here.small in
    let y_fits : FitsSigned w128 c.right_side-right.result = fits_116 _ c.right_side-right.ensures.small in
    closest_in_told c.args.trajs.now c.args.axes.r c.args.axes.h c.args.fine c.args.slot c.least_of-best.result.at c.level.result c.least_of-best.result.left c.right_side-right.result
    c.requires.slot c.least_of-best.ensures c.right_side-right.ensures.exact c.right_side-right.ensures.small
    (simp to_z-of_z at c.level.ensures.low) (simp to_z-of_z at c.level.ensures.high)
