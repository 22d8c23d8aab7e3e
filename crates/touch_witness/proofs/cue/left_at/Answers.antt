use Rattle.touch_witness.proofs.Prelude.{common_steps, ◌≡◌, ◌<◌, length, pos, ◌*ℤ◌, ◌≤ℤ◌, FitsSigned, rules, arith, to_z-of_z, w128, most_ratio, right_side}
use Rattle.touch_witness.proofs.Least.{fits_126}
use Rattle.touch_witness.proofs.CueLemmas.{left_told}
use Rattle.touch_witness.proofs.Levels.{left_near}
use Rattle.touch_witness.proofs.cue.left_at.Goals as goal

pub returns : goal.returns
returns c =
    let len : length c.places-points.result ≡ 32 = search rules in
    let a_in : c.args.slot.a < length c.places-points.result = omega (arith, len, c.requires.pair, c.requires.drone, c.requires.few) in
    let b_in : c.args.slot.b < length c.places-points.result = omega (arith, len, c.requires.drone, c.requires.few) in
    let near : c.left_side.result ≤ℤ (pos most_ratio *ℤ right_side c.args.axes.r c.args.axes.h c.args.fine) =
    grind (arith, common_steps, pos, left_near) in
    let fits : FitsSigned w128 c.left_side.result = fits_126 _ c.left_side.ensures.small in
    simp to_z-of_z (left_told c.args.trajs.now c.args.axes.r c.args.axes.h c.args.fine c.args.slot c.args.at c.places-points.result c.left_side.result c.places-points.ensures.places c.left_side.ensures.small near c.left_side.ensures.exact)
