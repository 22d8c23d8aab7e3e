use Rattle.bezier_core.proofs.Prelude.{arith, ◌+ℤ◌, ◌-ℤ◌, ◌*ℤ◌, FitsSigned, ints, to_z-of_z, w128}
use Rattle.bezier_core.proofs.BlendLemmas.{fits_part, fits_blend}
use Rattle.bezier_core.proofs.blend.Goals as goal

pub overflow_mul-result : goal.overflow_mul-result
overflow_mul-result c =
    let a_fits : FitsSigned w128 c.args.a = c.ranges.a in
    let c_fits : FitsSigned w128 c.args.c = c.ranges.c in
    let x_fits : FitsSigned w128 c.args.x = c.ranges.x in
    let d_fits : FitsSigned w128 (c.args.c -ℤ c.args.a) = omega (arith, ints) in
    simp to_z-of_z (fits_part (c.args.c -ℤ c.args.a) c.args.c c.requires.room.bound c.args.x (omega (arith, ints)) (omega (arith, ints)) c.requires.room.first c.requires.room.fits)

pub overflow_mul-result-2 : goal.overflow_mul-result-2
overflow_mul-result-2 c =
    let a_fits : FitsSigned w128 c.args.a = c.ranges.a in
    let y_fits : FitsSigned w128 c.args.y = c.ranges.y in
    simp to_z-of_z (fits_part c.args.a c.args.c c.requires.room.bound c.args.y c.requires.positive c.requires.within c.requires.room.second c.requires.room.fits)

pub overflow_add-result : goal.overflow_add-result
overflow_add-result c =
    let a_fits : FitsSigned w128 c.args.a = c.ranges.a in
    let c_fits : FitsSigned w128 c.args.c = c.ranges.c in
    let x_fits : FitsSigned w128 c.args.x = c.ranges.x in
    let y_fits : FitsSigned w128 c.args.y = c.ranges.y in
    let d_fits : FitsSigned w128 (c.args.c -ℤ c.args.a) = omega (arith, ints) in
    let first : FitsSigned w128 ((c.args.c -ℤ c.args.a) *ℤ c.args.x) = fits_part (c.args.c -ℤ c.args.a) c.args.c c.requires.room.bound c.args.x (omega (arith, ints)) (omega (arith, ints)) c.requires.room.first c.requires.room.fits in
    let second : FitsSigned w128 (c.args.a *ℤ c.args.y) = fits_part c.args.a c.args.c c.requires.room.bound c.args.y c.requires.positive c.requires.within c.requires.room.second c.requires.room.fits in
    simp to_z-of_z (fits_blend c.args.a c.args.c c.args.x c.args.y c.requires.positive c.requires.within c.requires.room)

pub returns : goal.returns
returns c =
    let a_fits : FitsSigned w128 c.args.a = c.ranges.a in
    let c_fits : FitsSigned w128 c.args.c = c.ranges.c in
    let x_fits : FitsSigned w128 c.args.x = c.ranges.x in
    let y_fits : FitsSigned w128 c.args.y = c.ranges.y in
    let d_fits : FitsSigned w128 (c.args.c -ℤ c.args.a) = omega (arith, ints) in
    let first : FitsSigned w128 ((c.args.c -ℤ c.args.a) *ℤ c.args.x) = fits_part (c.args.c -ℤ c.args.a) c.args.c c.requires.room.bound c.args.x (omega (arith, ints)) (omega (arith, ints)) c.requires.room.first c.requires.room.fits in
    let second : FitsSigned w128 (c.args.a *ℤ c.args.y) = fits_part c.args.a c.args.c c.requires.room.bound c.args.y c.requires.positive c.requires.within c.requires.room.second c.requires.room.fits in
    let sum : FitsSigned w128 ((c.args.c -ℤ c.args.a) *ℤ c.args.x +ℤ c.args.a *ℤ c.args.y) = fits_blend c.args.a c.args.c c.args.x c.args.y c.requires.positive c.requires.within c.requires.room in
    simp to_z-of_z
