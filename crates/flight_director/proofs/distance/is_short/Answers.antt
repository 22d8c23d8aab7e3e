use Rattle.flight_director.proofs.Prelude.{◌∙◌, ap, ◌≡◌, ◌<◌, FitsSigned, pos, arith, w64, to_z, int_le, ◌+ℤ◌, ℤ, to_z-of_z, ints, common_steps, square}
use Rattle.std.proofs.Math.Facts.{to_z_pos}
use Rattle.flight_director.proofs.distance.is_short.Goals as goal

pub overflow_add-result : goal.overflow_add-result
overflow_add-result c =
    let a = c.squared.ensures.low in
    let b = c.squared.ensures.high in
    let d = c.squared-2.ensures.low in
    let e = c.squared-2.ensures.high in
    grind (arith, common_steps, to_z-of_z, a, b, d, e)

pub returns : goal.returns
returns c =
    let most : to_z w64 c.args.most ≡ pos c.args.most = to_z_pos w64 {n = c.args.most} (omega arith) in
    let a = c.squared.ensures.low in
    let b = c.squared.ensures.high in
    let d = c.squared-2.ensures.low in
    let e = c.squared-2.ensures.high in
    let f = c.squared-3.ensures.low in
    let g = c.squared-3.ensures.high in
    let h = c.squared-4.ensures.low in
    let i = c.squared-4.ensures.high in
    let x : FitsSigned w64 c.squared.result = omega (arith, ints, a, b) in
    let y : FitsSigned w64 c.squared-2.result = omega (arith, ints, d, e) in
    let z : FitsSigned w64 c.squared-3.result = omega (arith, ints, f, g) in
    let w : FitsSigned w64 c.squared-4.result = omega (arith, ints, h, i) in
    let xy : FitsSigned w64 (c.squared.result +ℤ c.squared-2.result) = omega (arith, ints, a, b, d, e) in
    let xyz : FitsSigned w64 (c.squared.result +ℤ c.squared-2.result +ℤ c.squared-3.result) = omega (arith, ints, a, b, d, e, f, g) in
    let rx = c.requires.x in
    let gx : FitsSigned w64 c.args.x = omega (arith, ints, rx) in
    let ry = c.requires.y in
    let gy : FitsSigned w64 c.args.y = omega (arith, ints, ry) in
    let rz = c.requires.z in
    let gz : FitsSigned w64 c.args.z = omega (arith, ints, rz) in
    let vx : c.squared.result ≡ square c.args.x = (simp to_z-of_z at c.squared.ensures.value) in
    let vy : c.squared-2.result ≡ square c.args.y = (simp to_z-of_z at c.squared-2.ensures.value) in
    let vz : c.squared-3.result ≡ square c.args.z = (simp to_z-of_z at c.squared-3.ensures.value) in
    let v : c.squared-4.result ≡ square (pos c.args.most) = (rw most at c.squared-4.ensures.value) in
    simp to_z-of_z (same c.squared.result c.squared-2.result c.squared-3.result c.squared-4.result _ _ _ _ vx vy vz v) where
      same : (a b c d e f g h : ℤ) → a ≡ e → b ≡ f → c ≡ g → d ≡ h → int_le (a +ℤ b +ℤ c) d ≡ int_le (e +ℤ f +ℤ g) h
      same a b c d e f g h p q r s = cc
